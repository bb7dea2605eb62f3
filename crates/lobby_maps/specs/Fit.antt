-- How online users, the clients and the battles fit together, and at which clients users are.
use Rattle.std.specs.Prelude.{◌≡◌, ℕ, ◌≤◌, Bool, true, false, not, filter, List, [], ◌∷◌, flat_map, Option, Some}
use Rattle.std.specs.Prelude.{None, is_some}
use Rattle.line_words.specs.Table.{ByName, ByNumber, at_number, at_name, same_name, same_number}
use Rattle.lobby_model.specs.State.{State, Client, Battle, name_of}
use Rattle.lobby_model.specs.Outcome.{is_named, user}
use Rattle.lobby_battles.specs.declared.online_users.OnlineUser.{OnlineUser}
use Rattle.lobby_battles.specs.Battles.{KnowTheirBattles}
use Rattle.lobby_battles.specs.OnlineUsers.{Agree, IsListed, client_in}
use Rattle.lobby_post.specs.Posted.{Posted, Reaches, addressed, has_number}
use Rattle.lobby_post.specs.Crowd.{Crowd, Known}
use Rattle.lobby_post.specs.Mail.{AreDue, plain}

-- the clients at which the users of these names are
abbrev pub clients_of : ByName OnlineUser → List (List ℕ) → List ℕ
clients_of online names = flat_map (λ name. client_in (at_name online name)) names

abbrev pub is_some_number : Option ℕ → ℕ → Bool
is_some_number None c = false
is_some_number (Some d) c = same_number c d

-- numbers that are none of these
abbrev pub numbers_but : List ℕ → List ℕ → List ℕ
numbers_but these numbers = filter (λ c. not (has_number these c)) numbers

-- no client bears a number beyond the last that was given
abbrev pub Numbered : ℕ → ByNumber Client → Type 0
Numbered last clients = (c : ℕ) → is_some (at_number clients c) ≡ true → c ≤ last

-- How the maps fit together: outboxes have one limit and wait for nothing, users and clients agree, numbers are given
-- once, it is known who waits, and users sit in their battles, or where they ask
pub record Fit (limit : ℕ) (clients : Crowd) (online : ByName OnlineUser) (numbers : List ℕ) (last : ℕ)
    (battles : ByNumber Battle) (last_battle : ℕ) : Type 0 where
  pub limited : clients.limit ≡ limit
  pub rest : AreDue [] clients.slots
  pub agree : Agree (plain clients.slots) online
  pub listed : IsListed numbers (plain clients.slots)
  pub numbered : Numbered last (plain clients.slots)
  pub known : Known clients last
  pub knowing : KnowTheirBattles battles online
  pub counted : last_battle ≤ 2147483647

-- a user is logged in at this client, and at no other
abbrev pub IsSole : State → ℕ → List ℕ → Type 0
IsSole s c name = (d : ℕ) → same_number d c ≡ is_named (same_name name) (name_of s d)

-- the issuer alone, who is the user of a name, got the lines that were being told
abbrev pub IsOwn : State → Posted → Posted → List ℕ → Type 0
IsOwn s old new name = Reaches s old.issuer (old.issuer ∷ []) (user name) × (new ≡ addressed old (old.issuer ∷ []))

-- Where users are logged in, and how that agrees with the clients.
use Rattle.std.specs.Prelude.{◌≡◌, ℕ, Bool, if◌then◌else◌, List, [], ◌∷◌, Option, Some, None, is_some}
use Rattle.line_words.specs.Table.{ByName, ByNumber, at_name, without_name, map_values, same_number, same_name}
use Rattle.lobby_model.specs.State.{User, Client, name_at}
use Rattle.lobby_model.specs.Outcome.{is_named}
use Rattle.lobby_battles.specs.declared.online_users.OnlineUser.{OnlineUser}
use Rattle.lobby_post.specs.Posted.{has_number}

-- an online user as the plain lobby has it
abbrev pub plain_user : OnlineUser → User
plain_user online_user = record {
  country = online_user.country;
  cpu = online_user.cpu;
  account = online_user.account;
  status = online_user.status;
  authorises = online_user.authorises;
}

abbrev pub users_of : ByName OnlineUser → ByName User
users_of online = map_values (λ name online_user. plain_user online_user) online

abbrev pub online_user_with : ℕ → OnlineUser → OnlineUser
online_user_with status online_user = record online_user { status = status }

-- in a battle, or asking to join it
abbrev pub online_user_in : ℕ → OnlineUser → OnlineUser
online_user_in number online_user = record online_user { battle = Some number }

-- changed by f, where there is somebody for it
abbrev pub where_some : {A B : Type 0} → (A → B → B) → Option A → B → B
where_some f None b = b
where_some f (Some a) b = f a b

abbrev pub without_one : {X : Type 0} → List ℕ → ByName X → ByName X
without_one name m = without_name m name

-- the client at which a user is, where there is one of this name
abbrev pub client_in : Option OnlineUser → List ℕ
client_in None = []
client_in (Some online_user) = online_user.client.number ∷ []

-- the number in the key of a user's client; 0, which no client bears, where there is no user
abbrev pub client_number : Option OnlineUser → ℕ
client_number None = 0
client_number (Some online_user) = online_user.client.number

-- The client of who is online under a name is the one that is logged in under it
abbrev pub Agree : ByNumber Client → ByName OnlineUser → Type 0
Agree clients online = (name : List ℕ) (c : ℕ)
    → has_number (client_in (at_name online name)) c ≡ is_named (same_name name) (name_at clients c)

-- the numbers are those of the clients that are logged in
abbrev pub IsListed : List ℕ → ByNumber Client → Type 0
IsListed numbers clients = (c : ℕ) → has_number numbers c ≡ is_some (name_at clients c)

-- two lists of numbers differ at most in c, which the second has or has not
abbrev pub IsSet : ℕ → Bool → List ℕ → List ℕ → Type 0
IsSet c there was now = (d : ℕ) → has_number now d ≡ (if same_number c d then there else has_number was d)

-- Worked rows of the fold, one kind of reply after another: oneself and other users, channels, battles. The values are those of the protocol.
use Rattle.std.proofs.Common.{◌≡◌, ℕ, List, [], ◌∷◌, ◌++◌, refl, Bool, true, false}
use Rattle.std.specs.Prelude.{ℤ, pos, negsuc, codes, None}
use Prim.Native.String.{String}
use Rattle.reply_kinds.specs.declared.Reply.{Reply}
use Rattle.reply_kinds.specs.declared.Reply.TheVariants as reply
use Rattle.lobby_model.specs.State.{Info}
use Rattle.lobby_model.proofs.Fixture.{anna, bert, cleo, main}
use Rattle.lobby_view.specs.View.{View, Known, Listed, new_view, shown_all}

abbrev folded : List Reply → View
folded replies = shown_all (new_view []) replies

abbrev user : String → ℤ → ℕ → ℕ → Known
user country cpu account status = record { country = codes country; cpu = cpu; account = account; status = status }

-- users: each comes with status 0
abbrev two_users : List Reply
two_users = reply.Accepted anna ∷ reply.AddUser anna (codes "DE") (pos 0) 1 ∷ reply.AddUser bert (codes "??") (negsuc 6) 2 ∷ []

users_come : folded two_users
    ≡ record (new_view anna) { users = (anna, user "DE" (pos 0) 1 0) ∷ (bert, user "??" (negsuc 6) 2 0) ∷ [] }
users_come = refl

status_is_set : (folded (two_users ++ reply.ClientStatus bert 12 ∷ [])).users
    ≡ (anna, user "DE" (pos 0) 1 0) ∷ (bert, user "??" (negsuc 6) 2 12) ∷ []
status_is_set = refl

status_of_a_stranger : folded (two_users ++ reply.ClientStatus cleo 12 ∷ []) ≡ folded two_users
status_of_a_stranger = refl

user_goes : (folded (two_users ++ reply.RemoveUser bert ∷ [])).users ≡ (anna, user "DE" (pos 0) 1 0) ∷ []
user_goes = refl

-- a known user starts anew, its status too
user_comes_again : (folded (two_users ++ reply.ClientStatus bert 12 ∷ reply.AddUser bert (codes "FR") (pos 9) 3 ∷ [])).users
    ≡ (anna, user "DE" (pos 0) 1 0) ∷ (bert, user "FR" (pos 9) 3 0) ∷ []
user_comes_again = refl

-- channels: names in order of joining
abbrev in_main : List Reply
in_main = two_users ++ reply.Join main ∷ reply.Clients main (cleo ∷ bert ∷ []) ∷ reply.Clients main (anna ∷ []) ∷ []

names_in_order : (folded in_main).channels ≡ (main, cleo ∷ bert ∷ anna ∷ []) ∷ []
names_in_order = refl

one_more_joins : (folded (in_main ++ reply.Left main bert ∷ reply.Joined main (codes "Dora") ∷ [])).channels
    ≡ (main, cleo ∷ anna ∷ codes "Dora" ∷ []) ∷ []
one_more_joins = refl

own_leaving_ends_it : (folded (in_main ++ reply.Left main anna ∷ [])).channels ≡ []
own_leaving_ends_it = refl

joined_elsewhere : folded (in_main ++ reply.Joined (codes "other") bert ∷ reply.Left (codes "other") bert ∷ []) ≡ folded in_main
joined_elsewhere = refl

channel_starts_anew : (folded (in_main ++ reply.Join main ∷ [])).channels ≡ (main, []) ∷ []
channel_starts_anew = refl

-- battles: no spectators and not locked at first, the founder alone in it
abbrev pub info : ℕ → Bool → ℤ → String → Info
info spectators locked map_hash map = record {
  battle_type = 1;
  nat_type = 2;
  founder = bert;
  ip = codes "10.0.0.2";
  port = 8452;
  max_players = 8;
  passworded = true;
  rank = negsuc 0;
  map_hash = map_hash;
  engine_name = codes "Spring";
  engine_version = codes "104.0";
  map = codes map;
  title = codes "Bert's";
  game_name = codes "BA 9.46";
  spectators = spectators;
  locked = locked;
}

abbrev opened : ℕ → Reply
opened id =
    reply.BattleOpened id (record {
      battle_type = 1;
      nat_type = 2;
      founder = bert;
      ip = codes "10.0.0.2";
      port = 8452;
      max_players = 8;
      passworded = true;
      rank = negsuc 0;
      map_hash = pos 5;
      engine_name = codes "Spring";
      engine_version = codes "104.0";
      map = codes "Comet";
      title = codes "Bert's";
      game_name = codes "BA 9.46";
    })

abbrev listed : Info → List (List ℕ) → Listed
listed info members = record { info = info; members = members }

abbrev one_battle : List Reply
one_battle = two_users ++ opened 7 ∷ reply.JoinedBattle 7 cleo None ∷ []

battle_is_listed : (folded one_battle).battles ≡ (7, listed (info 0 false (pos 5) "Comet") (bert ∷ cleo ∷ [])) ∷ []
battle_is_listed = refl

nobody_joined : (folded one_battle).own ≡ None
nobody_joined = refl

battle_is_updated : (folded (one_battle ++ reply.UpdateBattleInfo 7 2 true (negsuc 0) (codes "Duck") ∷ [])).battles
    ≡ (7, listed (info 2 true (negsuc 0) "Duck") (bert ∷ cleo ∷ [])) ∷ []
battle_is_updated = refl

member_leaves : (folded (one_battle ++ reply.LeftBattle 7 cleo ∷ [])).battles ≡ (7, listed (info 0 false (pos 5) "Comet") (bert ∷ [])) ∷ []
member_leaves = refl

battle_is_closed : (folded (one_battle ++ opened 3 ∷ reply.BattleClosed 7 ∷ [])).battles ≡ (3, listed (info 0 false (pos 5) "Comet") (bert ∷ [])) ∷ []
battle_is_closed = refl

battle_starts_anew : (folded (one_battle ++ reply.UpdateBattleInfo 7 2 true (negsuc 0) (codes "Duck") ∷ opened 7 ∷ [])).battles
    ≡ (7, listed (info 0 false (pos 5) "Comet") (bert ∷ [])) ∷ []
battle_starts_anew = refl

battle_unknown : folded (one_battle ++ reply.JoinedBattle 9 anna None ∷ reply.UpdateBattleInfo 9 1 true (pos 0) [] ∷ reply.BattleClosed 9 ∷ [])
    ≡ folded one_battle
battle_unknown = refl

-- an accepted login starts all anew
login_starts_anew : folded (in_main ++ opened 7 ∷ reply.JoinBattle 7 (pos 0) ∷ reply.Accepted cleo ∷ []) ≡ new_view cleo
login_starts_anew = refl

-- what is said, asked or refused changes nothing
abbrev talk : List Reply
talk =
    reply.TasServer (codes "0.38") (codes "*") 8201 0 ∷ reply.Denied (codes "no") ∷ reply.Motd (codes "hello") ∷ reply.ServerMsg (codes "no")
    ∷ reply.LoginInfoEnd ∷ reply.Pong ∷ reply.JoinFailed main (codes "no") ∷ reply.Said main bert (codes "hi")
    ∷ reply.SaidEx main bert (codes "waves") ∷ reply.SayPrivate bert (codes "hi") ∷ reply.SaidPrivate bert (codes "hi") ∷ reply.Channel (codes "other") 3 ∷ reply.EndOfChannels
    ∷ reply.OpenBattleFailed (codes "no") ∷ reply.JoinBattleFailed (codes "no") ∷ reply.RequestBattleStatus ∷ reply.SaidBattle bert (codes "hi")
    ∷ reply.SaidBattleEx bert (codes "waves") ∷ reply.ForceQuitBattle ∷ reply.Ring bert ∷ reply.JoinBattleRequest bert (codes "10.0.0.2") ∷ []

talk_changes_nothing : folded (in_main ++ opened 7 ∷ reply.JoinBattle 7 (pos 0) ∷ talk)
    ≡ folded (in_main ++ opened 7 ∷ reply.JoinBattle 7 (pos 0) ∷ [])
talk_changes_nothing = refl

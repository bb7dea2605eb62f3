-- The plain users of those who are online.
use Rattle.std.proofs.Common.{◌≡◌, ℕ, List, refl, sym, ap, ◌∙◌}
use Rattle.std.specs.Prelude.{Option, Some, None, is_some}
use Rattle.std.specs.Option.{option_map}
use Rattle.std.specs.BTreeMap.{is_at}
use Rattle.std.specs.Map.{lookup}
use Rattle.line_words.specs.Table.{ByName, at_name, name_cmp}
use Rattle.line_words.proofs.Tables.{at-map_values, lookup_is_find}
use Rattle.lobby_model.specs.State.{User}
use Rattle.lobby_battles.specs.declared.online_users.OnlineUser.{OnlineUser}
use Rattle.lobby_battles.specs.OnlineUsers.{plain_user, users_of}

-- the user of a name, by who is online under it
pub user_at : (online : ByName OnlineUser) (users : ByName User) (name : List ℕ) (online_user : Option OnlineUser) → users_of online ≡ users
    → online_user ≡ lookup (is_at (name_cmp name)) online → at_name users name ≡ option_map plain_user online_user
user_at online users name online_user are found =
    ap (λ us. at_name us name) (sym are) ∙ at-map_values name_cmp plain_user online name
    ∙ ap (option_map plain_user) (sym (found ∙ lookup_is_find name_cmp name online))

pub is_user_at : (online : ByName OnlineUser) (users : ByName User) (key name : List ℕ) → users_of online ≡ users → key ≡ name
    → is_some (at_name users name) ≡ is_some (lookup (is_at (name_cmp key)) online)
is_user_at online users key name are same =
    ap (λ k. is_some (at_name users k)) (sym same) ∙ ap is_some (user_at online users key _ are refl)
    ∙ elim (lookup (is_at (name_cmp key)) online) as (λ o. is_some (option_map plain_user o) ≡ is_some o) [ None ↦ refl | Some online_user ↦ refl ]

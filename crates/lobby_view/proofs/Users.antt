-- Users as all know them: one shows a status, one is gone.
use Rattle.std.proofs.Common.{ℕ, List, refl, sym, ap, Bool}
use Rattle.line_words.specs.Table.{ByName, name_cmp, map_values}
use Rattle.line_words.proofs.Tables.{map_values-without}
use Rattle.lobby_model.specs.State.{State, User, user_with}
use Rattle.lobby_model.specs.Sessions.{user_has, is_gone}
use Rattle.lobby_view.specs.View.{View, Known, known_with}
use Rattle.lobby_view.specs.Observe.{observe, known}
use Rattle.lobby_view.proofs.Basics.{Seen}
use Rattle.lobby_view.proofs.Ordered.{values_changed}

abbrev pub all_known : ByName User → ByName Known
all_known users = map_values (λ name user. known user) users

abbrev pub at_users : View → ByName Known → View
at_users v users = record v { users = users }

module _ (s : State) (mine : Bool) (u me : List ℕ) where
  pub status_seen : (status : ℕ) → Seen s mine u (user_has me status)
  status_seen status = ap (at_users (observe s u)) (sym (values_changed name_cmp known (user_with status) (known_with status) (λ user. refl) s.users me))

  pub gone_seen : Seen s mine u (is_gone me)
  gone_seen = ap (at_users (observe s u)) (sym (map_values-without name_cmp (λ name user. known user) s.users me))

-- A log out, seen by the others.
use Rattle.std.proofs.Common.{◌≡◌, ℕ, List, [], ◌∷◌, ◌++◌, refl, ap, ◌∙◌, false}
use Rattle.std.specs.Prelude.{Option, Some, None, map}
use Rattle.line_words.specs.Table.{same_name}
use Rattle.room_lists.specs.Room.{without_asker}
use Rattle.lobby_model.specs.State.{State, Battle, asked_by, battle_of}
use Rattle.lobby_model.specs.Outcome.{Happening}
use Rattle.lobby_model.specs.Channels.{leaves_all}
use Rattle.lobby_model.specs.Battles.{asks_no_more, drops_own, leaves_battle, leaves_own}
use Rattle.lobby_model.specs.Sessions.{unseen, is_gone, logs_out}
use Rattle.lobby_model.specs.Sound.{Sound}
use Rattle.lobby_model.proofs.ChannelsKept.{leaves_all_keeps}
use Rattle.lobby_model.proofs.BattlesKept.{own_battle, own_request}
use Rattle.lobby_view.specs.View.{shown_all}
use Rattle.lobby_view.specs.Observe.{observe}
use Rattle.lobby_view.proofs.Basics.{Seen, AllSeen, others_see}
use Rattle.lobby_view.proofs.Channels.{leaves_all_seen}
use Rattle.lobby_view.proofs.Left.{leaves_battle_seen}
use Rattle.lobby_view.proofs.Quiet.{hidden_seen}
use Rattle.lobby_view.proofs.Users as users

unseen_seen : (s : State) (u : List ℕ) (h : Happening) → Seen s false u h → Seen s false u (unseen h)
unseen_seen s u h seen = ap (shown_all (observe s u)) (others_see u h.told) ∙ seen

module _ (s : State) (sound : Sound s) (me u : List ℕ) (apart : same_name u me ≡ false) where
  abbrev out : State
  out = (leaves_all me s).after s

  out_sound : Sound out
  out_sound = leaves_all_keeps s sound me s

  gone_seen : (t : State) → Seen t false u (unseen (is_gone me))
  gone_seen t = unseen_seen t u (is_gone me) (users.gone_seen t false u me)

  rest_seen : (asked : Option (ℕ × Battle)) → asked_by out me ≡ asked → (own : Option (ℕ × Battle)) → battle_of out me ≡ own
      → AllSeen out false u (map unseen (drops_own me asked ++ (leaves_own me own ++ is_gone me ∷ [])))
  rest_seen None asks None is = (gone_seen out, tt)
  rest_seen (Some e) asks None is = (
    hidden_seen out false u e.0 (without_asker me) (λ room. refl) [] tt,
    (gone_seen ((asks_no_more me e.0).after out), tt),
  )
  rest_seen (Some e) asks (Some own) is =
      let there = own_request out out_sound me e asks in
      let in_it = own_battle out out_sound me own.0 own.1 is in
      absurd (out_sound.askers.outside me e.0 own.0 e.1 own.1 there.0 in_it.0 there.1 in_it.1)
  rest_seen None asks (Some own) is =
      let there = own_battle out out_sound me own.0 own.1 is in
      let leaving = leaves_battle me own.0 own.1 in (
        unseen_seen out u leaving (leaves_battle_seen out out_sound u own.0 own.1 there.0 me there.1 false),
        (gone_seen (leaving.after out), tt),
      )

  pub logs_out_seen : AllSeen s false u (logs_out s (Some me))
  logs_out_seen = (unseen_seen s u (leaves_all me s) (leaves_all_seen s sound.channels.in_order me u apart), rest_seen (asked_by s me) refl (battle_of s me) refl)

-- The view of a client's bytes is what the plain lobby shows it.
use Rattle.std.proofs.Common.{◌≡◌, ℕ, List, [], ◌++◌, sym, ap, ◌∙◌, true, false, append-nil}
use Rattle.std.specs.Prelude.{Some, not, ◌&&◌, IsTrue}
use Rattle.std.specs.List.{AllByRecursion}
use Rattle.account_book.specs.Account.{Account, IsHeld}
use Rattle.line_words.specs.Table.{at_number}
use Rattle.lobby_model.specs.declared.event.Event.{Event}
use Rattle.lobby_model.specs.declared.event.Phase.TheVariants.{In}
use Rattle.lobby_model.specs.declared.schedule.Step.{Step}
use Rattle.lobby_model.specs.Configuration.{Configuration, is_configuration}
use Rattle.lobby_model.specs.State.{Client, is_ended, is_live_client, hears, name_of, name_of_client, name_in, empty_lobby}
use Rattle.lobby_model.specs.History.{after, put_in, taken_in}
use Rattle.lobby_model.specs.Schedule.{World, new_world, Gives}
use Rattle.lobby_model.proofs.Balance.{taken_then_unread}
use Rattle.lobby_view.specs.View.{new_view}
use Rattle.lobby_view.specs.Observe.{observe}
use Rattle.lobby_view.specs.Bytes.{view}
use Rattle.lobby_view.specs.Legal.{IsLegalHistory, IsLegalSchedule}
use Rattle.lobby_view.proofs.History.{view_of_replies}
use Rattle.lobby_view.proofs.Printed.{view_of_put}
use Rattle.lobby_view.proofs.LinesKept.{all_readable}
use Rattle.lobby_view.proofs.ScheduledEvents.{given}

module _ (settings : Configuration) (accounts : List Account) (chosen : IsTrue (is_configuration settings)) (known : AllByRecursion IsHeld accounts) where
  -- of all bytes that were put
  pub view_of_history : (history : List Event) → IsLegalHistory history
      → (c : ℕ) (u : List ℕ) → name_of (after (empty_lobby settings accounts) history) c ≡ Some u
      → hears (after (empty_lobby settings accounts) history) c ≡ true
      → view (put_in (empty_lobby settings accounts) history c) ≡ observe (after (empty_lobby settings accounts) history) u
  view_of_history history legal c u name hear =
      view_of_put (empty_lobby settings accounts) history c (all_readable settings accounts chosen known history legal c)
      ∙ view_of_replies settings accounts history (new_view []) c u name hear

  -- of all bytes that were read, where all were
  pub view_of_read : (history : List Event) → IsLegalHistory history
      → (c : ℕ) (u : List ℕ) (client : Client) → at_number (after (empty_lobby settings accounts) history).clients c ≡ Some client
      → client.phase ≡ In u → client.cut ≡ false → client.unread ≡ []
      → view (taken_in (empty_lobby settings accounts) history c) ≡ observe (after (empty_lobby settings accounts) history) u
  view_of_read history legal c u client there phase uncut none =
      ap view (sym (append-nil (taken_in (empty_lobby settings accounts) history c))
      ∙ ap (λ bytes. taken_in (empty_lobby settings accounts) history c ++ bytes) (sym none)
      ∙ taken_then_unread settings accounts history c client there uncut)
      ∙ view_of_history history legal c u (ap name_of_client there ∙ ap name_in phase)
      (ap is_live_client there ∙ (λ i. not (uncut i) && not (is_ended (phase i))))

  -- at the end of a schedule
  pub view_of_schedule : (steps : List Step) (events : List Event) (end : World) → IsLegalSchedule steps
      → Gives (new_world settings accounts) steps events end
      → (c : ℕ) (u : List ℕ) → name_of end.lobby c ≡ Some u → hears end.lobby c ≡ true
      → view (put_in (empty_lobby settings accounts) events c) ≡ observe end.lobby u
  view_of_schedule steps events end legal gives c u name hear =
      let is = given (new_world settings accounts) end steps events legal gives in
      view_of_history events is.legal c u (ap (λ t. name_of t c) (sym is.lobby) ∙ name) (ap (λ t. hears t c) (sym is.lobby) ∙ hear)
      ∙ ap (λ t. observe t u) (sym is.lobby)

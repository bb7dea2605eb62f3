use Rattle.std.proofs.Common.{◌≡◌, List, [], refl, ap, ◌∙◌}
use Rattle.account_book.specs.Account.{Account}
use Rattle.lobby_model.specs.declared.event.Event.{Event}
use Rattle.lobby_model.specs.Configuration.{Configuration}
use Rattle.lobby_model.specs.State.{empty_lobby}
use Rattle.lobby_model.specs.History.{put_in, taken_in}
use Rattle.lobby_model.specs.Schedule.{new_world}
use Rattle.lobby_model.proofs.EventsKept.{always_sound}
use Rattle.record_lines.specs.Masks.{all_hidden}
use Rattle.record_lines.specs.Played.{played_from}
use Rattle.record_lines.specs.Schedules.{IsReplay}
use Rattle.record_lines.proofs.Recorded.{puts_same, takes_same}
use Rattle.record_lines.proofs.Replayed.{begins, replayed}
use Rattle.record_lines.proofs.laws.a_record_is_played_as_it_was.Goals as goal

same_events : (settings : Configuration) (accounts : List Account) (history events : List Event)
    → IsReplay settings accounts history events → events ≡ played_from (empty_lobby settings accounts) history
same_events settings accounts history events is =
    let s = empty_lobby settings accounts in
    let w = new_world settings (all_hidden accounts) in
    replayed history s (always_sound settings accounts []) w (begins s w refl refl) is.happened is.steps is.are_steps events
    is.world is.gives

pub returns-clause-events : goal.returns-clause-events
returns-clause-events c = same_events

pub returns-clause-put : goal.returns-clause-put
returns-clause-put c = λ settings accounts history events d is.
    let s = empty_lobby settings accounts in
    ap (λ es. put_in (empty_lobby settings (all_hidden accounts)) es d) (same_events settings accounts history events is)
    ∙ puts_same s (always_sound settings accounts []) history d

pub returns-clause-taken : goal.returns-clause-taken
returns-clause-taken c = λ settings accounts history events d is.
    let s = empty_lobby settings accounts in
    ap (λ es. taken_in (empty_lobby settings (all_hidden accounts)) es d) (same_events settings accounts history events is)
    ∙ takes_same s (always_sound settings accounts []) history d

use Rattle.std.proofs.Common.{◌≡◌, ◌∙◌, ap, sym, subst, length, arith}
use Rattle.lobby_model.specs.declared.event.Event.TheVariants as event
use Rattle.lobby_model.specs.declared.schedule.Step.TheVariants as step
use Rattle.lobby_model.specs.Next.{next}
use Rattle.lobby_hall.specs.Copied.{changed_at, completed, read_on}
use Rattle.lobby_hall.specs.Standing.{TakesStep}
use Rattle.lobby_hall.proofs.Answered.{read_ok}
use Rattle.lobby_hall.proofs.Following.{follows_drain}
use Rattle.lobby_hall.proofs.hall.Hall.read.Goals as goal

pub returns-clause-ok : goal.returns-clause-ok
returns-clause-ok c =
    let place : length c.deref_mut.result.now ≡ c.min-wanted.result = c.deref_mut.ensures.len ∙ c.in_ok-resize.ensures.len in
    subst (λ old. TakesStep old (record { lobby = c.drain-drained.new.self.plain; sessions = c.self.inside.sessions.items; record_so_far = completed c.note_read.new.self c.drain-drained.new.self.plain }) (step.Read c.args.client c.args.count)) c.self.view_is
    (read_ok c.self.inside.lobby.plain c.self.inside.sessions.items c.self.inside.logs c.args.client c.args.count c.min-wanted.result c.drain-drained.result.count
    c.drain-drained.new.self.plain c.catch_up.new.self c.note_read.new.self (sym c.if-not-has_client.ensures)
    (omega (arith, c.min-wanted.ensures, c.unread.ensures.count)) (omega (arith, c.drain-drained.ensures.count, place))
    (c.drain-drained.ensures.next ∙ ap (λ n. next c.self.inside.lobby.plain (event.Drain c.args.client n)) place) c.in_ok-catch_up.ensures.log c.note_read.ensures.log c.note_read.ensures.none)

pub invariant_of-self-2 : goal.invariant_of-self-2
invariant_of-self-2 c =
    follows_drain c.self.inside.homes c.self.inside.lobby c.self.inside.behind c.self.inside.logs c.self.invariant c.args.client (length c.deref_mut.result.now)
    c.drain-drained.result.count c.drain-drained.new.self c.note_read.new.self c.drain-drained.ensures.next c.drain-drained.ensures.dirty c.drain-drained.ensures.count
    (c.note_read.ensures.log ∙ ap (λ ls. changed_at (read_on c.drain-drained.result.count) ls c.args.client) c.in_ok-catch_up.ensures.log)

use Rattle.lobby_turns.proofs.Sendings.{drains_on, next_finished, next_all}
use Rattle.lobby_turns.proofs.sending.send_piece.Goals as goal

pub returns-then-piece-clause-sends : goal.returns-then-piece-clause-sends
returns-then-piece-clause-sends g c = λ before others drained none. next_finished _ _ _ _ c.if-piece.true none drained

pub returns-then-is_written-clause-sends : goal.returns-then-is_written-clause-sends
returns-then-is_written-clause-sends g c = λ before others drained none. next_all _ _ _ _ c.if-piece.false c.if-piece-2.true none (c.is_written.ensures.0 c.if-is_written.true) drained

pub returns-clause-sends : goal.returns-clause-sends
returns-clause-sends g c = λ before others drained none. c.send_link.ensures.sends before others (drains_on _ _ _ _ c.if-piece.false drained) none

pub returns-then-piece-clause-goes : goal.returns-then-piece-clause-goes
returns-then-piece-clause-goes g c = λ may. may

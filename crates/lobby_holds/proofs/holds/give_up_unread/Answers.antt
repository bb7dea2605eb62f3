use Rattle.std.proofs.Common.{◌∙◌, refl, arith}
use Rattle.lobby_holds.proofs.Drains.{lets_none, lets_full, lets_last, lets_most}
use Rattle.lobby_holds.proofs.Kept.{kept}
use Rattle.lobby_holds.proofs.holds.give_up_unread.Goals as goal

pub loop-init : goal.loop-init
loop-init g c = (refl, refl, lets_none _ _)

pub returns-then-drained-lt-PIECE-clause-gives_up : goal.returns-then-drained-lt-PIECE-clause-gives_up
returns-then-drained-lt-PIECE-clause-gives_up g c = lets_last _ _ _ _ _ _ _ _ c.client.ensures c.loop.invariant.2 c.drain_into-next.ensures c.if-drained-lt-PIECE.true

pub returns-then-drained-lt-PIECE-clause-desk : goal.returns-then-drained-lt-PIECE-clause-desk
returns-then-drained-lt-PIECE-clause-desk g c = (kept _ _ _ c.drain_into-next.ensures.joined).0 ∙ c.loop.invariant.0

pub returns-then-drained-lt-PIECE-clause-number : goal.returns-then-drained-lt-PIECE-clause-number
returns-then-drained-lt-PIECE-clause-number g c = (kept _ _ _ c.drain_into-next.ensures.joined).1 ∙ c.loop.invariant.1

pub returns-clause-gives_up : goal.returns-clause-gives_up
returns-clause-gives_up g c = lets_most _ _ _ _ (omega (arith, c.loop-test.false)) c.loop.invariant.2

pub loop-preserved : goal.loop-preserved
loop-preserved g c =
    let same = kept _ _ _ c.drain_into-next.ensures.joined in (
      same.0 ∙ c.loop.invariant.0,
      same.1 ∙ c.loop.invariant.1,
      lets_full _ _ _ _ _ _ _ _ c.client.ensures c.loop.invariant.2 c.drain_into-next.ensures (omega (arith, c.if-drained-lt-PIECE.false)),
    )

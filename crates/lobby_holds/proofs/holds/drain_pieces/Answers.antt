use Rattle.std.proofs.Common.{ℕ, List, ◌∙◌, subst, arith}
use Rattle.lobby_lock.specs.Passes.{pass_after}
use Rattle.lobby_holds.specs.Holds.{DrainedBehind}
use Rattle.lobby_holds.proofs.Drains.{drained_further}
use Rattle.lobby_holds.proofs.holds.drain_pieces.Goals as goal

pub loop-preserved : goal.loop-preserved
loop-preserved c =
    let h = c.loop.invariant in
    let d = c.drain-piece-in-loop.ensures in (
      drained_further _ _ _ _ _ _ _ _ _ c.if-piece.false h.0
          (subst (λ (l : List ℕ). DrainedBehind (pass_after c.loop.held) (pass_after c.drain-piece-in-loop.new.held) c.args.client l c.drain-piece-in-loop.new.self.bytes c.drain-piece-in-loop.result) c.make_room.ensures.bytes d.drained),
      d.stands,
      omega (arith, h.2, d.count),
      d.pass ∙ h.3,
    )

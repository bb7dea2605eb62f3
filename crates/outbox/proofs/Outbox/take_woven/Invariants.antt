use Rattle.std.proofs.Common.{◌≡◌, ◌-◌, ◌≤◌, ◌++◌, take, drop}
use Rattle.outbox.proofs.Outbox.take_woven.Given as goal

abbrev pub invariant-loop-done : goal.invariant-loop-done
invariant-loop-done l = record {
  within : l.done ≤ l.wanted;
  given : l.into ≡ take l.done l.fn.self.unread ++ drop l.done l.fn.into;
  left : l.self ≡ record l.fn.self { unread = drop l.done l.fn.self.unread; spare = l.self.spare; spare_pieces = l.self.spare_pieces };
  spare_kept : l.fn.self.spare ≤ l.self.spare;
  pieces_kept : l.fn.self.spare_pieces ≤ l.self.spare_pieces;
}

abbrev pub decreases-loop-done : goal.decreases-loop-done
decreases-loop-done l = l.wanted - l.done

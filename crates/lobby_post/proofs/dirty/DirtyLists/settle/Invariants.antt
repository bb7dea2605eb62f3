use Rattle.std.proofs.Common.{◌≡◌, ℕ, ◌<◌, ◌≤◌}
use Rattle.lobby_post.specs.Dirty.{IsSettled, line_of}
use Rattle.lobby_post.proofs.dirty.DirtyLists.settle.Given as goal

abbrev pub invariant-loop-list : goal.invariant-loop-list
invariant-loop-list l = record {
  done : (h : ℕ) → h < l.list-index → IsSettled (line_of l.initial.list-items h) (line_of l.list-items h);
  left : (h : ℕ) → l.list-index ≤ h → line_of l.list-items h ≡ line_of l.initial.list-items h;
}

use Rattle.std.proofs.Common.{◌≡◌, ℕ, ◌+◌, ◌-◌}
use Rattle.lobby_post.specs.Dirty.{line_of}
use Rattle.lobby_post.proofs.dirty.DirtyLists.reserve.Given as goal

abbrev pub invariant-loop-self : goal.invariant-loop-self
invariant-loop-self l = record {
  lines : (h : ℕ) → line_of l.self-inside.lists.items h ≡ line_of l.fn.self h;
}

abbrev pub decreases-loop-self : goal.decreases-loop-self
decreases-loop-self l = l.home + 1 - l.self-inside.lists.len

use Rattle.std.proofs.Common.{◌≡◌, ◌+◌, ◌++◌, take}
use Rattle.std.specs.VecDeque.{deque_len, deque_capacity}
use Rattle.lobby_post.proofs.dirty.DirtyList.settle.Given as goal

-- the parts of `self`: its place, `waiting`, `fresh`, `idle` and `gone`
abbrev pub invariant-loop-client : goal.invariant-loop-client
invariant-loop-client l = record {
  items : l.self-inside.1.0.items ≡ l.initial.self-inside.1.0.items ++ take l.client-index l.initial.self-inside.1.1.0.items;
  len : deque_len l.self-inside.1.0 ≡ deque_len l.initial.self-inside.1.0 + l.client-index;
  capacity : deque_capacity l.self-inside.1.0 ≡ deque_capacity l.initial.self-inside.1.0;
  fresh : l.self-inside.1.1.0 ≡ l.initial.self-inside.1.1.0;
  idle : l.self-inside.1.1.1.0 ≡ l.initial.self-inside.1.1.1.0;
}

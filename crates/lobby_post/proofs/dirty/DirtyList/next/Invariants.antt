use Rattle.std.proofs.Common.{◌≡◌, ◌+◌, ◌≤◌}
use Rattle.std.specs.Prelude.{vec_len, vec_capacity}
use Rattle.std.specs.VecDeque.{deque_len, deque_capacity}
use Rattle.lobby_post.specs.Dirty.{IsTrimmed, listings_of, stands}
use Rattle.lobby_post.proofs.dirty.DirtyList.next.Given as goal

abbrev pub invariant-loop-client : goal.invariant-loop-client
invariant-loop-client l = record {
  first : IsTrimmed (stands (listings_of l.slots) l.home) l.fn.self.line.waiting l.self-inside.waiting.items;
  fresh : l.self-inside.fresh.items ≡ l.fn.self.line.fresh;
  idle : l.self-inside.idle ≡ l.fn.self.line.idle;
  room : l.self-inside.idle + deque_len l.self-inside.waiting + vec_len l.self-inside.fresh ≤ deque_capacity l.self-inside.waiting;
  room_fresh : l.self-inside.idle + deque_len l.self-inside.waiting + vec_len l.self-inside.fresh ≤ vec_capacity l.self-inside.fresh;
}

abbrev pub decreases-loop-client : goal.decreases-loop-client
decreases-loop-client l = deque_len l.self-inside.waiting

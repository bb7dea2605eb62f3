use Rattle.std.proofs.Common.{◌≡◌, length, take}
use Rattle.room_lists.specs.Keyed.{with_items}
use Rattle.room_lists.proofs.keyed.KeyedList.has_room_for_distinct.Given as goal

abbrev pub invariant-loop-k : goal.invariant-loop-k
invariant-loop-k g l = l.count ≡ length (with_items g.T.Keyed.key_of l.self (take l.k l.items))

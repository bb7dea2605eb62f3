use Rattle.std.proofs.Common.{◌≤◌, length, take}
use Rattle.room_lists.specs.Keyed.{with_items}
use Rattle.room_lists.proofs.keyed.KeyedList.has_ample_room_for.Given as goal

abbrev pub invariant-loop-item : goal.invariant-loop-item
invariant-loop-item g l = length (with_items g.T.Keyed.key_of l.self (take l.item-index l.items)) ≤ l.most

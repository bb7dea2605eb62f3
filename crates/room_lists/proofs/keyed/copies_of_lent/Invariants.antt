use Rattle.std.proofs.Common.{◌≡◌, map, take}
use Rattle.room_lists.proofs.keyed.copies_of_lent.Given as goal

abbrev pub invariant-loop-item : goal.invariant-loop-item
invariant-loop-item g l = l.copies.items ≡ map (λ item. item.now) (take l.item-index l.items)

use Rattle.std.proofs.Common.{◌≡◌, ◌≤◌, ◌+◌, length, map, take, []}
use Rattle.std.specs.Map.{values_of}
use Rattle.room_lists.specs.Index.{IsIndex}
use Rattle.room_lists.specs.Keyed.{with_items}
use Rattle.room_lists.proofs.keyed.KeyedList.last_items.Given as goal

abbrev pub invariant-loop-item : goal.invariant-loop-item
invariant-loop-item g l = record {
  keys : IsIndex (λ key. key.now) (λ item. g.T.Keyed.key_of item.now) l.last.entries;
  last : map (λ item. item.now) (values_of l.last.entries) ≡ with_items g.T.Keyed.key_of [] (take l.item-index l.items);
  count : length (with_items g.T.Keyed.key_of l.self (take l.item-index l.items)) ≡ length l.self + l.new;
  few : l.new ≤ l.most;
}

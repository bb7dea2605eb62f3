use Rattle.std.proofs.Common.{◌≡◌}
use Rattle.room_lists.specs.Keyed.{AreKept, items_of}
use Rattle.room_lists.proofs.keyed.entries_of.Given as goal

abbrev pub invariant-loop-item : goal.invariant-loop-item
invariant-loop-item g l = record {
  items : items_of g.T.Keyed.whole l.entries.items ≡ l.yielded;
  keys : AreKept g.T.Keyed.key_of g.T.Keyed.whole l.entries.items;
}

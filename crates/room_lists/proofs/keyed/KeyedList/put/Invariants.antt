use Rattle.std.proofs.Common.{◌≡◌, ◌≤◌, length}
use Rattle.std.specs.Vec.Iter.{into_iter_items}
use Rattle.indexmap.specs.IndexMap.{spare}
use Rattle.room_lists.specs.Index.{AreApart}
use Rattle.room_lists.specs.Keyed.{AreKept, items_of, with_items}
use Rattle.room_lists.proofs.keyed.KeyedList.put.Given as goal

abbrev pub invariant-loop-key : goal.invariant-loop-key
invariant-loop-key g l =
    let key_of = g.T.Keyed.key_of in
    let whole = g.T.Keyed.whole in
    record {
      keys : AreKept key_of whole l.self-inside.by_key.entries;
      apart : AreApart l.self-inside.by_key.entries;
      left : AreKept key_of whole (into_iter_items l.key-iterator);
      said : items_of whole l.self-inside.by_key.entries
          ≡ with_items key_of (items_of whole l.initial.self-inside.by_key.entries) (items_of whole l.yielded);
      fits : length (into_iter_items l.key-iterator) ≤ spare l.self-inside.by_key;
    }

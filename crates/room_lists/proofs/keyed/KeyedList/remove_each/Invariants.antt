use Rattle.std.proofs.Common.{◌≡◌, drop}
use Rattle.room_lists.specs.Index.{AreApart}
use Rattle.room_lists.specs.Keyed.{AreKept, items_of, without_keys}
use Rattle.room_lists.proofs.keyed.KeyedList.remove_each.Given as goal

abbrev pub invariant-loop-key : goal.invariant-loop-key
invariant-loop-key g l =
    let key_of = g.T.Keyed.key_of in
    let whole = g.T.Keyed.whole in
    record {
      keys : AreKept key_of whole l.self-inside.by_key.entries;
      apart : AreApart l.self-inside.by_key.entries;
      said : without_keys key_of (items_of whole l.self-inside.by_key.entries) (drop l.key-index l.keys)
          ≡ without_keys key_of (items_of whole l.initial.self-inside.by_key.entries) l.keys;
    }

use Rattle.std.specs.Vec.Iter.{into_iter_items}
use Rattle.indexmap.specs.IndexMap.{spare}
use Rattle.room_lists.specs.Keyed.{items_of}
use Rattle.room_lists.proofs.Kept.{put_next}
use Rattle.room_lists.proofs.keyed.KeyedList.put.Goals as goal

pub loop-key-preserved : goal.loop-key-preserved
loop-key-preserved g c =
    let put = put_next g.T.Keyed.key_of g.T.Keyed.whole (items_of g.T.Keyed.whole c.reserve.new.self.entries)
    c.loop-key.self-inside.by_key.entries c.loop-key.yielded (into_iter_items c.loop-key.key-iterator)
    (into_iter_items c.next.new.self) c.insert.new.self.entries c.in-Some.key c.in-Some.kept
    (spare c.loop-key.self-inside.by_key) (spare c.insert.new.self)
    c.loop-key.invariant.keys c.loop-key.invariant.left c.loop-key.invariant.said c.loop-key.invariant.fits
    c.in-Some.ensures.steps.0 c.in_ok-insert.ensures.entries c.insert.ensures.spare in
    record { keys = put.0; apart = c.insert.ensures.unique; left = put.1; said = put.2; fits = put.3 }

pub loop-key-preserved-in_ok-insert : goal.loop-key-preserved-in_ok-insert
loop-key-preserved-in_ok-insert g c =
    let put = put_next g.T.Keyed.key_of g.T.Keyed.whole (items_of g.T.Keyed.whole c.reserve.new.self.entries)
    c.loop-key.self-inside.by_key.entries c.loop-key.yielded (into_iter_items c.loop-key.key-iterator)
    (into_iter_items c.next.new.self) c.insert.new.self.entries c.in-Some.key c.in-Some.kept
    (spare c.loop-key.self-inside.by_key) (spare c.insert.new.self)
    c.loop-key.invariant.keys c.loop-key.invariant.left c.loop-key.invariant.said c.loop-key.invariant.fits
    c.in-Some.ensures.steps.0 c.in_ok-insert.ensures.entries c.insert.ensures.spare in
    record { keys = put.0; apart = c.insert.ensures.unique; left = put.1; said = put.2; fits = put.3 }

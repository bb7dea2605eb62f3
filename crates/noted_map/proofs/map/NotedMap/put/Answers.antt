use Rattle.std.proofs.Common.{◌∙◌, ap}
use Rattle.noted_map.specs.Slots.{live}
use Rattle.noted_map.proofs.Changing.{unnoted}
use Rattle.noted_map.proofs.SlotLaws.{live-put, sorted_of}
use Rattle.noted_map.proofs.map.NotedMap.put.Goals as goal

pub returns-clause-ok : goal.returns-clause-ok
returns-clause-ok g c =
    unnoted _ _ _ _ _ _ c.args.self.now c.self.view_is c.if-self.false
    (ap live c.in_ok-put.ensures.ok ∙ live-put g.K.Ord.cmp g.met.K.Ord.total g.met.K.Key.same c.self.inside.slots c.args.key c.args.value (sorted_of g.K.Ord.cmp c.self.inside.slots c.in_ok-put.ensures.ordered))

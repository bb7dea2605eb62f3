use Rattle.std.proofs.Common.{◌∙◌, ap}
use Rattle.noted_map.specs.Slots.{live}
use Rattle.noted_map.proofs.Changing.{unnoted}
use Rattle.noted_map.proofs.SlotLaws.{live-without}
use Rattle.noted_map.proofs.map.NotedMap.remove.Goals as goal

pub returns-clause-ok : goal.returns-clause-ok
returns-clause-ok g c =
    unnoted _ _ _ _ _ _ c.args.self.now c.self.view_is c.if-self.false (ap live c.remove.ensures ∙ live-without g.K.Ord.cmp c.self.inside.slots c.args.key.now)

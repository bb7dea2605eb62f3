use Rattle.std.proofs.Common.{◌∙◌, ap}
use Rattle.std.proofs.lemmas.Result.{on_ok_weaker}
use Rattle.noted_map.specs.Slots.{live}
use Rattle.noted_map.proofs.Changing.{unnoted}
use Rattle.noted_map.proofs.SlotLaws.{live-edited}
use Rattle.noted_map.proofs.map.NotedMap.edit.Goals as goal

pub returns-clause-ok : goal.returns-clause-ok
returns-clause-ok g c =
    on_ok_weaker c.edit.result (λ changed. unnoted _ _ _ _ _ _ c.args.self.now c.self.view_is c.if-self.false
    (ap live changed ∙ live-edited g.K.Ord.cmp (g.E.Edit.after c.args.edit) c.self.inside.slots c.args.key.now)) c.edit.ensures.ok

use Rattle.std.proofs.Common.{◌∙◌, ap}
use Rattle.room_lists.specs.Keyed.{has_key}
use Rattle.room_lists.proofs.Kept.{has_kept}
use Rattle.room_lists.proofs.keyed.KeyedList.has.Goals as goal

pub returns : goal.returns
returns g c =
    c.contains_key.ensures
    ∙ has_kept g.T.Keyed.key_of g.T.Keyed.whole c.args.key.now c.self.inside.by_key.entries c.self.invariant.0
    ∙ ap (has_key g.T.Keyed.key_of c.args.key.now) c.self.view_is

use Rattle.std.proofs.Common.{◌∙◌, ap}
use Rattle.std.specs.Ordering.{nat_cmp}
use Rattle.line_words.specs.Table.{at_number}
use Rattle.line_words.proofs.Tables.{lookup_is_find}
use Rattle.lobby_model.specs.State.{State}
use Rattle.lobby_maps.proofs.Plain.{plainly}
use Rattle.lobby_maps.proofs.maps.Maps.battle.Goals as goal

pub returns : goal.returns
returns c =
    c.get.ensures.value ∙ lookup_is_find nat_cmp c.args.number c.self.inside.battles.by_number.entries
    ∙ ap (λ (s : State). at_number s.battles c.args.number) (plainly c.self.view_is)

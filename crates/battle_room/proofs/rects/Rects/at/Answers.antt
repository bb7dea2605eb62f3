use Rattle.std.proofs.Common.{◌∙◌, ap, rules}
use Rattle.line_words.specs.Table.{ByNumber, at_number}
use Rattle.room_lists.specs.Room as room
use Rattle.battle_room.proofs.Numbered.{place_is}
use Rattle.battle_room.proofs.rects.Rects.at.Goals as goal

pub returns : goal.returns
returns c =
    place_is c.self.inside.places 0 c.args.ally c.from.result c.index-self-from.result (search rules) (search rules)
    ∙ ap (λ (rects : ByNumber room.Rect). at_number rects c.args.ally) c.self.view_is

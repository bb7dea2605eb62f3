use Rattle.std.proofs.Common.{◌∙◌, ap, rules}
use Rattle.line_words.specs.Table.{ByNumber, without_number}
use Rattle.room_lists.specs.Room as room
use Rattle.battle_room.proofs.Numbered.{cleared}
use Rattle.battle_room.proofs.rects.Rects.remove.Goals as goal

pub returns : goal.returns
returns c =
    cleared c.self.inside.places 0 c.args.ally c.from.result (search rules) (search rules)
    ∙ ap (λ (rects : ByNumber room.Rect). without_number rects c.args.ally) c.self.view_is

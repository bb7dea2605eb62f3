use Rattle.std.proofs.Common.{◌∙◌, ap, rules}
use Rattle.line_words.specs.Table.{ByNumber, put_number}
use Rattle.room_lists.specs.Room as room
use Rattle.battle_room.proofs.Numbered.{written}
use Rattle.battle_room.proofs.rects.Rects.put.Goals as goal

pub returns : goal.returns
returns c =
    written c.self.inside.places 0 c.args.ally c.from.result c.args.rect (search rules) (search rules)
    ∙ ap (λ (rects : ByNumber room.Rect). put_number rects c.args.ally c.args.rect) c.self.view_is

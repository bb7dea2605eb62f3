use Rattle.std.proofs.Common.{◌∙◌, ap}
use Rattle.std.specs.Ordering.{nat_cmp}
use Rattle.line_words.specs.Table.{put_number, ByNumber}
use Rattle.line_words.proofs.Tables.{insert_is_put}
use Rattle.room_lists.specs.Room.{Rect}
use Rattle.view_room.proofs.rects.Rects.put.Goals as goal

pub returns-clause-ok : goal.returns-clause-ok
returns-clause-ok c =
    c.in_ok-insert.ensures.entries ∙ insert_is_put nat_cmp c.self.inside.by_ally.entries c.args.ally c.args.rect
    ∙ ap (λ (rects : ByNumber Rect). put_number rects c.args.ally c.args.rect) c.self.view_is

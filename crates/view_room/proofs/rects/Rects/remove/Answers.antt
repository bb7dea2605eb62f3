use Rattle.std.proofs.Common.{◌∙◌, ap}
use Rattle.std.specs.Ordering.{nat_cmp}
use Rattle.std.specs.Cmp.{nat_cmp_total}
use Rattle.line_words.specs.Table.{without_number, ByNumber}
use Rattle.line_words.proofs.Written.{remove_is_without}
use Rattle.room_lists.specs.Room.{Rect}
use Rattle.view_room.proofs.rects.Rects.remove.Goals as goal

pub returns : goal.returns
returns c =
    c.remove.ensures.entries ∙ remove_is_without nat_cmp nat_cmp_total c.args.ally c.self.inside.by_ally.entries c.len.ensures.ordered
    ∙ ap (λ (rects : ByNumber Rect). without_number rects c.args.ally) c.self.view_is

use Rattle.std.proofs.Common.{◌∙◌, ap}
use Rattle.std.specs.Ordering.{nat_cmp}
use Rattle.line_words.specs.Table.{at_number, ByNumber}
use Rattle.line_words.proofs.Tables.{lookup_is_find}
use Rattle.room_lists.specs.Room.{Rect}
use Rattle.view_room.proofs.rects.Rects.at.Goals as goal

pub returns : goal.returns
returns c =
    c.copied.ensures ∙ c.get.ensures.value ∙ lookup_is_find nat_cmp c.args.ally c.self.inside.by_ally.entries
    ∙ ap (λ (rects : ByNumber Rect). at_number rects c.args.ally) c.self.view_is

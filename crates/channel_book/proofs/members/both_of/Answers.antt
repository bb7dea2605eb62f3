use Rattle.std.proofs.Common.{[], ◌∷◌, ◌++◌, ◌∙◌, ap}
use Rattle.line_words.specs.Table.{is_among}
use Rattle.channel_book.proofs.members.both_of.Goals as goal

pub add-requires-2 : goal.add-requires-2
add-requires-2 g c =
    ap (is_among c.args.second.0)
    (c.in_ok-add.ensures.ok ∙ ap (λ names. names ++ c.args.first.0 ∷ []) c.new-many.ensures)
    ∙ c.requires

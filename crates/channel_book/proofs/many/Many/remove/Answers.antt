use Rattle.std.proofs.Common.{◌∙◌, ap, sym}
use Rattle.std.specs.Map.{keys_of}
use Rattle.std.proofs.lemmas.List.{map-id}
use Rattle.line_words.specs.Table.{all_but}
use Rattle.line_words.proofs.Keyed.{names_removed}
use Rattle.channel_book.proofs.many.Many.remove.Goals as goal

pub returns : goal.returns
returns g c =
    ap keys_of c.shift_remove.ensures.entries
    ∙ sym (map-id _)
    ∙ names_removed (λ name. name) c.args.name.now c.self.inside.by_name.entries c.len.ensures.unique
    ∙ ap (all_but c.args.name.now) (map-id _ ∙ c.self.view_is)

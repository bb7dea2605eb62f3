use Rattle.std.proofs.Common.{◌∙◌, ap}
use Rattle.std.proofs.lemmas.List.{map-id}
use Rattle.line_words.specs.Table.{is_among}
use Rattle.line_words.proofs.Keyed.{is_there}
use Rattle.channel_book.proofs.many.Many.has_member.Goals as goal

pub returns : goal.returns
returns g c =
    c.contains_key.ensures ∙ is_there (λ name. name) c.args.name.now c.self.inside.by_name.entries
    ∙ ap (is_among c.args.name.now) (map-id _ ∙ c.self.view_is)

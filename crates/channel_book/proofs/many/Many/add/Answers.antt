use Rattle.std.proofs.Common.{[], ◌∷◌, ◌++◌, ◌∙◌, ap}
use Rattle.std.specs.Map.{keys_of}
use Rattle.std.proofs.lemmas.List.{map-id, map-append}
use Rattle.indexmap.proofs.CallerLemmas.{insert_entry-new}
use Rattle.line_words.specs.Table.{is_among}
use Rattle.line_words.proofs.Keyed.{not_there}
use Rattle.channel_book.proofs.many.Many.add.Goals as goal

pub returns-clause-ok : goal.returns-clause-ok
returns-clause-ok g c =
    let none = not_there (λ name. name) c.args.name c.self.inside.by_name.entries (ap (is_among c.args.name) (map-id _ ∙ c.self.view_is) ∙ c.requires) in
    ap keys_of (c.in_ok-insert.ensures.entries ∙ insert_entry-new _ c.self.inside.by_name c.args.name c.args.key none)
    ∙ map-append (λ e. e.0) c.self.inside.by_name.entries ((c.args.name, c.args.key) ∷ [])
    ∙ ap (λ names. names ++ c.args.name ∷ []) c.self.view_is

use Rattle.std.proofs.Common.{◌∙◌, subst, sym}
use Rattle.std.specs.List.{IsDistinct}
use Rattle.std.proofs.lemmas.List.{map-id}
use Rattle.line_words.specs.Table.{same_name}
use Rattle.line_words.proofs.Keyed.{distinct_names}
use Rattle.channel_book.proofs.many.Many.as_slice.Goals as goal

pub returns-clause-distinct : goal.returns-clause-distinct
returns-clause-distinct g c =
    subst (IsDistinct same_name) (map-id _ ∙ sym c.keys.ensures.rest ∙ sym c.as_slice.ensures) (distinct_names (λ name. name) _ c.keys.ensures.unique)

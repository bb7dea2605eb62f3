use Rattle.std.proofs.Common.{◌∷◌, [], Some, sym, ◌∙◌}
use Rattle.std.proofs.lemmas.Bool.Decides.{Decides-eqb}
use Rattle.std.proofs.lemmas.Slice.Eq.{strip_suffix_is}
use Rattle.proxy_line.proofs.line.text_of.Goals as goal

pub returns-else-contains-clause-sound : goal.returns-else-contains-clause-sound
returns-else-contains-clause-sound c =
    (strip_suffix_is Decides-eqb c.args.line.now (13 ∷ 10 ∷ []) (Some c.in_ok-text.text) c.in_ok-text.ensures.cases, sym c.contains.ensures.value ∙ c.if-contains.false)

use Rattle.std.proofs.Common.{◌∙◌, ap, rules, not}
use Rattle.std.specs.Prelude.{List, ℕ}
use Rattle.std.proofs.lemmas.Fn.{filter_same}
use Rattle.line_words.specs.Table.{same_name, all_but}
use Rattle.client_view.proofs.lists.names.Names.remove.Goals as goal

pub returns : goal.returns
returns c =
    filter_same _ (λ n. not (same_name c.args.name.now n)) _ (λ x b f' k. search rules) _ _ c.retain.ensures.filtered
    ∙ ap (λ (ns : List (List ℕ)). all_but c.args.name.now ns) c.self.view_is

use Rattle.std.proofs.Common.{List, ℕ, subst, ◌∙◌, sym}
use Rattle.std.specs.Prelude.{IsTrue}
use Rattle.line_words.specs.Bytes.{is_text}
use Rattle.command_grammar.proofs.Slices.{text_behind}
use Rattle.command_grammar.proofs.reading.read_command.Goals as goal

pub read_arguments-requires : goal.read_arguments-requires
read_arguments-requires c =
    subst (λ (t : List ℕ). IsTrue (is_text t)) (sym c.split_at_byte.ensures.back) (text_behind 32 c.args.text.now (sym c.is_text.ensures ∙ c.if-not-is_text.false))

use Rattle.std.proofs.Common.{◌∙◌, sym, ap}
use Rattle.std.specs.Prelude.{ℤ, Result}
use Rattle.std.proofs.lemmas.Int.{to_z-of_z}
use Rattle.command_grammar.specs.declared.command.ReadFault.{ReadFault}
use Rattle.command_grammar.specs.Readers.{seen}
use Rattle.command_grammar.proofs.Numerals.{number_or}
use Rattle.command_grammar.proofs.arguments.number_in.Goals as goal

pub returns-clause-value : goal.returns-clause-value
returns-clause-value c =
    let some = simp (to_z-of_z, c.ranges.low, c.ranges.high) at c.read_number.ensures.some in
    let none = simp (to_z-of_z, c.ranges.low, c.ranges.high) at c.read_number.ensures.none in
    number_or c.args.low c.args.high c.args.word.now c.read_number.result some none ∙ ap (λ (r : Result ℤ ReadFault). seen (λ (z : ℤ). z) r) (sym c.ok_or.ensures.value)

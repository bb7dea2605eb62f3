-- What is said of a command, by the row of its arguments.
use Rattle.std.proofs.Common.{◌≡◌, List, ap}
use Rattle.command_grammar.specs.declared.command.Command.{Command}
use Rattle.command_grammar.specs.Table.{Kind, Values, Arguments, given, arguments_of}
use Rattle.request_printer.specs.Faults.{fault_in, argument_fault}
use Rattle.request_printer.specs.Writing.{all_written, argument_text}

pub text_of_row : (c : Command) (ks : List Kind) (xs : Values ks) → arguments_of c ≡ given ks xs
    → argument_text c ≡ all_written 32 ks xs
text_of_row c ks xs is = ap (λ (a : Arguments). all_written 32 a.kinds a.values) is

pub fault_of_row : (c : Command) (ks : List Kind) (xs : Values ks) → arguments_of c ≡ given ks xs
    → argument_fault c ≡ fault_in ks xs
fault_of_row c ks xs is = ap (λ (a : Arguments). fault_in a.kinds a.values) is

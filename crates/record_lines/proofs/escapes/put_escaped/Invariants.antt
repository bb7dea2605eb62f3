use Rattle.std.proofs.Common.{◌≡◌, ◌≤◌, ◌++◌, take, vec_capacity}
use Rattle.reply_printer.specs.Fronts.{Keeps}
use Rattle.record_lines.specs.Printed.{escaped}
use Rattle.record_lines.proofs.escapes.put_escaped.Given as goal

abbrev pub invariant-loop-byte : goal.invariant-loop-byte
invariant-loop-byte l = record {
  text : l.out.items ≡ l.fn.out.items ++ escaped (take l.byte-index l.bytes);
  kept : Keeps l.fn.out.items l.out.items;
  room : vec_capacity l.fn.out ≤ vec_capacity l.out;
}

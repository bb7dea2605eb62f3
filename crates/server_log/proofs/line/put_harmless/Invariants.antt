use Rattle.std.proofs.Common.{◌≡◌, ◌++◌, take}
use Rattle.server_log.specs.Lines.{harmless}
use Rattle.server_log.proofs.line.put_harmless.Given as goal

abbrev pub invariant-loop-byte : goal.invariant-loop-byte
invariant-loop-byte l = l.out.items ≡ l.fn.out.items ++ harmless (take l.byte-index l.bytes)

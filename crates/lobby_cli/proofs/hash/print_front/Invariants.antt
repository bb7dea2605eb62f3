use Rattle.std.proofs.Common.{◌≤◌, length, take}
use Rattle.std.specs.Io.KnownBytes.{Appends}
use Rattle.lobby_cli.proofs.hash.print_front.Given as goal

-- what was written so far is what the output gained
abbrev pub invariant-loop : goal.invariant-loop
invariant-loop g l =
    (l.written ≤ length l.text) × Appends (g.W.Write.contents l.fn.output)
    (g.W.Write.contents l.output) (take l.written l.text)

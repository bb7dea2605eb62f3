use Rattle.std.proofs.Common.{◌≡◌, ◌≤◌, length, take}
use Rattle.std.specs.Io.KnownBytes.{Consumes}
use Rattle.lobby_cli.proofs.Lines.{HasNoFeed}
use Rattle.lobby_cli.proofs.hash.read_line.Given as goal

-- the input lost what stands at the front of the buffer, and no LF is there
abbrev pub invariant-loop : goal.invariant-loop
invariant-loop g l =
    (l.len ≤ 8192) × (length l.line ≡ length l.fn.line) × HasNoFeed (take l.len l.line)
    × Consumes (g.R.Read.remaining l.fn.input) (g.R.Read.remaining l.input) (take l.len l.line)

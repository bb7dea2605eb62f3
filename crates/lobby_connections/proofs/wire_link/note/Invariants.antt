use Rattle.std.proofs.Common.{◌≡◌, ◌++◌, take}
use Rattle.lobby_connections.specs.Gathered.{gathered}
use Rattle.lobby_connections.proofs.wire_link.note.Given as goal

abbrev pub invariant-loop-byte : goal.invariant-loop-byte
invariant-loop-byte l = gathered l.log.items ≡ gathered l.initial.log.items ++ take l.byte-index l.bytes

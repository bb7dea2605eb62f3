use Rattle.std.proofs.Common.{◌≡◌, ◌+◌, ◌≤◌, take}
use Rattle.std.specs.List.{count_by}
use Rattle.toml_fields.specs.Document.{is_line_feed}
use Rattle.toml_fields.proofs.document.line_behind.Given as goal

-- the line behind the bytes so far, which are no fewer than their line feeds
abbrev pub invariant-loop-byte : goal.invariant-loop-byte
invariant-loop-byte l =
    (l.line ≡ count_by is_line_feed (take l.byte-index l.front) + 1) × (l.line ≤ l.byte-index + 1)

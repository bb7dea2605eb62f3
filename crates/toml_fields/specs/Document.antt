-- The table of a file, and the line where one that is none goes wrong.
use Rattle.std.specs.Prelude.{◌≡◌, ◌≤◌, ℕ, ◌+◌, Bool, ◌==◌, List, length, take, Option, None, ⊤, if◌then◌else◌}
use Rattle.std.specs.List.{count_by}
use Rattle.std.specs.Str.{is_utf8}
use Rattle.toml.specs.Data.{Members}
use Rattle.toml.specs.Parse.{parse_document}
use Rattle.toml_fields.specs.declared.document.DocumentError.{DocumentError}
use Rattle.toml_fields.specs.declared.document.DocumentError.TheVariants.{NotToml, Memory}

-- The table of a file, where it is UTF-8 and TOML
abbrev pub document : List ℕ → Option Members
document bytes = if is_utf8 bytes then parse_document bytes else None

abbrev pub is_line_feed : ℕ → Bool
is_line_feed byte = byte == 10

-- The line of a place, counted from 1: one more than the line feeds before it
abbrev pub line_at : List ℕ → ℕ → ℕ
line_at bytes place = count_by is_line_feed (take place bytes) + 1

-- A line of a file
abbrev pub IsLine : List ℕ → ℕ → Type 0
IsLine bytes line = (place : ℕ) × (place ≤ length bytes) × (line ≡ line_at bytes place)

-- Why a file is not read: it is none, which one of its lines shows, or memory was refused
abbrev pub IsRefused : List ℕ → DocumentError → Type 0
IsRefused bytes (NotToml line) = (document bytes ≡ None) × IsLine bytes line
IsRefused bytes Memory = ⊤

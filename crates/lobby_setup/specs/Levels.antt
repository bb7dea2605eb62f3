-- How much operators are told, as a word.
use Rattle.std.specs.Prelude.{ℕ, List, codes, Result, Ok, Err, if◌then◌else◌}
use Rattle.std.specs.Str.{bytes_eq}
use Rattle.toml.specs.Data.{Data}
use Rattle.toml_fields.specs.Fields.{◌>>=◌, text}
use Rattle.toml_fields.specs.declared.fault.FieldFault.{FieldFault}
use Rattle.toml_fields.specs.declared.fault.FieldFault.TheVariants.{NotAllowed}
use Rattle.server_log.specs.declared.level.LogLevel.{LogLevel}
use Rattle.server_log.specs.declared.level.LogLevel.TheVariants as named

-- the level of a word; no other word is allowed
abbrev pub level_named : List ℕ → Result LogLevel FieldFault
level_named word =
    if bytes_eq word (codes "none") then Ok named.None
    else if bytes_eq word (codes "important") then Ok named.Important
    else if bytes_eq word (codes "all") then Ok named.All else Err NotAllowed

-- a text that is the word of a level
abbrev pub level : Data → Result LogLevel FieldFault
level value = text value >>= level_named

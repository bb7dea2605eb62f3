-- A line taken apart before its arguments are read.
use Rattle.std.specs.Prelude.{ℕ, Option, Some}
use Rattle.reply_kinds.specs.declared.Reply.{Reply}
use Rattle.reply_fields.specs.Fields.{◌>>=◌}

-- the pair of an id and what was read behind it
abbrev pub with_id : Option ℕ → Option Reply → Option (Option ℕ × Reply)
with_id id read = read >>= λ r. Some (id, r)

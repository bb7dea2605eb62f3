-- What a line reads as, from its head.
use Rattle.std.proofs.Common.{◌≡◌, ◌∙◌, ap, ℕ, List}
use Rattle.std.specs.Prelude.{Option, Some, None}
use Rattle.reply_kinds.specs.declared.Reply.{Reply}
use Rattle.reply_kinds.specs.Replies.{Line, ReadsAs}
use Rattle.reply_grammar.specs.Lines.{read_line}
use Rattle.reply_grammar.specs.Heads.{with_id}
use Rattle.reply_grammar.proofs.Whole.{reading_is_inverse, not_read}

pub reads_reply : (line : List ℕ) (id : Option ℕ) (read : Option Reply) (r : Reply) → read_line line ≡ with_id id read → read ≡ Some r → ReadsAs line (id, r)
reads_reply line id read r e is = (reading_is_inverse line (id, r)).0 (e ∙ ap (with_id id) is)

pub reads_none : (line : List ℕ) (id : Option ℕ) (read : Option Reply) → read_line line ≡ with_id id read → read ≡ None → (pair : Line) → ReadsAs line pair → ⊥
reads_none line id read e is pair reads = not_read line pair (e ∙ ap (with_id id) is) reads

-- What a line folds, by what was read behind its head.
use Rattle.std.proofs.Common.{◌≡◌, ◌∙◌, ℕ, List, [], refl, sym, ap}
use Rattle.std.specs.Prelude.{Option, Some, None}
use Rattle.line_framer.specs.Frames.{without_cr}
use Rattle.reply_kinds.specs.declared.Reply.{Reply}
use Rattle.reply_grammar.specs.Heads.{with_id}
use Rattle.reply_grammar.specs.Lines.{read_line}
use Rattle.lobby_view.specs.Bytes.{one_read}
use Rattle.client_view.specs.Told.{told}

told_is : (id : Option ℕ) (read : Option Reply) → told read ≡ one_read (with_id id read)
told_is id None = refl
told_is id (Some r) = refl

-- the line behind a CR that was dropped
pub told_line : (line bytes : List ℕ) (id : Option ℕ) (read : Option Reply) → bytes ≡ without_cr line → read_line bytes ≡ with_id id read → told read ≡ one_read (read_line (without_cr line))
told_line line bytes id read is e = told_is id read ∙ ap one_read (sym e) ∙ ap (λ (l : List ℕ). one_read (read_line l)) is

pub none_line : (line bytes : List ℕ) → bytes ≡ without_cr line → read_line bytes ≡ None → [] ≡ one_read (read_line (without_cr line))
none_line line bytes is e = ap one_read (sym e) ∙ ap (λ (l : List ℕ). one_read (read_line l)) is

use Rattle.std.proofs.Common.{ℕ, List, ◌++◌, refl, ap, ◌∙◌}
use Rattle.std.specs.Prelude.{string_bytes}
use Rattle.record_lines.specs.Head.{gap_behind}
use Rattle.record_lines.proofs.Listed.{appended}
use Rattle.record_lines.proofs.head.put_account.Goals as goal

pub returns : goal.returns
returns c = λ accounts before.
    appended accounts c.args.account.now c.args.out.now.items (gap_behind c.args.out.now.items) c.put_gap.new.out.items
    (string_bytes c.in_ok-text.text) c.extend_from_slice.new.self.items before refl c.in_ok-put_gap.ensures
    c.in_ok-text.ensures
    (c.in_ok-extend_from_slice.ensures.items
    ∙ ap (λ (t : List ℕ). c.put_gap.new.out.items ++ t) (c.as_bytes.ensures.value ∙ c.as_str.ensures.value))

use Rattle.std.proofs.Common.{ℕ, List, ◌++◌, ap, ◌∙◌}
use Rattle.std.specs.Prelude.{string_bytes}
use Rattle.std.proofs.lemmas.Str.{IsUtf8-string_bytes, is_utf8-from_IsUtf8}
use Rattle.toml.specs.View.{table_view}
use Rattle.record_lines.proofs.Built.{settings_back}
use Rattle.record_lines.proofs.head.settings_file.Goals as goal

pub returns : goal.returns
returns c = λ printed lines.
    settings_back c.args.settings.now c.args.version.now (string_bytes c.in_ok-text.text) c.new-file.result.items
    c.extend_from_slice.new.self.items c.extend_from_slice-2.new.self.items c.push.new.self.items
    c.extend_from_slice-3.new.self.items (table_view c.in_ok-table.table) c.keep_their_bounds.ensures c.in_ok-table.ensures
    c.in_ok-text.ensures (is_utf8-from_IsUtf8 (string_bytes c.in_ok-text.text) (IsUtf8-string_bytes c.in_ok-text.text))
    c.new-file.ensures.items c.in_ok-extend_from_slice.ensures.items
    (c.in_ok-extend_from_slice-2.ensures.items
    ∙ ap (λ (t : List ℕ). c.extend_from_slice.new.self.items ++ t) c.as_bytes.ensures.value)
    c.in_ok-push.ensures.items
    (c.in_ok-extend_from_slice-3.ensures.items
    ∙ ap (λ (t : List ℕ). c.push.new.self.items ++ t) (c.as_bytes-2.ensures.value ∙ c.as_str.ensures.value))
    printed lines

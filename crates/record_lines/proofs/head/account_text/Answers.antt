use Rattle.std.proofs.Common.{ap, subst}
use Rattle.std.proofs.lemmas.Str.{IsUtf8-string_bytes, is_utf8-from_IsUtf8}
use Rattle.toml.specs.Text.{IsDocumentText}
use Rattle.toml.specs.View.{members_view}
use Rattle.std.specs.Prelude.{false, string_bytes}
use Rattle.record_lines.proofs.Built.{listed_alone}
use Rattle.record_lines.proofs.head.account_text.Goals as goal

pub returns : goal.returns
returns c = (
  subst (λ members. IsDocumentText false members (string_bytes c.in_ok-text.text))
      (listed_alone c.args.account.now c.in_ok-accounts.accounts.items c.push.new.self c.in_ok-account_table.field-0 _ _
      c.keeps_its_rules.ensures.0 c.in_ok-accounts.ensures.items c.in_ok-push.ensures.items c.in_ok-account_table.ensures
      (ap members_view c.new-table.ensures.empty) c.in_ok-put_value.ensures)
      c.in_ok-text.ensures,
  is_utf8-from_IsUtf8 (string_bytes c.in_ok-text.text) (IsUtf8-string_bytes c.in_ok-text.text),
)

use Rattle.std.proofs.Common.{◌≡◌, List, Ok, sym, ◌∙◌}
use Rattle.toml.specs.View.{table_view}
use Rattle.account_book.specs.Account.{Account}
use Rattle.account_book.specs.Fields.{shown_contents}
use Rattle.account_book.specs.File.{entries_in, file_accounts, listed_accounts}
use Rattle.record_lines.specs.Head.{IsAccountsText}
use Rattle.record_lines.proofs.Built.{file_lists, mapped}
use Rattle.record_lines.proofs.head.accounts_file.Goals as goal

pub returns-in-Ok-contents_of : goal.returns-in-Ok-contents_of
returns-in-Ok-contents_of c =
    let told = c.in-Ok-contents_of.contents in
    let same = file_lists c.args.file.now (table_view c.in-Ok.table) told c.in-Ok.ensures.ok (sym c.in-Ok-contents_of.ensures) in
    mapped c.listed_file.result
    (λ made. (accounts : List Account) → listed_accounts (entries_in (shown_contents told)) ≡ Ok accounts → IsAccountsText accounts made.items)
    (λ made. (accounts : List Account) → file_accounts c.args.file.now ≡ Ok accounts → IsAccountsText accounts made.items)
    (λ made lists accounts is. lists accounts (sym same ∙ is)) c.listed_file.ensures

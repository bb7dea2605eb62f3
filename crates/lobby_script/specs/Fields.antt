-- What the code gathers of one line, as an account.
use Rattle.std.specs.Prelude.{false}
use Rattle.account_book.specs.Account.{Account, stated}
use Rattle.lobby_script.specs.declared.accounts.Fields.{Fields}

abbrev pub stated_by : Fields → Account
stated_by fields = stated fields.name.now fields.password.now fields.id fields.rank false false fields.country.now

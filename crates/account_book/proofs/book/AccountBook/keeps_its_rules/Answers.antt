use Rattle.std.proofs.Common.{subst}
use Rattle.std.specs.List.{AllByRecursion}
use Rattle.account_book.specs.Account.{IsHeld}
use Rattle.account_book.specs.Book.{HasDistinctNames}
use Rattle.account_book.proofs.Index.{all_held}
use Rattle.account_book.proofs.book.AccountBook.keeps_its_rules.Goals as goal

pub returns-clause-accounts : goal.returns-clause-accounts
returns-clause-accounts c = subst (AllByRecursion IsHeld) c.self.view_is (all_held c.self.inside.accounts.entries c.self.invariant.0)

pub returns-clause-names : goal.returns-clause-names
returns-clause-names c = subst HasDistinctNames c.self.view_is c.self.invariant.1

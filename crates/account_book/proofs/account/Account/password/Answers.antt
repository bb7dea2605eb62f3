use Rattle.std.proofs.lemmas.Grind.{common_steps}
use Rattle.std.proofs.Common.{arith}
use Rattle.account_book.proofs.account.Account.password.Goals as goal

pub returns-clause-value : goal.returns-clause-value
returns-clause-value c = grind (arith, common_steps)

pub returns-clause-is_password_word : goal.returns-clause-is_password_word
returns-clause-is_password_word c = grind (arith, common_steps)

use Rattle.std.proofs.lemmas.Grind.{common_steps}
use Rattle.std.proofs.Common.{arith}
use Rattle.account_book.proofs.account.is_country.Goals as goal

pub returns-then-eq : goal.returns-then-eq
returns-then-eq c = grind (arith, common_steps)

pub returns-else-bytes-eq2 : goal.returns-else-bytes-eq2
returns-else-bytes-eq2 c = grind (arith, common_steps)

use Rattle.std.proofs.Common.{subst, sym}
use Rattle.std.specs.List.{IsDistinct}
use Rattle.account_book.proofs.Index.{IsIndex}
use Rattle.account_book.proofs.book.AccountBook.new.Goals as goal

pub invariant_of-result : goal.invariant_of-result
unfolding IsDistinct
invariant_of-result c = subst IsIndex (sym c.new.ensures.empty) (tt, tt)

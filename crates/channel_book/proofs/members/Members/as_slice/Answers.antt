use Rattle.std.proofs.Common.{sym, subst}
use Rattle.std.specs.List.{IsDistinct}
use Rattle.line_words.specs.Table.{same_name}
use Rattle.channel_book.proofs.members.Members.as_slice.Goals as goal

pub returns-in-Nobody-clause-distinct : goal.returns-in-Nobody-clause-distinct
unfolding IsDistinct
returns-in-Nobody-clause-distinct g c = tt

pub returns-in-One-clause-distinct : goal.returns-in-One-clause-distinct
unfolding IsDistinct
returns-in-One-clause-distinct g c = subst (IsDistinct same_name) (sym c.from_ref.ensures.value) (tt, tt)

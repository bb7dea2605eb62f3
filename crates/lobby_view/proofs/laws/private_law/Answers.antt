use Rattle.lobby_view.proofs.Private.{changes_nothing, puts_nothing, others_alike, as_many}
use Rattle.lobby_view.proofs.laws.private_law.Goals as goal

pub returns-clause-unchanged : goal.returns-clause-unchanged
returns-clause-unchanged call s c id u text = changes_nothing c id u s text

pub returns-clause-alone : goal.returns-clause-alone
returns-clause-alone call s c id u text d other unnamed = puts_nothing c id u s text d other unnamed

pub returns-clause-others : goal.returns-clause-others
returns-clause-others call s before later c id u x y long d other unnamed = others_alike c id u x y long s before later d other unnamed

pub returns-clause-lengths : goal.returns-clause-lengths
returns-clause-lengths call s before later c id u x y long d = as_many c id u x y long s before later d

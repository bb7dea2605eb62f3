use Rattle.std.proofs.Common.{[], refl, subst, sym, append-nil}
use Rattle.lobby_hall.specs.Standing.{Stands}
use Rattle.lobby_script.proofs.orders.carry_out.Goals as goal

pub returns-in-Send : goal.returns-in-Send
returns-in-Send c = rw c.in-Send.is c.step.ensures.ok

pub returns-in-Take : goal.returns-in-Take
returns-in-Take c = rw c.in-Take.is c.step-in-Take.ensures.ok

pub returns-in-All : goal.returns-in-All
returns-in-All c = rw c.in-All.is c.take_all.ensures

pub returns-in-Read : goal.returns-in-Read
returns-in-Read c = rw c.in-Read.is c.step-in-Read.ensures.ok

pub returns-in-Shut : goal.returns-in-Shut
returns-in-Shut c = rw c.in-Shut.is c.step-in-Shut.ensures.ok

pub returns-in-Show : goal.returns-in-Show
returns-in-Show c = λ settings accounts events world stands. rw c.in-Show.is ([], world, (refl, refl), subst (λ e. Stands c.args.hall.now settings accounts e world) (sym (append-nil events)) stands)

use Rattle.std.proofs.Common.{sym, subst}
use Rattle.std.specs.Prelude.{OnErr, OnOk}
use Rattle.lobby_model.specs.declared.schedule.Step.{Step}
use Rattle.lobby_model.specs.declared.schedule.Step.TheVariants as step
use Rattle.lobby_hall.specs.Standing.{TakesStep}
use Rattle.lobby_hall.specs.Wanting.{MayNeed}
use Rattle.lobby_hall.proofs.hall.Hall.take_step.Goals as goal

pub returns-in-Open-clause-ok : goal.returns-in-Open-clause-ok
returns-in-Open-clause-ok c = subst (λ (s : Step). OnOk c.open.result (TakesStep c.args.self.now c.open.new.self s)) (sym c.in-Open.is) c.open.ensures.ok

pub returns-in-Arrive-clause-ok : goal.returns-in-Arrive-clause-ok
returns-in-Arrive-clause-ok c = subst (λ (s : Step). OnOk c.arrive.result (TakesStep c.args.self.now c.arrive.new.self s)) (sym c.in-Arrive.is) (subst (λ b. OnOk c.arrive.result (TakesStep c.args.self.now c.arrive.new.self (step.Arrive c.in-Arrive.client b))) c.as_slice.ensures c.arrive.ensures.ok)

pub returns-in-Take-clause-ok : goal.returns-in-Take-clause-ok
returns-in-Take-clause-ok c = subst (λ (s : Step). OnOk c.take.result (TakesStep c.args.self.now c.take.new.self s)) (sym c.in-Take.is) c.take.ensures.ok

pub returns-in-Read-clause-ok : goal.returns-in-Read-clause-ok
returns-in-Read-clause-ok c = subst (λ (s : Step). OnOk c.read.result (TakesStep c.args.self.now c.read.new.self s)) (sym c.in-Read.is) c.read.ensures.ok

pub returns-in-Shut-clause-ok : goal.returns-in-Shut-clause-ok
returns-in-Shut-clause-ok c = subst (λ (s : Step). OnOk c.shut.result (TakesStep c.args.self.now c.shut.new.self s)) (sym c.in-Shut.is) c.shut.ensures.ok

pub returns-in-Open-clause-wanted : goal.returns-in-Open-clause-wanted
returns-in-Open-clause-wanted c = subst (λ (s : Step). OnErr c.open.result (MayNeed c.args.self.now s)) (sym c.in-Open.is) c.open.ensures.wanted

pub returns-in-Take-clause-wanted : goal.returns-in-Take-clause-wanted
returns-in-Take-clause-wanted c = subst (λ (s : Step). OnErr c.take.result (MayNeed c.args.self.now s)) (sym c.in-Take.is) c.take.ensures.wanted

pub returns-in-Read-clause-wanted : goal.returns-in-Read-clause-wanted
returns-in-Read-clause-wanted c = subst (λ (s : Step). OnErr c.read.result (MayNeed c.args.self.now s)) (sym c.in-Read.is) c.read.ensures.wanted

pub returns-in-Shut-clause-wanted : goal.returns-in-Shut-clause-wanted
returns-in-Shut-clause-wanted c = subst (λ (s : Step). OnErr c.shut.result (MayNeed c.args.self.now s)) (sym c.in-Shut.is) c.shut.ensures.wanted

pub returns-in-Arrive-clause-wanted : goal.returns-in-Arrive-clause-wanted
returns-in-Arrive-clause-wanted c = subst (λ (s : Step). OnErr c.arrive.result (MayNeed c.args.self.now s)) (sym c.in-Arrive.is) (subst (λ b. OnErr c.arrive.result (MayNeed c.args.self.now (step.Arrive c.in-Arrive.client b))) c.as_slice.ensures c.arrive.ensures.wanted)

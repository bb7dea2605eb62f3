use Rattle.std.proofs.lemmas.Grind.{common_steps}
use Rattle.std.proofs.Common.{sym, subst, arith}
use Rattle.lobby_model.specs.declared.schedule.Step.TheVariants as step
use Rattle.lobby_hall.specs.Copied.{completed}
use Rattle.lobby_hall.specs.Following.{Follows}
use Rattle.lobby_hall.specs.Standing.{Kept, Stands, StandsAfter}
use Rattle.lobby_hall.proofs.Following.{follows_open}
use Rattle.lobby_hall.proofs.Steps.{was_opened}
use Rattle.lobby_hall.proofs.hall.Hall.open.Goals as goal

pub returns-in-Ok-open-clause-ok : goal.returns-in-Ok-open-clause-ok
returns-in-Ok-open-clause-ok c = λ settings accounts events w st.
    subst (λ (h : Kept). StandsAfter h settings accounts events w (step.Open c.args.ip c.args.home))
    (λ i. record {
      lobby = sym c.in-Ok-open.ensures.ok.1 i;
      sessions = sym c.in-Ok.ensures.items i;
      record_so_far = completed (sym c.in_ok-begin.ensures i) (sym c.in-Ok-open.ensures.ok.1 i);
    })
    (was_opened settings accounts events w c.self.inside.lobby.plain c.self.inside.sessions.items c.self.inside.logs
    (subst (λ (h : Kept). Stands h settings accounts events w) (sym c.self.view_is) st)
    c.args.ip c.args.home c.new-session.result c.new-session.ensures.heard c.in-Ok-open.ensures.ok.0)

pub invariant_of-self-in-Ok-open : goal.invariant_of-self-in-Ok-open
invariant_of-self-in-Ok-open c =
    subst (Follows c.max-self-inside.result c.open.new.self c.self.inside.behind) (sym c.in_ok-begin.ensures)
    (follows_open c.self.inside.homes c.self.inside.lobby c.self.inside.behind c.self.inside.logs c.self.invariant c.args.ip c.args.home
    c.max-self-inside.result c.in-Ok-open.field-0 c.open.new.self c.in-Ok-open.ensures.ok.0 c.in-Ok-open.ensures.ok.1
    (omega (arith, c.max-self-inside.ensures)) (omega (arith, c.max-self-inside.ensures)) (omega (arith, c.max-self-inside.ensures, c.self.invariant.few, c.requires))
    c.in-Ok-open.ensures.number c.in-Ok-open.ensures.dirty)

pub returns-in_err-begin-clause-ok : goal.returns-in_err-begin-clause-ok
returns-in_err-begin-clause-ok c = grind (arith, common_steps)

pub returns-in_err-begin-clause-err : goal.returns-in_err-begin-clause-err
returns-in_err-begin-clause-err c = grind (arith, common_steps)

pub invariant_of-self-in-Err : goal.invariant_of-self-in-Err
invariant_of-self-in-Err c = grind (arith, common_steps)

pub returns-in-Err-clause-err : goal.returns-in-Err-clause-err
returns-in-Err-clause-err c = grind (arith, common_steps)

pub invariant_of-self-in-Err-open : goal.invariant_of-self-in-Err-open
invariant_of-self-in-Err-open c = grind (arith, common_steps)

pub returns-in-Err-open-clause-err : goal.returns-in-Err-open-clause-err
returns-in-Err-open-clause-err c = grind (arith, common_steps)

use Rattle.std.proofs.Common.{◌∙◌, ap, sym, subst}
use Rattle.std.specs.Prelude.{None}
use Rattle.lobby_hall.specs.Copied.{completed}
use Rattle.lobby_hall.specs.Following.{Follows}
use Rattle.lobby_hall.proofs.Following.{follows_caught, completed-caught_up}
use Rattle.lobby_hall.proofs.record.Record.catch_up_behind.Goals as goal

pub returns-in_ok-catch_up-clause-follows : goal.returns-in_ok-catch_up-clause-follows
returns-in_ok-catch_up-clause-follows c = λ homes before. (
  subst (Follows homes c.args.lobby.now None) (sym c.in_ok-catch_up.ensures.log)
      (follows_caught homes c.args.lobby.now c.args.self.now c.in-Some.client (subst (λ b. Follows homes c.args.lobby.now b c.args.self.now) c.in-Some.is before)),
  ap (λ ls. completed ls c.args.lobby.now.plain) c.in_ok-catch_up.ensures.log
      ∙ completed-caught_up c.args.self.now c.args.lobby.now.plain c.in-Some.client before.within,
)

use Rattle.lobby_script.proofs.Opened.{is_given}
use Rattle.lobby_script.proofs.orders.connect.Goals as goal

pub returns-clause-number : goal.returns-clause-number
returns-clause-number c = λ settings accounts events world stands.
    rw (c.then_some.ensures, c.last_client-after.ensures, c.last_client-before.ensures)
    (is_given c.args.hall.now c.step.new.self settings accounts events world c.args.ip stands (c.in_ok-step.ensures.ok settings accounts events world stands))

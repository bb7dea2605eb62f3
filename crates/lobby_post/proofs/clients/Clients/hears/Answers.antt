use Rattle.std.proofs.Common.{◌∙◌, sym, ap}
use Rattle.lobby_model.specs.State.{is_live_client}
use Rattle.lobby_post.proofs.Crowds.{plain-at, plain-none}
use Rattle.lobby_post.proofs.clients.Clients.hears.Goals as goal

pub returns-in-Some : goal.returns-in-Some
returns-in-Some c = rw (← c.self.view_is) (c.is_live.ensures
    ∙ ap is_live_client (sym (plain-at c.args.client c.in-Some.slot.now c.self.inside.slots c.in-Some.ensures.value)))

pub returns-in-None : goal.returns-in-None
returns-in-None c = rw (← c.self.view_is) (ap is_live_client (sym (plain-none c.args.client c.self.inside.slots c.in-None.ensures.value)))

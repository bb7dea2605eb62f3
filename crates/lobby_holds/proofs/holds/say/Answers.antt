use Rattle.std.proofs.Common.{◌<◌, List, length, sym, subst, arith}
use Rattle.lobby_model.specs.declared.event.Event.{Event}
use Rattle.lobby_holds.proofs.Sayings.{says_then_drains_held}
use Rattle.lobby_holds.proofs.holds.say.Goals as goal

pub say_in-said-requires-clause-few : goal.say_in-said-requires-clause-few
say_in-said-requires-clause-few g c = subst (λ (es : List Event). length es < 32) (sym c.take-held.ensures.fresh) (omega arith)

pub returns-clause-says : goal.returns-clause-says
returns-clause-says g c = λ others wire.
    says_then_drains_held others _ _ wire c.args.pass c.give.result c.take-held.result c.say_in-said.new.held _ _ c.take-held.ensures.taken c.give.ensures.pass (c.say_in-said.ensures.says others wire)

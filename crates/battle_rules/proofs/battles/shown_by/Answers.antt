use Rattle.std.proofs.Common.{◌∙◌, ap}
use Rattle.room_lists.specs.Room.{status_in}
use Rattle.battle_rules.proofs.battles.shown_by.Goals as goal

pub returns-in-Some : goal.returns-in-Some
returns-in-Some c = c.status.ensures ∙ ap status_in c.in-Some.ensures

pub returns-in-None : goal.returns-in-None
returns-in-None c = c.zero.ensures ∙ ap status_in c.in-None.ensures

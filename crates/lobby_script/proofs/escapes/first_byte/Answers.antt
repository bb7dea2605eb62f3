use Rattle.std.proofs.Common.{[], ◌∷◌}
use Rattle.record_lines.specs.Escapes.{plain}
use Rattle.lobby_script.proofs.escapes.first_byte.Goals as goal

pub returns-else-first-eq92-clause-sound : goal.returns-else-first-eq92-clause-sound
returns-else-first-eq92-clause-sound c = (c.in_ok-first.first.now ∷ [], plain c.if-first-eq92.false, c.in_ok-first.ensures.cases.0)

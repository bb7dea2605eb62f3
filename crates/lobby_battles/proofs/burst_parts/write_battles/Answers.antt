use Rattle.std.proofs.lemmas.Grind.{common_steps}
use Rattle.std.proofs.Common.{arith}
use Rattle.lobby_battles.proofs.burst_parts.write_battles.Goals as goal

pub loop-number-init-derived : goal.loop-number-init-derived
loop-number-init-derived c = grind (arith, common_steps)

pub loop-number-init : goal.loop-number-init
loop-number-init c = grind (arith, common_steps)

pub returns-in_err-write_battle : goal.returns-in_err-write_battle
returns-in_err-write_battle c = grind (arith, common_steps)

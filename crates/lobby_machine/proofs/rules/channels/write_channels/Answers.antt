use Rattle.std.proofs.lemmas.Grind.{common_steps}
use Rattle.std.proofs.Common.{arith}
use Rattle.lobby_machine.proofs.rules.channels.write_channels.Goals as goal

pub returns-in_err-write_own : goal.returns-in_err-write_own
returns-in_err-write_own c = grind (arith, common_steps)

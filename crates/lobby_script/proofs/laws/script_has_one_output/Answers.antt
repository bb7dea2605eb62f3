use Rattle.lobby_script.proofs.OneCourse.{one_output, one_bad_step, output_or_bad_step}
use Rattle.lobby_script.proofs.laws.script_has_one_output.Goals as goal

pub returns-clause-output : goal.returns-clause-output
returns-clause-output c = one_output

pub returns-clause-bad_step : goal.returns-clause-bad_step
returns-clause-bad_step c = one_bad_step

pub returns-clause-not_both : goal.returns-clause-not_both
returns-clause-not_both c = output_or_bad_step

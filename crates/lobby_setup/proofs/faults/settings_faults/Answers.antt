use Rattle.toml.specs.View.{table_view}
use Rattle.lobby_setup.proofs.FirstFault.{faults_lead}
use Rattle.lobby_setup.proofs.faults.settings_faults.Goals as goal

pub returns-clause-first : goal.returns-clause-first
returns-clause-first c = λ answer says. faults_lead (table_view c.args.table.now) _ answer c.in_ok-faults.ensures says

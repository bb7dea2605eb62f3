use Rattle.std.proofs.Common.{ap, ◌∙◌}
use Rattle.toml.specs.View.{table_view}
use Rattle.account_faults.specs.Faults.{refusal}
use Rattle.account_faults.proofs.FirstFault.{accounts_lead}
use Rattle.account_faults.proofs.faults.account_faults.Goals as goal

pub returns-clause-first : goal.returns-clause-first
returns-clause-first c = ap refusal c.in_ok-faults.ensures ∙ accounts_lead (table_view c.args.table.now)

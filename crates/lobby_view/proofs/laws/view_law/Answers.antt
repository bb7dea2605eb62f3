use Rattle.lobby_view.proofs.ViewLaw.{view_of_history, view_of_read, view_of_schedule}
use Rattle.lobby_view.proofs.laws.view_law.Goals as goal

pub returns-clause-history : goal.returns-clause-history
returns-clause-history c = view_of_history c.args.settings.now c.args.accounts.now c.keep_their_bounds.ensures c.keeps_its_rules.ensures.accounts

pub returns-clause-read : goal.returns-clause-read
returns-clause-read c = view_of_read c.args.settings.now c.args.accounts.now c.keep_their_bounds.ensures c.keeps_its_rules.ensures.accounts

pub returns-clause-schedule : goal.returns-clause-schedule
returns-clause-schedule c = view_of_schedule c.args.settings.now c.args.accounts.now c.keep_their_bounds.ensures c.keeps_its_rules.ensures.accounts

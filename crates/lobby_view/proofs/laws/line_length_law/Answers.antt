use Rattle.lobby_view.proofs.LinesKept.{sent_short, never_spoilt}
use Rattle.lobby_view.proofs.laws.line_length_law.Goals as goal

pub returns-clause-sent : goal.returns-clause-sent
returns-clause-sent c = sent_short c.args.settings.now c.args.accounts.now c.keep_their_bounds.ensures c.keeps_its_rules.ensures.accounts

pub returns-clause-put : goal.returns-clause-put
returns-clause-put c = never_spoilt c.args.settings.now c.args.accounts.now c.keep_their_bounds.ensures c.keeps_its_rules.ensures.accounts

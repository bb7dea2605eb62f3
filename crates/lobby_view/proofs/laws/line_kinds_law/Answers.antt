use Rattle.lobby_view.proofs.LinesKept.{sent_keeps}
use Rattle.lobby_view.proofs.laws.line_kinds_law.Goals as goal

pub returns : goal.returns
returns c = sent_keeps c.args.settings.now c.args.accounts.now c.keep_their_bounds.ensures c.keeps_its_rules.ensures.accounts

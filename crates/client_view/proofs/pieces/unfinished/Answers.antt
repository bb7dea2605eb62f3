use Rattle.std.proofs.Common.{◌∙◌, ◌+◌}
use Rattle.std.proofs.lemmas.List.{take_rest}
use Rattle.client_view.proofs.Lines.{behind_last, none_at_all}
use Rattle.client_view.proofs.pieces.unfinished.Goals as goal

pub returns-in-Some : goal.returns-in-Some
returns-in-Some c = take_rest c.args.bytes.now (c.in-Some.end + 1) ∙ behind_last c.args.bytes.now c.in-Some.end c.in-Some.ensures

pub returns-in-None : goal.returns-in-None
returns-in-None c = none_at_all c.args.bytes.now c.in-None.ensures

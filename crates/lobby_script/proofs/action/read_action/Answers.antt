use Rattle.std.proofs.lemmas.Result.{IfOk-weaker}
use Rattle.lobby_script.proofs.ActionLemmas.{says_it}
use Rattle.lobby_script.proofs.action.read_action.Goals as goal

pub returns-in-Some : goal.returns-in-Some
returns-in-Some c = IfOk-weaker c.read_arguments.result _ _ (λ o. says_it c.args.line.now c.in-Some.verb.now c.in-Some.text.now o c.in-Some.ensures) c.read_arguments.ensures

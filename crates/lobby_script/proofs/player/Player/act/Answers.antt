use Rattle.std.proofs.Common.{[]}
use Rattle.std.proofs.KnownBytes.{Appends-nil}
use Rattle.std.proofs.lemmas.Result.{IfOk-weaker}
use Rattle.lobby_script.proofs.player.Player.act.Goals as goal

pub returns-in-Set-clause-ok : goal.returns-in-Set-clause-ok
returns-in-Set-clause-ok g c = IfOk-weaker c.set.result _ _ (λ u does scene at. ([], rw c.in-Set.is (does scene at), Appends-nil _)) c.set.ensures.ok

pub returns-in-Open-clause-ok : goal.returns-in-Open-clause-ok
returns-in-Open-clause-ok g c = IfOk-weaker c.open.result _ _ (λ u does scene at. ([], rw c.in-Open.is (does scene at), Appends-nil _)) c.open.ensures.ok

pub returns-in-Client-clause-ok : goal.returns-in-Client-clause-ok
returns-in-Client-clause-ok g c = IfOk-weaker c.order.result _ _ (λ u does scene at. rw c.in-Client.is (does scene at)) c.order.ensures.ok

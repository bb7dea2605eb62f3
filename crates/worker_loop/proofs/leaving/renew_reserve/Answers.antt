use Rattle.std.proofs.Common.{sym, subst}
use Rattle.lobby_connections.specs.Attended.{IsAttended}
use Rattle.worker_loop.proofs.leaving.renew_reserve.Goals as goal

pub returns-then-not-renew : goal.returns-then-not-renew
returns-then-not-renew g c rest a = subst (λ t. IsAttended t rest) (sym c.hurry.ensures) (record {
  all = a.all;
  called = a.called;
})

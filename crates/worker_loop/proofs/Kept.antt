-- What is no matter of who is attended to.
use Rattle.std.proofs.Common.{◌≡◌, ℕ, Bool, List, sym, subst}
use Rattle.lobby_connections.specs.Attended.{IsAttended}
use Rattle.lobby_connections.specs.Table.{Table}
use Rattle.lobby_connections.specs.declared.poll_timeout.PollTimeout.{PollTimeout}

pub hurried : (old new : Table) (timeout : PollTimeout) (rest : List ℕ) → new ≡ record old { timeout = timeout }
    → IsAttended old rest → IsAttended new rest
hurried old new timeout rest is a = subst (λ t. IsAttended t rest) (sym is) (record {
  all = a.all;
  called = a.called;
})

pub asked : (old new : Table) (pending : Bool) (rest : List ℕ) → new ≡ record old { is_pending = pending }
    → IsAttended old rest → IsAttended new rest
asked old new pending rest is a = subst (λ t. IsAttended t rest) (sym is) (record {
  all = a.all;
  called = a.called;
})

pub counted : (old new : Table) (told : ℕ) (rest : List ℕ) → new ≡ record old { told = told } → IsAttended old rest
    → IsAttended new rest
counted old new told rest is a = subst (λ t. IsAttended t rest) (sym is) (record {
  all = a.all;
  called = a.called;
})

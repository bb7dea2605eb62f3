use Rattle.std.proofs.Common.{◌≡◌, Bool, true, false, not, refl, sym, subst, Some}
use Rattle.client_session.specs.declared.session.Next.TheVariants.{Nothing}
use Rattle.client_session.specs.OneSession.{IsNextOf}
use Rattle.lobby_holds.specs.Snapshot.{Carried}
use Rattle.lobby_holds.proofs.Nexts.{next_nothing}
use Rattle.lobby_holds.proofs.conn.Conn.has_nothing_next.Goals as goal

not_true : (b : Bool) → not b ≡ true → b ≡ false
not_true true e = sym e
not_true false e = refl

pub returns : goal.returns
returns c = λ idle.
    subst (λ (x : Carried). IsNextOf (Some x.session) Nothing) c.self.view_is (
    next_nothing c.self.inside.session c.is_ready.result c.is_ready.ensures (not_true c.is_ready.result idle))

use Rattle.std.proofs.Common.{sym, ◌∙◌, subst, true≢false, Some}
use Rattle.client_session.specs.declared.session.Next.TheVariants.{Nothing, Spoilt}
use Rattle.client_session.specs.OneSession.{HasLineNext, IsNextOf}
use Rattle.lobby_holds.specs.Snapshot.{Carried}
use Rattle.lobby_holds.proofs.Nexts.{line_is_next, next_nothing, next_spoilt}
use Rattle.lobby_holds.proofs.conn.Conn.ahead.Goals as goal

pub returns-then-has_line : goal.returns-then-has_line
returns-then-has_line c =
    subst (λ (x : Carried). HasLineNext x.session) c.self.view_is (line_is_next c.self.inside.session (c.has_line.ensures.0 c.if-has_line.true))

pub returns-then-is_ready : goal.returns-then-is_ready
returns-then-is_ready c =
    subst (λ (x : Carried). IsNextOf (Some x.session) Spoilt) c.self.view_is (
    next_spoilt c.self.inside.session c.is_ready.result c.is_ready.ensures (λ line. true≢false (sym (c.has_line.ensures.1 line) ∙ c.if-has_line.false)) c.if-is_ready.true)

pub returns-else-is_ready : goal.returns-else-is_ready
returns-else-is_ready c =
    subst (λ (x : Carried). IsNextOf (Some x.session) Nothing) c.self.view_is (next_nothing c.self.inside.session c.is_ready.result c.is_ready.ensures c.if-is_ready.false)

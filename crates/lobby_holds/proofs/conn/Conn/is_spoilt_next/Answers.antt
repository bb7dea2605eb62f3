use Rattle.std.proofs.Common.{sym, ◌∙◌, subst, true≢false, Some}
use Rattle.client_session.specs.declared.session.Next.TheVariants.{Spoilt}
use Rattle.client_session.specs.OneSession.{IsNextOf}
use Rattle.lobby_holds.specs.Snapshot.{Carried}
use Rattle.lobby_holds.specs.Holds.{HasNoSpoiltNext}
use Rattle.lobby_holds.proofs.Nexts.{next_spoilt, line_first}
use Rattle.lobby_holds.proofs.conn.Conn.is_spoilt_next.Goals as goal

pub returns-then-has_line-clause-sound : goal.returns-then-has_line-clause-sound
returns-then-has_line-clause-sound c = λ _.
    subst (λ (x : Carried). HasNoSpoiltNext x.session) c.self.view_is (line_first c.self.inside.session (c.has_line.ensures.0 c.if-has_line.true))

pub returns-clause-spoilt : goal.returns-clause-spoilt
returns-clause-spoilt c = λ ready.
    subst (λ (x : Carried). IsNextOf (Some x.session) Spoilt) c.self.view_is (
    next_spoilt c.self.inside.session c.is_ready.result c.is_ready.ensures (λ line. true≢false (sym (c.has_line.ensures.1 line) ∙ c.if-has_line.false)) ready)

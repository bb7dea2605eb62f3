use Rattle.std.proofs.Common.{◌∙◌, ap, subst, true}
use Rattle.client_session.specs.declared.session.Next.TheVariants.{Nothing, Line, Spoilt}
use Rattle.client_session.specs.OneSession.{IsNextOf, IsReady}
use Rattle.lobby_hall.specs.Standing.{Kept, session_at}
use Rattle.lobby_hall.proofs.Answered.{spoilt_ok, line_ok}
use Rattle.lobby_hall.proofs.Steps.{took_nothing}
use Rattle.lobby_hall.proofs.Wanted.{always_err, spoilt_ready, line_ready}
use Rattle.lobby_hall.proofs.hall.Hall.take.Goals as goal

pub returns-in-Nothing-clause-ok : goal.returns-in-Nothing-clause-ok
returns-in-Nothing-clause-ok c =
    let told : IsNextOf (session_at c.args.self.now.sessions c.args.client) Nothing =
    subst (IsNextOf (session_at c.args.self.now.sessions c.args.client)) c.in-Nothing.is (subst (λ ss. IsNextOf (session_at ss c.args.client) c.in_ok-next_of.field-0) (c.deref.ensures.value ∙ ap (λ (h : Kept). h.sessions) c.self.view_is) c.in_ok-next_of.ensures.next) in
    λ settings accounts events w st. took_nothing settings accounts events w c.args.self.now.lobby c.args.self.now.sessions c.args.self.now.record_so_far st c.args.client told

pub returns-in-Spoilt-clause-ok : goal.returns-in-Spoilt-clause-ok
returns-in-Spoilt-clause-ok c =
    let told : IsNextOf (session_at c.args.self.now.sessions c.args.client) Spoilt =
    subst (IsNextOf (session_at c.args.self.now.sessions c.args.client)) c.in-Spoilt.is (subst (λ ss. IsNextOf (session_at ss c.args.client) c.in_ok-next_of.field-0) (c.deref.ensures.value ∙ ap (λ (h : Kept). h.sessions) c.self.view_is) c.in_ok-next_of.ensures.next) in
    spoilt_ok c.args.self.now.lobby c.args.self.now.sessions c.args.self.now.record_so_far c.remove.new.self c.args.client c.remove.result told
    c.remove.ensures.lobby c.remove.ensures.sessions c.remove.ensures.logs c.remove.ensures.within

pub returns-in-Line-clause-ok : goal.returns-in-Line-clause-ok
returns-in-Line-clause-ok c =
    let told : IsNextOf (session_at c.args.self.now.sessions c.args.client) (Line c.in-Line.request) =
    subst (IsNextOf (session_at c.args.self.now.sessions c.args.client)) c.in-Line.is (subst (λ ss. IsNextOf (session_at ss c.args.client) c.in_ok-next_of.field-0) (c.deref.ensures.value ∙ ap (λ (h : Kept). h.sessions) c.self.view_is) c.in_ok-next_of.ensures.next) in
    line_ok c.args.self.now.lobby c.args.self.now.sessions c.args.self.now.record_so_far c.say-said.new.self c.args.client c.say-said.result c.in-Line.request told
    c.say-said.ensures.lobby c.say-said.ensures.accepted c.say-said.ensures.others c.say-said.ensures.same_length c.say-said.ensures.logs c.say-said.ensures.within

pub returns-in_err-next_of-clause-wanted : goal.returns-in_err-next_of-clause-wanted
returns-in_err-next_of-clause-wanted c =
    always_err c.from_residual.result
    (subst (λ ss. IsReady (session_at ss c.args.client) true) (c.deref.ensures.value ∙ ap (λ (h : Kept). h.sessions) c.self.view_is) c.in_err-next_of.ensures.wanted)

pub returns-in-Spoilt-clause-wanted : goal.returns-in-Spoilt-clause-wanted
returns-in-Spoilt-clause-wanted c =
    let told : IsNextOf (session_at c.args.self.now.sessions c.args.client) Spoilt =
    subst (IsNextOf (session_at c.args.self.now.sessions c.args.client)) c.in-Spoilt.is (subst (λ ss. IsNextOf (session_at ss c.args.client) c.in_ok-next_of.field-0) (c.deref.ensures.value ∙ ap (λ (h : Kept). h.sessions) c.self.view_is) c.in_ok-next_of.ensures.next) in
    always_err c.remove.result (spoilt_ready (session_at c.args.self.now.sessions c.args.client) told)

pub returns-in-Line-clause-wanted : goal.returns-in-Line-clause-wanted
returns-in-Line-clause-wanted c =
    let told : IsNextOf (session_at c.args.self.now.sessions c.args.client) (Line c.in-Line.request) =
    subst (IsNextOf (session_at c.args.self.now.sessions c.args.client)) c.in-Line.is (subst (λ ss. IsNextOf (session_at ss c.args.client) c.in_ok-next_of.field-0) (c.deref.ensures.value ∙ ap (λ (h : Kept). h.sessions) c.self.view_is) c.in_ok-next_of.ensures.next) in
    always_err c.say-said.result (line_ready (session_at c.args.self.now.sessions c.args.client) c.in-Line.request told)

use Rattle.std.proofs.Common.{◌≡◌, ◌≢◌, ℕ, Bool, false, nat_eq, List, [], length, inl, refl, sym, ap, ◌∙◌, eq-eqb}
use Rattle.std.proofs.KnownBytes.{Appends-nil}
use Rattle.std.proofs.lemmas.Bool.{false≢true}
use Rattle.std.proofs.lemmas.Result.{IfOk-weaker}
use Rattle.proxy_line.proofs.Parts.{nothing_left}
use Rattle.lobby_script.proofs.LinesPlay.{says_it_found, line_plays, line_is_bad, says_nothing}
use Rattle.lobby_script.proofs.player.Player.play_line.Goals as goal

some_bytes : (line : List ℕ) (test : Bool) → test ≡ nat_eq (length line) 0 → test ≡ false → line ≢ []
some_bytes line test is no_zero e = false≢true (sym no_zero ∙ is ∙ eq-eqb (length line) 0 (ap (λ (l : List ℕ). length l) e))

pub returns-then-is_empty-clause-ok : goal.returns-then-is_empty-clause-ok
returns-then-is_empty-clause-ok g c = λ scene at.
    ([], (scene, inl (nothing_left c.args.line.now (sym c.is_empty.ensures ∙ c.if-is_empty.true), refl, refl), at), Appends-nil _)

pub returns-in-Some-clause-ok : goal.returns-in-Some-clause-ok
returns-in-Some-clause-ok g c = IfOk-weaker c.act.result _ _ (λ u does scene at.
    let done = does scene at in
    (done.0, line_plays c.act.new.self scene c.args.line.now done.0 c.in_ok-action.field-0 c.in-Some.action c.in_ok-action.ensures c.in-Some.is done.1, done.2)) c.act.ensures.ok

pub returns-in-Some-clause-bad : goal.returns-in-Some-clause-bad
returns-in-Some-clause-bad g c = λ is scene at.
    line_is_bad scene c.args.line.now c.in_ok-action.field-0 c.in-Some.action (some_bytes _ _ c.is_empty.ensures c.if-is_empty.false) c.in_ok-action.ensures c.in-Some.is (c.act.ensures.bad is scene at)

pub returns-in-None-clause-bad : goal.returns-in-None-clause-bad
returns-in-None-clause-bad g c = λ is scene at.
    says_nothing scene c.args.line.now c.in_ok-action.field-0 (some_bytes _ _ c.is_empty.ensures c.if-is_empty.false) c.in_ok-action.ensures c.in-None.is

pub returns-in-Some-clause-device : goal.returns-in-Some-clause-device
returns-in-Some-clause-device g c = λ is. (c.in-Some.action, says_it_found c.args.line.now c.in_ok-action.field-0 c.in-Some.action c.in_ok-action.ensures c.in-Some.is, c.act.ensures.device is)

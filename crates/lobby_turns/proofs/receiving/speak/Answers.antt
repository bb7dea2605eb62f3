use Rattle.std.proofs.Common.{◌≡◌, ◌-◌, ◌∙◌, [], false, refl, subst, rules}
use Rattle.lobby_lock.specs.Passes.{pass_after}
use Rattle.lobby_holds.specs.Wire.{untouched}
use Rattle.lobby_holds.specs.Snapshot.{among}
use Rattle.lobby_holds.specs.Holds.{SaysThenDrains}
use Rattle.lobby_turns.specs.declared.receiving.Left.{Left}
use Rattle.lobby_turns.specs.declared.receiving.Step.TheVariants as step
use Rattle.lobby_turns.specs.Receiving.{share_of}
use Rattle.lobby_turns.proofs.Receivings.{drained_dry, drained_step, goes_on_said, receives_drained, receives_refused, said_step}
use Rattle.lobby_turns.proofs.Served.{served_said}
use Rattle.lobby_turns.proofs.receiving.speak.Goals as goal

pub returns-in-Some-clause-speaks : goal.returns-in-Some-clause-speaks
returns-in-Some-clause-speaks g c = λ old wire begun.
    let from = c.args.from in
    let left : Left = record { lines = 64 - from.lines; bytes = 65536 - from.bytes; told = c.left_to_tell-told.result; looks = false; is_dry = from.is_dry } in
    let s = c.say_in-said in
    let fed : s.new.conn.unfed ≡ [] = s.ensures.unfed ∙ c.is_fed.ensures.0 (search rules) in
    let before = among old.others c.args.conn.now wire (pass_after c.args.held.now) in
    let after = among old.others s.new.conn wire (pass_after s.new.held) in
    receives_drained old before after _ _ _ (share_of c.args.allowance c.and-all.result.told) _ _ left s.result.0 c.in-Some.piece _ (step.Drained s.result.0 c.in-Some.piece) refl refl (λ _. fed)
    (s.ensures.within, drained_dry from.is_dry s.result.1 c.in-Some.piece s.ensures.only c.in-Some.is) begun
    (drained_step before after s.result.0 c.in-Some.piece (subst (λ d. SaysThenDrains before after s.result.0 d) c.in-Some.is (s.ensures.says old.others wire)))
    c.and-all.ensures.wakes c.and-all.ensures.told

pub returns-in-None-clause-speaks : goal.returns-in-None-clause-speaks
returns-in-None-clause-speaks g c = λ old wire begun.
    let from = c.args.from in
    let left : Left = record { lines = 64 - from.lines; bytes = 65536 - from.bytes; told = c.left_to_tell-told.result; looks = false; is_dry = from.is_dry } in
    let s = c.say_in-said in
    let fed : s.new.conn.unfed ≡ [] = s.ensures.unfed ∙ c.is_fed.ensures.0 (search rules) in
    let before = among old.others c.args.conn.now wire (pass_after c.args.held.now) in
    let after = among old.others s.new.conn wire (pass_after s.new.held) in
    receives_refused old before after _ _ _ (share_of c.args.allowance c.and-all.result.told) _ _ left s.result.0 _ (step.Said s.result.0) refl (search rules) refl (s.ensures.within, s.ensures.stops) begun
    (said_step before after s.result.0 (subst (λ d. SaysThenDrains before after s.result.0 d) c.in-None.is (s.ensures.says old.others wire)))
    c.and-all.ensures.wakes c.and-all.ensures.told

pub returns-in-None-2-clause-speaks : goal.returns-in-None-2-clause-speaks
returns-in-None-2-clause-speaks g c = λ old wire begun.
    let from = c.args.from in
    let left : Left = record { lines = 64 - from.lines; bytes = 65536 - from.bytes; told = c.left_to_tell-told.result; looks = false; is_dry = from.is_dry } in
    let s = c.say_in-said in
    let fed : s.new.conn.unfed ≡ [] = s.ensures.unfed ∙ c.is_fed.ensures.0 (search rules) in
    let before = among old.others c.args.conn.now wire (pass_after c.args.held.now) in
    let after = among old.others s.new.conn wire (pass_after s.new.held) in
    goes_on_said old before after _ _ _ _ _ _ left s.result.0 _ _ (step.Said s.result.0) refl refl (λ _. fed) (s.ensures.within, s.ensures.stops) begun
    (said_step before after s.result.0 (subst (λ d. SaysThenDrains before after s.result.0 d) c.in-None.is (s.ensures.says old.others wire)))
    c.and-all.ensures.wakes c.and-all.ensures.told

pub returns-in-Some-clause-serves : goal.returns-in-Some-clause-serves
returns-in-Some-clause-serves g c = served_said _ _ _ _ refl (c.say_in-said.ensures.says [] untouched)

pub returns-in-None-clause-serves : goal.returns-in-None-clause-serves
returns-in-None-clause-serves g c = served_said _ _ _ _ refl (c.say_in-said.ensures.says [] untouched)

pub returns-in-None-2-clause-serves : goal.returns-in-None-2-clause-serves
returns-in-None-2-clause-serves g c = served_said _ _ _ _ refl (c.say_in-said.ensures.says [] untouched)

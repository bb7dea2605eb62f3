use Rattle.std.proofs.Common.{◌≡◌, ℕ, ◌+◌, ◌-◌, ◌%◌, ◌^◌, length, refl, ap, subst, ◌∙◌, arith, rules}
use Rattle.lobby_lock.specs.Passes.{ShownHold, pass_after}
use Rattle.lobby_holds.specs.Snapshot.{among}
use Rattle.lobby_holds.specs.Holds.{SaysLines, short, all_said}
use Rattle.lobby_holds.proofs.Sayings.{says_counted, says_none, says_one, says_then, says_still, from_some, refused_line, stops_none}
use Rattle.lobby_holds.proofs.holds.say_lines.Goals as goal

pub loop-lines-init : goal.loop-lines-init
loop-lines-init g c = (λ others wire. says_one _ _ _ _ _ _ (c.in-Ok.ensures.ok others wire) c.in-Ok.ensures.unwritten, c.say_line.ensures.pass, c.in-Ok.ensures.count, omega arith, c.say_line.ensures.unfed, omega (arith, c.in-Ok.ensures.count, c.requires.few))

pub returns-in-Ok-None-clause-says : goal.returns-in-Ok-None-clause-says
returns-in-Ok-None-clause-says g c = λ others wire.
    says_still others _ _ _ wire _ _ _ _ _ _ (c.in-Ok-None.ensures.none c.in-Ok-None.field-0-is)
    (says_counted _ _ _ _ _ _ c.told-before.result c.told.result _ c.told-before.ensures c.told.ensures c.told-before.type_inv refl (c.loop-lines.invariant.0 others wire))

pub returns-in-Err-say_next-clause-says : goal.returns-in-Err-say_next-clause-says
returns-in-Err-say_next-clause-says g c = λ others wire.
    says_still others _ _ _ wire _ _ _ _ _ _ c.in-Err-say_next.ensures.err
    (says_counted _ _ _ _ _ _ c.told-before.result c.told.result _ c.told-before.ensures c.told.ensures c.told-before.type_inv refl (c.loop-lines.invariant.0 others wire))

pub loop-lines-preserved : goal.loop-lines-preserved
loop-lines-preserved g c =
    let one = from_some _ _ _ c.in-Ok-Some.field-0-is c.in-Ok-Some.ensures.says in
    let count = from_some _ _ _ c.in-Ok-Some.field-0-is c.in-Ok-Some.ensures.count in
    (λ others wire. says_then _ _ _ _ _ _ _ _ _ _ _ (c.loop-lines.invariant.0 others wire) (one others wire) c.union-wakes.ensures, c.say_next.ensures.pass ∙ c.loop-lines.invariant.1, omega (arith, count.0, c.loop-lines.invariant.2), omega (arith, count.0, count.1, c.loop-lines.invariant.2), c.say_next.ensures.unfed ∙ c.loop-lines.invariant.4, count.1)

pub returns-in-Err-clause-says : goal.returns-in-Err-clause-says
returns-in-Err-clause-says g c = λ others wire.
    says_still others _ _ _ wire _ _ _ _ _ _ c.in-Err.ensures.err (says_none _ _ _ c.none.ensures)

pub returns-in-Err-clause-stops : goal.returns-in-Err-clause-stops
returns-in-Err-clause-stops g c = short refl (refused_line _ _ _ c.in-Err.ensures.err.0 c.requires.next)

pub returns-in-Ok-None-clause-stops : goal.returns-in-Ok-None-clause-stops
returns-in-Ok-None-clause-stops g c =
    let none = c.in-Ok-None.ensures.none c.in-Ok-None.field-0-is in
    stops_none _ _ _ _ _ c.loop-lines.held.events _ (ap (λ (h : ShownHold). length h.events) none.1) refl (λ e. search rules) (c.in-Ok-None.ensures.stops c.in-Ok-None.field-0-is)

pub returns-in-Err-say_next-clause-stops : goal.returns-in-Err-say_next-clause-stops
returns-in-Err-say_next-clause-stops g c = short refl c.in-Err-say_next.ensures.line

pub returns-clause-stops : goal.returns-clause-stops
returns-clause-stops g c = all_said refl refl

pub returns-clause-says : goal.returns-clause-says
returns-clause-says g c = λ others wire.
    let all : c.loop-lines.lines ≡ c.args.most = search rules in
    let a = among others c.args.conn.now wire (pass_after c.args.held.now) in
    let b = among others c.loop-lines.conn wire (pass_after c.loop-lines.held) in
    subst (λ (n : ℕ). SaysLines a b n c.loop-lines.wakes 0 ((c.told-2.result + (2 ^ 64 - c.told-before.result)) % 2 ^ 64)) all
    (says_counted _ _ _ _ _ _ c.told-before.result c.told-2.result _ c.told-before.ensures c.told-2.ensures c.told-before.type_inv refl (c.loop-lines.invariant.0 others wire))

use Rattle.std.proofs.Common.{◌≡◌, ◌∙◌, ◌+◌, ◌<◌, ℕ, [], refl, sym, subst, arith}
use Rattle.lobby_machine.specs.Shown.{dirty_at}
use Rattle.lobby_hall.specs.Copied.{completed}
use Rattle.lobby_hall.specs.Following.{Follows, IsFull}
use Rattle.lobby_hall.proofs.Each.{at_each}
use Rattle.lobby_hall.proofs.Following.{all_full, full_record}
use Rattle.lobby_hall.proofs.record.Record.catch_up_changed.Goals as goal

pub returns-in_err-catch_up_behind-clause-follows : goal.returns-in_err-catch_up_behind-clause-follows
returns-in_err-catch_up_behind-clause-follows c = (c.catch_up_behind.ensures.follows c.args.homes c.requires).0

pub returns-in_err-catch_up_behind-clause-kept : goal.returns-in_err-catch_up_behind-clause-kept
returns-in_err-catch_up_behind-clause-kept c = (c.catch_up_behind.ensures.follows c.args.homes c.requires).1

pub loop-home-init : goal.loop-home-init
loop-home-init c =
    let before = c.catch_up_behind.ensures.follows c.args.homes c.requires in
    record { plain = refl; follows = before.0; kept = before.1; none = c.in_ok-catch_up_behind.ensures.none; served = λ worker small. absurd (omega (arith, small)) }

pub returns-in_err-catch_up_home-clause-follows : goal.returns-in_err-catch_up_home-clause-follows
returns-in_err-catch_up_home-clause-follows c = (c.catch_up_home.ensures.follows c.args.homes c.loop-home.invariant.follows).0

pub returns-in_err-catch_up_home-clause-kept : goal.returns-in_err-catch_up_home-clause-kept
returns-in_err-catch_up_home-clause-kept c =
    subst (λ s. completed c.catch_up_home.new.self s ≡ completed c.loop-home.self s) c.loop-home.invariant.plain (c.catch_up_home.ensures.follows c.args.homes c.loop-home.invariant.follows).1
    ∙ c.loop-home.invariant.kept

pub loop-home-preserved : goal.loop-home-preserved
loop-home-preserved c =
    let next = c.catch_up_home.ensures.follows c.args.homes c.loop-home.invariant.follows in
    record {
      plain = c.catch_up_home.ensures.plain ∙ c.loop-home.invariant.plain;
      follows = next.0;
      kept = subst (λ s. completed c.catch_up_home.new.self s ≡ completed c.loop-home.self s) c.loop-home.invariant.plain next.1 ∙ c.loop-home.invariant.kept;
      none = c.in_ok-catch_up_home.ensures.none;
      served = at_each (λ worker. worker < c.loop-home.home + 1 → dirty_at c.catch_up_home.new.lobby worker ≡ []) c.loop-home.home
          (λ small. c.in_ok-catch_up_home.ensures.served)
          (λ worker other small. c.in_ok-catch_up_home.ensures.others worker (omega (arith, small, c.loop-home-test.true, c.requires.few))
          (c.loop-home.invariant.served worker (omega (arith, small, other))));
    }

full_now : (c : goal.After-loop-home) (q : ℕ) → IsFull c.loop-home.self c.loop-home.lobby.plain q
full_now c =
    all_full c.args.homes c.loop-home.lobby c.loop-home.self (subst (λ b. Follows c.args.homes c.loop-home.lobby b c.loop-home.self) c.loop-home.invariant.none c.loop-home.invariant.follows)
    (λ home small. c.loop-home.invariant.served home (omega (arith, small, c.loop-home-test.false)))

pub returns-clause-full : goal.returns-clause-full
returns-clause-full c = full_now c

pub returns-clause-all : goal.returns-clause-all
returns-clause-all c =
    sym (subst (λ s. completed c.loop-home.self s ≡ c.loop-home.self) c.loop-home.invariant.plain (full_record c.loop-home.self c.loop-home.lobby.plain (full_now c)))
    ∙ c.loop-home.invariant.kept

use Rattle.std.proofs.Common.{◌++◌, ◌∷◌, sym, subst, ◌∙◌}
use Rattle.std.specs.Option.{option_to_list}
use Rattle.lobby_connections.specs.Attended.{IsAttended}
use Rattle.worker_loop.proofs.turns.turn_named.Goals as goal

pub loop-preserved-then-is_put_off : goal.loop-preserved-then-is_put_off
loop-preserved-then-is_put_off g c = (
  c.loop.invariant.0,
  c.loop.invariant.1,
  λ rest a. c.is_put_off-is_put_off.ensures.attended c.if-is_put_off.true rest
      (subst (λ o. IsAttended c.next_named.new.self (option_to_list o ++ rest)) c.in-Some.is (c.next_named.ensures.attended rest (c.loop.invariant.2 rest a))),
)

pub loop-preserved : goal.loop-preserved
loop-preserved g c = (
  c.turn_within-pass.ensures.desk ∙ c.loop.invariant.0,
  c.turn_within-pass.ensures.number ∙ c.loop.invariant.1,
  λ rest a. c.turn_within-pass.ensures.attended rest
      (subst (λ t. IsAttended t (c.in-Some.key ∷ rest)) (sym (c.is_put_off-is_put_off.ensures.now c.if-is_put_off.false))
      (subst (λ o. IsAttended c.next_named.new.self (option_to_list o ++ rest)) c.in-Some.is (c.next_named.ensures.attended rest (c.loop.invariant.2 rest a)))),
)

pub returns-in_default-clause-attended : goal.returns-in_default-clause-attended
returns-in_default-clause-attended g c rest a =
    subst (λ o. IsAttended c.next_named.new.self (option_to_list o ++ rest)) c.in_default.is (c.next_named.ensures.attended rest (c.loop.invariant.2 rest a))

use Rattle.std.proofs.Common.{◌++◌, subst, ◌∙◌}
use Rattle.std.specs.Option.{option_to_list}
use Rattle.lobby_connections.specs.Attended.{IsAttended}
use Rattle.lobby_connections.proofs.Lines.{attends_none}
use Rattle.worker_loop.proofs.Kept.{counted}
use Rattle.worker_loop.proofs.turns.turn_left.Goals as goal

pub loop-preserved-then-not-begins_turn : goal.loop-preserved-then-not-begins_turn
loop-preserved-then-not-begins_turn g c = (
  c.loop.invariant.0,
  c.loop.invariant.1,
  λ rest a. attends_none _ _ (c.begins_turn.ensures.no c.if-not-begins_turn.true) rest
      (subst (λ o. IsAttended c.next_due.new.self (option_to_list o ++ rest)) c.in-Some.is (c.next_due.ensures.attended rest (c.loop.invariant.2 rest a))),
)

pub loop-preserved : goal.loop-preserved
loop-preserved g c = (
  c.turn_within-pass.ensures.desk ∙ c.loop.invariant.0,
  c.turn_within-pass.ensures.number ∙ c.loop.invariant.1,
  λ rest a. counted _ _ _ rest c.count_told.ensures (c.turn_within-pass.ensures.attended rest
      (subst (λ o. IsAttended c.next_due.new.self (option_to_list o ++ rest)) c.in-Some.is (c.next_due.ensures.attended rest (c.loop.invariant.2 rest a)))),
)

pub returns-in_default-clause-attended : goal.returns-in_default-clause-attended
returns-in_default-clause-attended g c rest a =
    subst (λ o. IsAttended c.next_due.new.self (option_to_list o ++ rest)) c.in_default.is (c.next_due.ensures.attended rest (c.loop.invariant.2 rest a))

pub returns-then-not-begins_turn-clause-attended : goal.returns-then-not-begins_turn-clause-attended
returns-then-not-begins_turn-clause-attended g c rest a = attends_none _ _ (c.begins_turn.ensures.no c.if-not-begins_turn.true) rest
    (subst (λ o. IsAttended c.next_due.new.self (option_to_list o ++ rest)) c.in-Some.is (c.next_due.ensures.attended rest (c.loop.invariant.2 rest a)))

pub returns-else-not-begins_turn-clause-attended : goal.returns-else-not-begins_turn-clause-attended
returns-else-not-begins_turn-clause-attended g c rest a = counted _ _ _ rest c.count_told.ensures (c.turn_within-pass.ensures.attended rest
    (subst (λ o. IsAttended c.next_due.new.self (option_to_list o ++ rest)) c.in-Some.is (c.next_due.ensures.attended rest (c.loop.invariant.2 rest a))))

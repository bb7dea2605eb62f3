use Rattle.std.proofs.Common.{arith, ap, ◌∙◌, inl, inr, Some}
use Rattle.lobby_holds.specs.Wire.{got_count}
use Rattle.lobby_turns.proofs.Receivings.{read_bytes, fits, only_one, gave_may, link_dry, link_read, link_fault}
use Rattle.lobby_turns.proofs.receiving.look_ahead.Goals as goal

pub returns-in-Ok-Bytes-clause-received : goal.returns-in-Ok-Bytes-clause-received
returns-in-Ok-Bytes-clause-received g c = λ others.
    let e = c.in-Ok-Bytes.ensures in
    link_read _ _ _ (gave_may _ c.requires.gave) (e.went others c.args.pass) (only_one _ _ _ (read_bytes _ _ _ _ (ap got_count c.in-Ok-Bytes.field-0-is) e.bytes) (fits _ _ (ap got_count c.in-Ok-Bytes.field-0-is) e.few.1) e.reads e.writes e.failures e.unwritten) (e.last_got ∙ ap (λ x. Some x) c.in-Ok-Bytes.field-0-is)

pub returns-in-Ok-Later-clause-received : goal.returns-in-Ok-Later-clause-received
returns-in-Ok-Later-clause-received g c = λ others.
    let e = c.in-Ok-Later.ensures in
    link_dry _ _ (gave_may _ c.requires.gave) (e.went others c.args.pass) (only_one _ _ 0 (read_bytes _ _ _ _ (ap got_count c.in-Ok-Later.field-0-is) e.bytes) (omega arith) e.reads e.writes e.failures e.unwritten) (e.none (ap got_count c.in-Ok-Later.field-0-is)) c.requires.fed
    (inl (e.last_got ∙ ap (λ x. Some x) c.in-Ok-Later.field-0-is))

pub returns-in-Ok-End-clause-received : goal.returns-in-Ok-End-clause-received
returns-in-Ok-End-clause-received g c = λ others.
    let e = c.in-Ok-End.ensures in
    link_dry _ _ (gave_may _ c.requires.gave) (e.went others c.args.pass) (only_one _ _ 0 (read_bytes _ _ _ _ (ap got_count c.in-Ok-End.field-0-is) e.bytes) (omega arith) e.reads e.writes e.failures e.unwritten) (e.none (ap got_count c.in-Ok-End.field-0-is)) c.requires.fed
    (inr (e.last_got ∙ ap (λ x. Some x) c.in-Ok-End.field-0-is))

pub returns-in-Ok-Fault-clause-received : goal.returns-in-Ok-Fault-clause-received
returns-in-Ok-Fault-clause-received g c = λ others.
    let e = c.in-Ok-Fault.ensures in
    link_fault _ _ (gave_may _ c.requires.gave) (e.went others c.args.pass) (only_one _ _ 0 (read_bytes _ _ _ _ (ap got_count c.in-Ok-Fault.field-0-is) e.bytes) (omega arith) e.reads e.writes e.failures e.unwritten) (e.last_got ∙ ap (λ x. Some x) c.in-Ok-Fault.field-0-is)

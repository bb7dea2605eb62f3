use Rattle.std.proofs.Common.{[], ◌∷◌, subst}
use Rattle.std.specs.Prelude.{flat_map, nat_eq, IsTrue}
use Rattle.std.specs.List.{list_any}
use Rattle.lobby_lines.specs.Answers.{Answers, lent, ok, no_memory, no_room}
use Rattle.lobby_lines.specs.Layout.{rows_from}
use Rattle.reply_kinds.specs.Replies.{Line}
use Rattle.lobby_lines.specs.Fields.{field_row, field_shown}
use Rattle.lobby_lines.specs.Replies.{fields_of, HeadOf}
use Rattle.lobby_c.proofs.Reading.{same_reply}
use Rattle.lobby_c.proofs.lines.lobby_read_reply.Goals as goal

pub returns-then-status-eq-OK-clause-shown : goal.returns-then-status-eq-OK-clause-shown
returns-then-status-eq-OK-clause-shown c pair reads =
    let some = rw c.in-Ok-Some.field-0-is at c.in-Ok-Some.ensures.some in
    let old = lent c.args.rows.now c.args.text.now c.args.size.now in
    let new = lent c.answer-status.new.rows c.answer-status.new.text c.answer-status.new.size in
    subst (λ (p : Line). Answers (rows_from field_row field_shown 0 (fields_of p.1)) (flat_map field_shown (fields_of p.1)) c.answer-status.result old new)
    (same_reply c.args.line.now some.0 pair some.1 reads) (c.answer-status.ensures _ _ some.3)

pub returns-then-status-eq-OK-clause-head : goal.returns-then-status-eq-OK-clause-head
returns-then-status-eq-OK-clause-head c pair reads is =
    let some = rw c.in-Ok-Some.field-0-is at c.in-Ok-Some.ensures.some in
    subst (HeadOf c.in-Ok-Some.field-0-0.head) (same_reply c.args.line.now some.0 pair some.1 reads) some.2

pub returns-else-status-eq-OK-clause-shown : goal.returns-else-status-eq-OK-clause-shown
returns-else-status-eq-OK-clause-shown c pair reads =
    let some = rw c.in-Ok-Some.field-0-is at c.in-Ok-Some.ensures.some in
    let old = lent c.args.rows.now c.args.text.now c.args.size.now in
    let new = lent c.answer-status.new.rows c.answer-status.new.text c.answer-status.new.size in
    subst (λ (p : Line). Answers (rows_from field_row field_shown 0 (fields_of p.1)) (flat_map field_shown (fields_of p.1)) c.answer-status.result old new)
    (same_reply c.args.line.now some.0 pair some.1 reads) (c.answer-status.ensures _ _ some.3)

pub returns-else-status-eq-OK-clause-none : goal.returns-else-status-eq-OK-clause-none
returns-else-status-eq-OK-clause-none c is =
    let some = rw c.in-Ok-Some.field-0-is at c.in-Ok-Some.ensures.some in
    let answers = c.answer-status.ensures _ _ some.3 in
    let among = subst (λ s. IsTrue (list_any (nat_eq s) (ok ∷ no_memory ∷ no_room ∷ []))) is answers.one_of in
    absurd (let no : ⊥ = cc in no)

pub returns-else-status-eq-OK-clause-refused : goal.returns-else-status-eq-OK-clause-refused
returns-else-status-eq-OK-clause-refused c is =
    let some = rw c.in-Ok-Some.field-0-is at c.in-Ok-Some.ensures.some in
    (c.answer-status.ensures _ _ some.3).refused is

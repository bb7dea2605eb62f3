use Rattle.std.proofs.Common.{◌≡◌, ℕ, suc, List, [], ◌∷◌, ◌++◌, ◌+◌, length, None, Some, refl, subst, ◌∙◌, ap, arith, append_assoc, length-append, inr}
use Rattle.proxy_line.specs.Words.{PartedAt}
use Rattle.record_play.specs.declared.file.RecordLine.{RecordLine}
use Rattle.record_play.proofs.Filing.{so_more, so_over}
use Rattle.record_play.proofs.Listing.{cut_off, told_why}
use Rattle.record_play.proofs.Refusing.{no_file}
use Rattle.record_play.proofs.file.add_lines.Goals as goal

-- a line takes its bytes and one more of the text
shorter : (text line behind : List ℕ) → PartedAt 10 text line behind → length text ≡ length line + suc (length behind)
shorter text line behind parts = ap (λ (t : List ℕ). length t) parts.whole ∙ length-append line (10 ∷ behind)

pub returns-in-Some-last_cause-clause-listed : goal.returns-in-Some-last_cause-clause-listed
returns-in-Some-last_cause-clause-listed c =
    let so_far = c.loop-line.invariant in
    let why = c.in-Some-last_cause.why.now in
    let told = c.in-Some-last_cause.ensures.some in
    let last = subst (λ (b : List ℕ). PartedAt 10 c.loop-line.rest.now c.in-Some.line.now b) told.0 c.in-Some.ensures in
    let over = subst (λ (l : List ℕ). PartedAt 10 c.loop-line.rest.now l []) told.1 last in (
      record { lines = so_far.0; why = Some why },
      so_over c.args.file c.args.text.now so_far.0 c.loop-line.number c.loop-line.least c.loop-line.rest.now (Some why) so_far.3 over,
      so_far.1,
      told_why why so_far.0 c.loop-line.least c.reach.result so_far.3.last c.reach.ensures,
    )

pub loop-line-preserved : goal.loop-line-preserved
loop-line-preserved c =
    let so_far = c.loop-line.invariant in
    let parts = c.in-Some.ensures in
    let placed = c.in-Some-step_from in
    let x : RecordLine = record { file = c.args.file; number = c.loop-line.number + 1; place = placed.place; step = placed.step } in
    let pushed = c.in_ok-push.ensures.items in
    let size = shorter c.loop-line.rest.now c.in-Some.line.now c.in-Some.behind.now parts in (
      so_far.0 ++ x ∷ [],
      pushed ∙ ap (λ (l : List RecordLine). l ++ x ∷ []) so_far.1 ∙ append_assoc c.args.lines.now.items so_far.0 (x ∷ []),
      omega (arith, so_far.2, size),
      so_more c.args.file c.args.text.now so_far.0 c.loop-line.number c.loop-line.least c.loop-line.rest.now c.in-Some.line.now c.in-Some.behind.now
          x so_far.3 parts placed.ensures.some.0 refl refl placed.ensures.some.1,
    )

pub returns-clause-listed : goal.returns-clause-listed
returns-clause-listed c =
    let so_far = c.loop-line.invariant in (
      record { lines = so_far.0; why = None },
      so_over c.args.file c.args.text.now so_far.0 c.loop-line.number c.loop-line.least c.loop-line.rest.now None so_far.3 c.in_default.ensures,
      so_far.1,
      rw so_far.3.last (cut_off so_far.0),
    )

pub returns-in_default-step_from-clause-fault : goal.returns-in_default-step_from-clause-fault
returns-in_default-step_from-clause-fault c =
    let so_far = c.loop-line.invariant in
    inr (
      c.loop-line.number + 1,
      refl,
      no_file c.args.file c.args.text.now so_far.0 c.loop-line.number c.loop-line.least c.loop-line.rest.now c.in-Some.line.now c.in-Some.behind.now
          so_far.3 c.in-Some.ensures c.in_default-last_cause.ensures.none c.in_default-step_from.ensures.none,
    )

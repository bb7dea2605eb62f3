use Rattle.std.proofs.Common.{ℕ, refl, ◌≡◌, ◌+◌, ◌-◌, ◌<◌, ap, sym, ◌∙◌, subst, arith, List, [], length, take, drop, get_or, inl, inr}
use Rattle.std.proofs.lemmas.Bool.{cases_lt}
use Rattle.std.proofs.lemmas.List.{get_or_default, get_or-drop}
use Rattle.std.proofs.lemmas.List.Elements.{Contains-get_or}
use Rattle.std.proofs.lemmas.List.Sorted.{IsNonDecreasingBy-drop}
use Rattle.record_play.specs.declared.file.RecordLine.{RecordLine}
use Rattle.record_play.proofs.Rising.{leads_rises, up_at, on_at, place_before, all_above}
use Rattle.record_play.proofs.joining.front.Goals.{then-line-missing-2, else-line-missing-2+else-line-file}
use Rattle.record_play.proofs.joining.front.Goals as goal

abbrev nothing : RecordLine
nothing = record { file = 0; number = 0; place = 0; step = record { ref_ptr = (0, 0); now = [] } }

pub returns-after-loop-line-clause-rises : goal.returns-after-loop-line-clause-rises
returns-after-loop-line-clause-rises c =
    let so_far = c.loop-line.invariant in
    rw so_far.0 (leads_rises 0 0 (take c.loop-line.line-index c.args.lines.now) c.loop-line.missing c.loop-line.file so_far.1)

pub returns-then-line-missing-clause-rises : goal.returns-then-line-missing-clause-rises
returns-then-line-missing-clause-rises c =
    let so_far = c.loop-line.invariant in
    rw so_far.0 (leads_rises 0 0 (take c.loop-line.line-index c.args.lines.now) c.loop-line.missing c.loop-line.file so_far.1)

-- the line before the next is the one just seen
last_place : (lines : List RecordLine) (i missing : ℕ) (d : RecordLine) → i < length lines
    → (get_or lines i nothing).place + 1 ≡ missing → (get_or lines (i + 1 - 1) d).place + 1 ≡ missing
last_place lines i missing d low e =
    let same = get_or_default lines i d nothing low in
    let here : i + 1 - 1 ≡ i = omega arith in
    rw (here, same) e

last_file : (lines : List RecordLine) (i file : ℕ) (d : RecordLine) → i < length lines
    → (get_or lines i nothing).file ≡ file → (get_or lines (i + 1 - 1) d).file ≡ file
last_file lines i file d low e =
    let same = get_or_default lines i d nothing low in
    let here : i + 1 - 1 ≡ i = omega arith in
    rw (here, same) e

pub loop-line-preserved : goal.loop-line-preserved
loop-line-preserved c = elim c.if-line-missing-2.branch [
  | then-line-missing-2 w ↦
      let so_far = c.loop-line.invariant in
      let low = c.loop-line-test.true in
      let e = w.if-line-missing-2.true in
      rw (w.file-is, w.missing-is) (
        ap (λ n. n + 1) so_far.0,
        up_at c.args.lines.now c.loop-line.line-index c.loop-line.missing c.loop-line.file nothing low so_far.1 e,
        omega (arith, so_far.2),
        (λ z. absurd (omega (arith, z))),
        (λ d _. last_place c.args.lines.now c.loop-line.line-index (c.loop-line.missing + 1) d low (ap (λ n. n + 1) e)),
        λ d _. last_file c.args.lines.now c.loop-line.line-index _ d low refl,
      )
  | else-line-missing-2+else-line-file w ↦
      let so_far = c.loop-line.invariant in
      let low = c.loop-line-test.true in
      let other = w.if-line-missing-2.false in
      let below = c.if-line-missing.false in
      let e = place_before c.args.lines.now c.loop-line.line-index c.loop-line.missing nothing c.requires low so_far.3 so_far.4 (omega (arith, other, below)) in
      rw (w.file-is, w.missing-is) (
        ap (λ n. n + 1) so_far.0,
        on_at c.args.lines.now c.loop-line.line-index c.loop-line.missing c.loop-line.file nothing low so_far.1 e w.if-line-file.false,
        omega (arith, so_far.2),
        (λ z. absurd (omega (arith, z))),
        (λ d _. last_place c.args.lines.now c.loop-line.line-index c.loop-line.missing d low e),
        λ d _. last_file c.args.lines.now c.loop-line.line-index c.loop-line.file d low w.if-line-file.false,
      )
]

first_of : (lines : List RecordLine) (i : ℕ) (d : RecordLine) → get_or (drop i lines) 0 d ≡ get_or lines i d
first_of lines i d = let same : i + 0 ≡ i = omega arith in get_or-drop i lines 0 d ∙ ap (λ k. get_or lines k d) same

pub returns-then-line-missing-clause-above : goal.returns-then-line-missing-clause-above
returns-then-line-missing-clause-above c =
    let so_far = c.loop-line.invariant in
    let i = c.loop-line.line-index in
    let lines = c.args.lines.now in
    rw so_far.0 (all_above c.loop-line.missing (drop i lines) (IsNonDecreasingBy-drop (λ (l : RecordLine). l.place) i lines c.requires)
    (λ d _. subst (λ (l : RecordLine). c.loop-line.missing < l.place)
    (sym (first_of lines i d ∙ get_or_default lines i d nothing c.loop-line-test.true)) c.if-line-missing.true))

pub returns-then-line-file-clause-fault : goal.returns-then-line-file-clause-fault
returns-then-line-file-clause-fault c =
    let so_far = c.loop-line.invariant in
    let i = c.loop-line.line-index in
    let lines = c.args.lines.now in
    let low = c.loop-line-test.true in
    let other = c.if-line-missing-2.false in
    let below = c.if-line-missing.false in
    let e = place_before lines i c.loop-line.missing nothing c.requires low so_far.3 so_far.4 (omega (arith, other, below)) in
    let some : 0 < i = elim (cases_lt 0 i) [
      | inl pos ↦ pos
      | inr z ↦ let m = so_far.3 (omega (arith, z)) in absurd (omega (arith, m, e))
    ] in
    let before = so_far.4 nothing some in (
      (get_or lines i nothing).file,
      (get_or lines i nothing).number,
      c.loop-line.file,
      refl,
      record {
        one = get_or lines i nothing;
        two = get_or lines (i - 1) nothing;
        one_is = (Contains-get_or lines i nothing low, refl, refl);
        two_is = (Contains-get_or lines (i - 1) nothing (omega (arith, low)), so_far.5 nothing some);
        place = omega (arith, e, before);
        files = c.if-line-file.true;
      },
    )

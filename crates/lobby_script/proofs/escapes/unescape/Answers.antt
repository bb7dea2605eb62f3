use Rattle.std.proofs.Common.{ℕ, length, Some, eq-eqb, List, [], ◌∷◌, ◌++◌, sym, ap, ◌∙◌, subst, append_assoc, append-nil}
use Rattle.std.proofs.lemmas.Bool.{false≢true}
use Rattle.record_lines.specs.Escapes.{StandsForBytes}
use Rattle.proxy_line.proofs.Parts.{nothing_left}
use Rattle.proxy_line.proofs.Readings.{finds_none}
use Rattle.lobby_script.proofs.EscapeLemmas.{one_more, begins_with_it, none_begins}
use Rattle.lobby_script.proofs.escapes.unescape.Goals as goal

pub loop-byte-preserved : goal.loop-byte-preserved
loop-byte-preserved c =
    let so_far = c.loop-byte.bytes.items in
    let pushed = c.in_ok-push.ensures.items in record {
      sound = λ more stands. rw pushed (one_more c.args.text.now c.loop-byte.rest.now c.in-Some.behind.now so_far c.in-Some.byte c.in-Some.ensures.sound c.loop-byte.invariant.sound more stands);
      complete = λ all stands.
          let left = c.loop-byte.invariant.complete all stands in
          let next = begins_with_it c.loop-byte.rest.now c.first_byte.result c.first_byte.ensures.complete c.in-Some.byte c.in-Some.behind c.in-Some.is c.in-Some.ensures.sound left.0 left.1 in
          (next.0, next.1, left.2 ∙ ap (λ l. so_far ++ l) next.2 ∙ sym (append_assoc so_far (c.in-Some.byte ∷ []) next.0) ∙ ap (λ l. l ++ next.0) (sym pushed));
    }

pub returns-then-not-is_empty : goal.returns-then-not-is_empty
returns-then-not-is_empty c = finds_none (StandsForBytes c.args.text.now) (λ all stands.
    let left = c.loop-byte.invariant.complete all stands in
    let end = none_begins c.loop-byte.rest.now c.first_byte.result c.first_byte.ensures.complete c.in_default.is left.0 left.1 in
    false≢true (sym c.if-not-is_empty.true ∙ c.is_empty.ensures ∙ eq-eqb _ 0 (ap (λ (l : List ℕ). length l) end.0)))

pub returns : goal.returns
returns c =
    let items = c.loop-byte.bytes.items in
    let nothing = nothing_left c.loop-byte.rest.now (sym c.is_empty.ensures ∙ c.if-not-is_empty.false) in record {
      sound = rw c.of.ensures (subst (StandsForBytes c.args.text.now) (append-nil items) (c.loop-byte.invariant.sound [] nothing));
      complete = λ all stands.
          let left = c.loop-byte.invariant.complete all stands in
          let end = none_begins c.loop-byte.rest.now c.first_byte.result c.first_byte.ensures.complete c.in_default.is left.0 left.1 in
          ap Some (c.of.ensures ∙ sym (append-nil items) ∙ ap (λ l. items ++ l) (sym end.1) ∙ sym left.2);
    }

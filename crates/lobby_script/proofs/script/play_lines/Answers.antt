use Rattle.std.proofs.Common.{◌≡◌, ℕ, ◌+◌, ◌≤◌, List, [], ◌∷◌, ◌++◌, length, Err, refl, sym, ap, ◌∙◌, arith, length-append}
use Rattle.std.specs.Prelude.{◌==◌, Result}
use Rattle.std.proofs.KnownBytes.{Appends-nil, Appends-trans, Appends-kept}
use Rattle.std.proofs.lemmas.List.Sums.{count_by-le-length}
use Rattle.std.proofs.lemmas.List.Splits.{length-slice_split}
use Rattle.lobby_script.specs.declared.fault.LineFault.{LineFault}
use Rattle.lobby_script.specs.declared.fault.LineFault.TheVariants as line
use Rattle.lobby_script.specs.declared.fault.PlayFault.{PlayFault}
use Rattle.lobby_script.specs.declared.fault.PlayFault.TheVariants as script
use Rattle.lobby_script.specs.Faults.{fault_at}
use Rattle.lobby_script.specs.Lines.{lines_of, lines_left}
use Rattle.lobby_script.specs.Prepared.{nothing_set}
use Rattle.lobby_script.specs.Scene.{unopened}
use Rattle.lobby_script.proofs.LinesPlay.{played_more, one_line_on, counted_on, plays_front, stops_at}
use Rattle.lobby_script.proofs.script.play_lines.Goals as goal

pub loop-line-init : goal.loop-line-init
loop-line-init g c = record {
  next = tt;
  ends = tt;
  played = ([], rw c.into_iter-line-iterator.ensures.into_iter_gives (sym c.of-line-items.ensures), refl, ([], unopened nothing_set, (refl, refl), c.requires.fresh, Appends-nil _));
}

few_lines : (script : List ℕ) (front left : List (List ℕ)) → lines_of script ≡ front ++ left → length front ≤ length script + 1
few_lines script front left e =
    let all = length-slice_split (λ b. b == 10) script in
    let least = count_by-le-length (λ b. b == 10) script in
    let parts = ap (λ (l : List (List ℕ)). length l) e ∙ length-append front left in
    omega (arith, all, least, parts)

pub overflow_add-number : goal.overflow_add-number
overflow_add-number g c =
    let front = c.loop-line.invariant.played.0 in
    let few = few_lines c.args.script.now front (lines_left c.loop-line.line-iterator.rest) c.loop-line.invariant.played.1 in
    let counted = c.loop-line.invariant.played.2 in
    omega (arith, few, counted, c.requires.fits)

-- what is told of a line's fault tells which it was
was_memory : {X : Type 0} (fault : LineFault) (told : PlayFault) (k : ℕ) → told ≡ fault_at fault k → ◌≡◌ {A = Result X PlayFault} (Err told) (Err script.Memory) → fault ≡ line.Memory
was_memory line.BadStep told k is e = absurd cc
was_memory line.Device told k is e = absurd cc
was_memory line.Memory told k is e = refl

was_bad_step : {X : Type 0} (fault : LineFault) (told : PlayFault) (k number : ℕ) → told ≡ fault_at fault k → ◌≡◌ {A = Result X PlayFault} (Err told) (Err (script.BadStep number)) → (fault ≡ line.BadStep) × (number ≡ k)
was_bad_step line.BadStep told k number is e = (refl, cc)
was_bad_step line.Device told k number is e = absurd cc
was_bad_step line.Memory told k number is e = absurd cc

pub returns-in-Err-clause-bad_step : goal.returns-in-Err-clause-bad_step
returns-in-Err-clause-bad_step g c = λ number e.
    let (front, whole, counted, (out, scene, plays, at, wrote)) = c.loop-line.invariant.played in
    let bad = was_bad_step c.in-Err.fault c.at.result (c.loop-line.number + 1) number c.at.ensures e in
    let stops = stops_at c.args.script.now front c.in-Some.line.now (lines_left c.loop-line.line-iterator.rest) (lines_left c.next.new.self.rest) c.loop-line.number number out scene
    whole c.in-Some.ensures.steps counted bad.1 plays (c.in-Err.ensures.bad (ap Err bad.0) scene at) in
    (out, stops, Appends-kept _ _ _ out wrote (c.in-Err.ensures.unwritten (ap Err bad.0)))

pub returns-in-Err-clause-memory : goal.returns-in-Err-clause-memory
returns-in-Err-clause-memory g c = λ e.
    let (front, whole, counted, (out, scene, plays, at, wrote)) = c.loop-line.invariant.played in
    let memory = was_memory c.in-Err.fault c.at.result (c.loop-line.number + 1) c.at.ensures e in
    (out, plays_front c.args.script.now front (lines_left c.loop-line.line-iterator.rest) out scene whole plays, Appends-kept _ _ _ out wrote (c.in-Err.ensures.memory (ap Err memory)))

pub loop-line-preserved : goal.loop-line-preserved
loop-line-preserved g c =
    let (front, whole, counted, (out, scene, plays, at, wrote)) = c.loop-line.invariant.played in
    let done = c.in_default.ensures.ok scene at in
    let step = c.in-Some.ensures.steps in record {
      next = tt;
      ends = tt;
      played = (front ++ c.in-Some.line.now ∷ [], one_line_on c.args.script.now front c.in-Some.line.now (lines_left c.loop-line.line-iterator.rest) (lines_left c.next.new.self.rest) whole step, counted_on front c.in-Some.line.now c.loop-line.number counted, (out ++ done.0, done.1.0, played_more front _ scene done.1.0 out done.0 c.in-Some.line.now plays done.1.1, done.1.2, Appends-trans _ _ _ out done.0 wrote done.2));
    }

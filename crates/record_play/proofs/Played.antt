-- Lines played one after another.
use Rattle.std.proofs.Common.{◌≡◌, ℕ, zero, suc, ◌+◌, ◌-◌, ◌≤◌, ◌<◌, inl, inr, List, [], ◌∷◌, ◌++◌, Some, length, length-drop, get_or, take, drop, refl, ap, ◌∙◌, subst, arith}
use Rattle.std.specs.Prelude.{slice_get, Result, Ok, Err, OnOk}
use Rattle.std.specs.List.{AllByRecursion}
use Rattle.std.proofs.lemmas.List.{get_or-drop, take_more}
use Rattle.lobby_model.specs.declared.schedule.Step.{Step}
use Rattle.account_book.specs.Account.{Account}
use Rattle.lobby_model.specs.Configuration.{Configuration}
use Rattle.record_play.specs.Joined.{Rises}
use Rattle.record_play.specs.Replays.{GoesOn, IsPlayed, PlaysNext}
use Rattle.record_play.specs.Steps.{SayAll, SaysStep}
use Rattle.record_play.specs.declared.file.RecordLine.{RecordLine}
use Rattle.record_play.specs.declared.replay.Replay.{Replay}
use Rattle.record_play.proofs.Listing.{each_more}

pub said_more : (lines : List RecordLine) (steps : List Step) (x : RecordLine) (s : Step) → SayAll lines steps
    → SaysStep x.step.now s → SayAll (lines ++ x ∷ []) (steps ++ s ∷ [])
said_more [] [] x s said here = (here, refl)
said_more [] (t ∷ steps) x s said here = absurd cc
said_more (l ∷ lines) [] x s said here = absurd said
said_more (l ∷ lines) (t ∷ steps) x s said here = (said.0, said_more lines steps x s said.1 here)

abbrev no_line : RecordLine
no_line = record { file = 0; number = 0; place = 0; step = record { ref_ptr = (0, 0); now = [] } }

-- a line that is there
there : (lines : List RecordLine) (i : ℕ) (x : RecordLine) → slice_get lines i ≡ Some x
    → (i < length lines) × (get_or lines i no_line ≡ x)
there [] zero x e = absurd cc
there [] (suc i) x e = absurd cc
there (l ∷ lines) zero x e = (omega arith, cc)
there (l ∷ lines) (suc i) x e = let more = there lines i x e in (omega (arith, more.0), more.1)

pub is_within : (lines : List RecordLine) (i : ℕ) (x : RecordLine) → slice_get lines i ≡ Some x → i < length lines
is_within lines i x e = (there lines i x e).0

-- the lines up to it
take_with : (lines : List RecordLine) (i : ℕ) (x : RecordLine) → slice_get lines i ≡ Some x
    → take (i + 1) lines ≡ take i lines ++ x ∷ []
take_with lines i x e =
    let is = there lines i x e in
    take_more lines i no_line is.0 ∙ ap (λ (l : RecordLine). take i lines ++ l ∷ []) is.1

-- those from a place on
take_from : (lines : List RecordLine) (a b : ℕ) (x : RecordLine) → a ≤ b → slice_get lines b ≡ Some x
    → take (b + 1 - a) (drop a lines) ≡ take (b - a) (drop a lines) ++ x ∷ []
take_from lines a b x low e =
    let is = there lines b x e in
    let n : ℕ = b - a in
    let next : b + 1 - a ≡ n + 1 = omega (arith, low) in
    let at : a + n ≡ b = omega (arith, low) in
    let small : n < length (drop a lines) = omega (arith, low, is.0, length-drop a lines) in
    ap (λ k. take k (drop a lines)) next ∙ take_more (drop a lines) n no_line small
    ∙ ap (λ (l : RecordLine). take n (drop a lines) ++ l ∷ []) (get_or-drop a lines n no_line ∙ ap (λ k. get_or lines k no_line) at ∙ is.1)

-- the hall stands for one line more
played_more : (old : Replay) (line : RecordLine) (new : Replay) → slice_get old.lines.items old.played ≡ Some line
    → PlaysNext old line new → (settings : Configuration) (accounts : List Account) → IsPlayed old settings accounts
    → IsPlayed new settings accounts
played_more old line new e plays settings accounts so_far = record {
  steps = so_far.steps ++ plays.plays.0 ∷ [];
  said = rw (plays.lines, plays.played, take_with old.lines.items old.played line e)
      (said_more (take old.played old.lines.items) so_far.steps line plays.plays.0 so_far.said plays.plays.1);
  stands = plays.plays.2 settings accounts so_far.steps so_far.stands;
}

pub goes_none : (place : ℕ) (replay : Replay) → GoesOn place replay replay
goes_none place replay = record {
  lines = refl;
  missing = refl;
  on = omega arith;
  only =
      let none : replay.played - replay.played ≡ 0 = omega arith in
      rw none tt;
  stands = λ settings accounts so_far. so_far;
}

pub goes_more : (place : ℕ) (old mid : Replay) (line : RecordLine) (new : Replay) → GoesOn place old mid
    → slice_get mid.lines.items mid.played ≡ Some line → line.place < place → PlaysNext mid line new → GoesOn place old new
goes_more place old mid line new so_far e low plays = record {
  lines = plays.lines ∙ so_far.lines;
  missing = plays.missing ∙ so_far.missing;
  on = omega (arith, so_far.on, plays.played);
  only =
      let here : slice_get old.lines.items mid.played ≡ Some line = subst (λ v. slice_get v.items mid.played ≡ Some line) so_far.lines e in
      rw (plays.played, take_from old.lines.items old.played mid.played line so_far.on here)
      (each_more (λ (l : RecordLine). l.place < place) (take (mid.played - old.played) (drop old.played old.lines.items)) line so_far.only low);
  stands = λ settings accounts was. played_more mid line new e plays settings accounts (so_far.stands settings accounts was);
}

-- in lines whose places rise, all behind one are of its place or above it
rises_least : (place least file : ℕ) (lines : List RecordLine) (missing : ℕ) → Rises least file lines missing → place < least
    → AllByRecursion (λ (l : RecordLine). place ≤ l.place) lines
rises_least place least file [] missing rises low = tt
rises_least place least file (l ∷ lines) missing (inl h) low =
    (omega (arith, h.0, low), rises_least place (least + 1) l.file lines missing h.1 (omega (arith, low)))
rises_least place least file (l ∷ lines) missing (inr h) low =
    (omega (arith, h.0, low), rises_least place least file lines missing h.2 low)

pub none_before : (place least file : ℕ) (lines : List RecordLine) (missing i : ℕ) → Rises least file lines missing
    → ((l : RecordLine) → slice_get lines i ≡ Some l → place ≤ l.place)
    → AllByRecursion (λ (l : RecordLine). place ≤ l.place) (drop i lines)
none_before place least file [] missing zero rises first = tt
none_before place least file [] missing (suc i) rises first = tt
none_before place least file (l ∷ lines) missing zero (inl h) first =
    let low = first l refl in
    (low, rises_least place (least + 1) l.file lines missing h.1 (omega (arith, low, h.0)))
none_before place least file (l ∷ lines) missing zero (inr h) first =
    let low = first l refl in
    (low, rises_least place least file lines missing h.2 (omega (arith, low, h.0)))
none_before place least file (l ∷ lines) missing (suc i) (inl h) first =
    none_before place (least + 1) l.file lines missing i h.1 first
none_before place least file (l ∷ lines) missing (suc i) (inr h) first =
    none_before place least file lines missing i h.2 first

-- a fact, also where a call succeeds
pub on_ok : {A E : Type 0} (r : Result A E) {P : Type 0} → P → OnOk r P
on_ok (Ok x) fact = fact
on_ok (Err e) fact = tt

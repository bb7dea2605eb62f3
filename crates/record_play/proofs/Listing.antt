-- How far files reach.
use Rattle.std.proofs.Common.{◌≡◌, ℕ, ◌<◌, ◌-◌, ◌^◌, ◌⊎◌, inl, inr, List, [], ◌∷◌, ◌++◌, None, Some, codes, refl, sym, ap, ◌∙◌, subst, arith, min, append-nil, append_assoc}
use Rattle.std.specs.List.{AllByRecursion}
use Rattle.record_play.specs.Files.{FileLines, HasPassed, IsReach, all_lines, last_place}
use Rattle.record_play.specs.declared.file.RecordLine.{RecordLine}

pub last_place-more : (place : ℕ) (lines : List RecordLine) (l : RecordLine) → last_place place (lines ++ l ∷ []) ≡ l.place
last_place-more place [] l = refl
last_place-more place (m ∷ lines) l = last_place-more m.place lines l

-- where no line tells why there are no more
pub cut_off : (lines : List RecordLine) → IsReach (λ p. HasPassed p (record { lines = lines; why = None })) (last_place 0 lines)
cut_off lines place low = ((λ passed. elim passed [ inl stop ↦ absurd (cc) | inr behind ↦ behind ]), λ behind. inr behind)

-- where one does
pub told_why : (why : List ℕ) (lines : List RecordLine) (last reach : ℕ) → last ≡ last_place 0 lines
    → (((why ≡ codes "stop") × (reach ≡ 2 ^ 64 - 1)) ⊎ ((why ≡ codes "stop" → ⊥) × (reach ≡ last)))
    → IsReach (λ p. HasPassed p (record { lines = lines; why = Some why })) reach
told_why why lines last reach e (inl h) place low = ((λ _. rw h.1 low), λ _. inl (ap Some h.0))
told_why why lines last reach e (inr h) place low = (
  (λ passed. elim passed [ inl stop ↦ absurd (h.0 (cc)) | inr behind ↦ rw (h.1, e) behind ]),
  λ below. inr (subst (λ n. place < n) (h.1 ∙ e) below),
)

pub each_more : {X : Type 0} (P : X → Type 0) (xs : List X) (x : X) → AllByRecursion P xs → P x → AllByRecursion P (xs ++ x ∷ [])
each_more P [] x each here = (here, tt)
each_more P (y ∷ xs) x each here = (each.0, each_more P xs x each.1 here)

each_less : {X : Type 0} (P : X → Type 0) (xs : List X) (x : X) → AllByRecursion P (xs ++ x ∷ []) → AllByRecursion P xs × P x
each_less P [] x each = (tt, each.0)
each_less P (y ∷ xs) x each = let rest = each_less P xs x each.1 in ((each.0, rest.0), rest.1)

-- files reach as far as the one that reaches least
pub reach_both : (files : List FileLines) (file : FileLines) (most reach least : ℕ)
    → IsReach (λ p. AllByRecursion (HasPassed p) files) most → IsReach (λ p. HasPassed p file) reach → least ≡ min most reach
    → IsReach (λ p. AllByRecursion (HasPassed p) (files ++ file ∷ [])) least
reach_both files file most reach least all one is place low = (
  (λ passed.
      let both = each_less (HasPassed place) files file passed in
      let a = (all place low).0 both.0 in
      let b = (one place low).0 both.1 in
      omega (arith, a, b, is)),
  λ below. each_more (HasPassed place) files file ((all place low).1 (omega (arith, below, is))) ((one place low).1 (omega (arith, below, is))),
)

-- what is listed behind the files so far
pub all_lines-more : (files : List FileLines) (file : FileLines) → all_lines (files ++ file ∷ []) ≡ all_lines files ++ file.lines
all_lines-more [] file = append-nil file.lines
all_lines-more (f ∷ files) file = ap (λ (l : List RecordLine). f.lines ++ l) (all_lines-more files file)
    ∙ sym (append_assoc f.lines (all_lines files) file.lines)

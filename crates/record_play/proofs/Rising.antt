-- Places that go up one by one.
use Rattle.std.proofs.Common.{◌≡◌, ℕ, ◌+◌, ◌<◌, ◌≤◌, ◌==◌, ◌⊎◌, inl, inr, List, [], ◌∷◌, ◌++◌, length, get_or, take, ◌-◌}
use Rattle.std.proofs.Common.{refl, sym, ap, ◌∙◌, arith, append-nil, false}
use Rattle.std.specs.List.{AllByRecursion}
use Rattle.std.specs.List.Sorted.{IsNonDecreasingBy}
use Rattle.std.proofs.lemmas.Bool.{cases_lt, ne_eqb}
use Rattle.std.proofs.lemmas.List.{take_more}
use Rattle.std.proofs.lemmas.List.Sorted.{IsNonDecreasingBy-drop}
use Rattle.std.proofs.lemmas.List.Elements.{filter-append}
use Rattle.record_play.specs.Joined.{IsJoined, Rises, at_place}
use Rattle.record_play.specs.declared.file.RecordLine.{RecordLine}

-- the same with the file of the last place
abbrev pub Leads : ℕ → ℕ → List RecordLine → ℕ → ℕ → Type 0
Leads place file [] missing last = (missing ≡ place) × (last ≡ file)
Leads place file (l ∷ lines) missing last =
    ((l.place ≡ place) × Leads (place + 1) l.file lines missing last)
    ⊎ ((l.place + 1 ≡ place) × (l.file ≡ file) × Leads place file lines missing last)

pub leads_rises : (place file : ℕ) (lines : List RecordLine) (missing last : ℕ)
    → Leads place file lines missing last → Rises place file lines missing
leads_rises place file [] missing last h = h.0
leads_rises place file (l ∷ lines) missing last (inl h) = inl (h.0, leads_rises (place + 1) l.file lines missing last h.1)
leads_rises place file (l ∷ lines) missing last (inr h) = inr (h.0, h.1, leads_rises place file lines missing last h.2)

-- a line of the next place
pub leads_up : (place file : ℕ) (lines : List RecordLine) (missing last : ℕ) (x : RecordLine)
    → Leads place file lines missing last → x.place ≡ missing → Leads place file (lines ++ x ∷ []) (missing + 1) x.file
leads_up place file [] missing last x h e = inl (e ∙ h.0, (ap (λ n. n + 1) h.0, refl))
leads_up place file (l ∷ lines) missing last x (inl h) e = inl (h.0, leads_up (place + 1) l.file lines missing last x h.1 e)
leads_up place file (l ∷ lines) missing last x (inr h) e = inr (h.0, h.1, leads_up place file lines missing last x h.2 e)

-- a line more of the last one
pub leads_on : (place file : ℕ) (lines : List RecordLine) (missing last : ℕ) (x : RecordLine)
    → Leads place file lines missing last → x.place + 1 ≡ missing → x.file ≡ last
    → Leads place file (lines ++ x ∷ []) missing last
leads_on place file [] missing last x h e f = inr (e ∙ h.0, f ∙ h.1, h)
leads_on place file (l ∷ lines) missing last x (inl h) e f = inl (h.0, leads_on (place + 1) l.file lines missing last x h.1 e f)
leads_on place file (l ∷ lines) missing last x (inr h) e f = inr (h.0, h.1, leads_on place file lines missing last x h.2 e f)

-- the line at a place of a list, behind those before it
pub up_at : (lines : List RecordLine) (i missing last : ℕ) (d : RecordLine) → i < length lines
    → Leads 0 0 (take i lines) missing last → (get_or lines i d).place ≡ missing
    → Leads 0 0 (take (i + 1) lines) (missing + 1) (get_or lines i d).file
up_at lines i missing last d low leads e =
    rw (take_more lines i d low) (leads_up 0 0 (take i lines) missing last (get_or lines i d) leads e)

pub on_at : (lines : List RecordLine) (i missing last : ℕ) (d : RecordLine) → i < length lines
    → Leads 0 0 (take i lines) missing last → (get_or lines i d).place + 1 ≡ missing → (get_or lines i d).file ≡ last
    → Leads 0 0 (take (i + 1) lines) missing last
on_at lines i missing last d low leads e f =
    rw (take_more lines i d low) (leads_on 0 0 (take i lines) missing last (get_or lines i d) leads e f)

-- a line that is below what is missing is of the place before that
pub place_before : (lines : List RecordLine) (i missing : ℕ) (d : RecordLine)
    → IsNonDecreasingBy (λ (l : RecordLine). l.place) lines → i < length lines → (i ≡ 0 → missing ≡ 0)
    → ((e : RecordLine) → 0 < i → (get_or lines (i - 1) e).place + 1 ≡ missing)
    → (get_or lines i d).place < missing → (get_or lines i d).place + 1 ≡ missing
place_before lines i missing d up low none last below = elim (cases_lt 0 i) [
  | inl pos ↦ let a = last d pos in let b = up (i - 1) i d (omega arith) low in omega (arith, a, b, below)
  | inr z ↦ let m = none (omega (arith, z)) in omega (arith, m, below)
]

-- no line is of the place that is missing
pub leads_below : (place file : ℕ) (lines : List RecordLine) (missing : ℕ)
    → Rises place file lines missing → place ≤ missing
leads_below place file [] missing h = omega (arith, h)
leads_below place file (l ∷ lines) missing (inl h) = let more = leads_below (place + 1) l.file lines missing h.1 in omega (arith, more)
leads_below place file (l ∷ lines) missing (inr h) = leads_below place file lines missing h.2

-- lines that are all above a place have none of it
pub none_above : (place missing : ℕ) (lines : List RecordLine) → AllByRecursion (λ l. missing < l.place) lines
    → place ≤ missing → at_place place lines ≡ []
none_above place missing [] above low = refl
none_above place missing (l ∷ lines) above low =
    let rest = none_above place missing lines above.1 low in
    let other : (l.place == place) ≡ false = ne_eqb l.place place (λ e. omega (arith, e, above.0, low)) in
    rw other rest

-- in lines whose places do not fall, all from one above a place on are above it
pub all_above : (missing : ℕ) (lines : List RecordLine) → IsNonDecreasingBy (λ (l : RecordLine). l.place) lines
    → ((d : RecordLine) → 0 < length lines → missing < (get_or lines 0 d).place)
    → AllByRecursion (λ l. missing < l.place) lines
all_above missing [] up first = tt
all_above missing (l ∷ []) up first = (first l (omega arith), tt)
all_above missing (l ∷ (m ∷ lines)) up first =
    let head = first l (omega arith) in
    let next = up 0 1 l (omega arith) (omega arith) in (
      head,
      all_above missing (m ∷ lines) (IsNonDecreasingBy-drop (λ (l : RecordLine). l.place) 1 (l ∷ (m ∷ lines)) up)
          (λ d _. omega (arith, head, next)),
    )

-- what is given is what all lines have, where those left out are above
pub joined : (all given left_out sorted : List RecordLine) (missing : ℕ) → sorted ≡ given ++ left_out
    → ((place : ℕ) → at_place place sorted ≡ at_place place all)
    → Rises 0 0 given missing → AllByRecursion (λ l. missing < l.place) left_out → IsJoined all given missing
joined all given left_out sorted missing whole same up above = record {
  rises = up;
  each = λ place low.
      let none = none_above place missing left_out above low in
      let parts = filter-append (λ (l : RecordLine). l.place == place) given left_out in
      (sym (append-nil (at_place place given)) ∙ ap (λ more. at_place place given ++ more) (sym none) ∙ sym parts
      ∙ ap (at_place place) (sym whole)) ∙ same place;
}

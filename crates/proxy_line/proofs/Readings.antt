-- A text is a number where the number that it reads as is written so.
use Rattle.std.proofs.Common.{◌≡◌, ℕ, ◌<◌, ◌^◌, Bool, true, false, List, Some, None, Result, Ok, Err, MatchResult, sym, ap, ◌∙◌, subst, arith, decimal}
use Rattle.std.specs.Bool.{then_some}
use Rattle.std.specs.Result.{result_ok}
use Rattle.std.specs.Str.{IsUtf8, bytes_eq}
use Rattle.std.specs.Str.Parse.{ParsesUnsigned}
use Rattle.std.specs.Borrow.{Bor}
use Rattle.std.proofs.lemmas.Bool.{false≢true}
use Rattle.std.proofs.lemmas.Fmt.{parse-decimal, IsAscii-decimal}
use Rattle.std.proofs.lemmas.Slice.Eq.{bytes_eq-Decides}
use Rattle.std.proofs.lemmas.Str.{IsUtf8-from_ascii}
use Rattle.proxy_line.specs.Words.{Finds, IsNumber, LeadsWith, PartedAt}
use Rattle.proxy_line.proofs.Parts.{parted_once, lacks_digits}

pub finds_none : {X : Type 0} (P : X → Type 0) → ((x : X) → P x → ⊥) → Finds P None
finds_none P none = record { sound = tt; complete = λ x p. absurd (none x p) }

-- a number is text
pub number_is_text : (text : List ℕ) (n : ℕ) → IsNumber text n → IsUtf8 text
number_is_text text n is = subst IsUtf8 (sym is.0) (IsUtf8-from_ascii (decimal n) (IsAscii-decimal n (omega (arith, is.1))))

pub text_of : {E : Type 0} (r : Result (Bor (List ℕ)) E) (text : List ℕ) (Q : E → Type 0) (digits : Bor (List ℕ)) → MatchResult r (λ s. (s.now ≡ text) × IsUtf8 text) Q → result_ok r ≡ Some digits → digits.now ≡ text
text_of (Ok s) text Q digits h e = let same : s ≡ digits = cc in sym (ap (λ (b : Bor (List ℕ)). b.now) same) ∙ h.0
text_of (Err x) text Q digits h e = absurd cc

pub no_text : {E : Type 0} (r : Result (Bor (List ℕ)) E) (text : List ℕ) (Q : E → Type 0) → MatchResult r (λ s. (s.now ≡ text) × IsUtf8 text) (λ e. (¬ (IsUtf8 text)) × Q e) → result_ok r ≡ None → Finds (IsNumber text) None
no_text (Ok s) text Q h e = absurd cc
no_text (Err x) text Q h e = finds_none (IsNumber text) (λ n is. h.0 (number_is_text text n is))

reads_as : {E : Type 0} (r : Result ℕ E) (text : List ℕ) (n : ℕ) → ParsesUnsigned 32 10 text r → IsNumber text n → r ≡ Ok n
reads_as r text n h is = parse-decimal 32 n text r is.1 (omega (arith, is.1)) is.0 h

pub no_number : {E : Type 0} (r : Result ℕ E) (text : List ℕ) → ParsesUnsigned 32 10 text r → result_ok r ≡ None → Finds (IsNumber text) None
no_number r text h e = finds_none (IsNumber text) (λ n is. let f = reads_as r text n h is in let g = ap result_ok f in absurd cc)

in_range : {E : Type 0} (r : Result ℕ E) (text : List ℕ) (value : ℕ) → ParsesUnsigned 32 10 text r → result_ok r ≡ Some value → value < 2 ^ 32
in_range (Ok n) text value h e = let same : n ≡ value = cc in omega (arith, h.0.1, h.1)
in_range (Err x) text value h e = absurd cc

pub number_if_written : {E : Type 0} (r : Result ℕ E) (text : List ℕ) (value : ℕ) (b : Bool) → ParsesUnsigned 32 10 text r → result_ok r ≡ Some value → b ≡ bytes_eq (decimal value) text → Finds (IsNumber text) (then_some b value)
number_if_written r text value true h e same = record {
  sound = (sym ((bytes_eq-Decides (decimal value) text).0 (sym same)), in_range r text value h e);
  complete = λ n is. let f = ap result_ok (reads_as r text n h is) in cc;
}
number_if_written r text value false h e same = finds_none (IsNumber text) (λ n is.
    let f = ap result_ok (reads_as r text n h is) in
    let is_value : n ≡ value = cc in
    false≢true (same ∙ (bytes_eq-Decides (decimal value) text).1 (ap decimal (sym is_value) ∙ sym is.0)))

-- the parts at a separator, the number before it, and what stands behind
pub leads_once : (separator : ℕ) (text digits behind : List ℕ) (n : ℕ) (rest : List ℕ) → separator < 48 → PartedAt separator text digits behind → LeadsWith separator text n rest → (digits ≡ decimal n) × (behind ≡ rest)
leads_once separator text digits behind n rest low parts leads = parted_once separator digits (decimal n) parts.first (lacks_digits separator n low (omega (arith, leads.1))) (sym parts.whole ∙ leads.0)

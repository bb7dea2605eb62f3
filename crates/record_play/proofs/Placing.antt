-- A text is a place where the number that it reads as is written so.
use Rattle.std.proofs.Common.{◌≡◌, ℕ, ◌<◌, ◌^◌, Bool, true, false, List, Some, None, Result, Ok, Err, MatchResult, sym, ap, ◌∙◌, subst, arith, decimal}
use Rattle.std.specs.Bool.{then_some}
use Rattle.std.specs.Result.{result_ok}
use Rattle.std.specs.Str.{IsUtf8, bytes_eq}
use Rattle.std.specs.Str.Parse.{ParsesUnsigned}
use Rattle.std.specs.Borrow.{Bor}
use Rattle.std.proofs.lemmas.Bool.{false≢true}
use Rattle.std.proofs.lemmas.Fmt.{parse-decimal, IsAscii-decimal}
use Rattle.std.proofs.lemmas.Slice.Eq.{bytes_eq-Decides}
use Rattle.std.proofs.lemmas.Str.{IsUtf8-from_ascii}
use Rattle.proxy_line.specs.Words.{Finds}
use Rattle.proxy_line.proofs.Readings.{finds_none}
use Rattle.record_play.specs.Files.{IsPlace}

place_is_text : (text : List ℕ) (n : ℕ) → IsPlace text n → IsUtf8 text
place_is_text text n is = subst IsUtf8 (sym is.0) (IsUtf8-from_ascii (decimal n) (IsAscii-decimal n is.1))

pub no_text : {E : Type 0} (r : Result (Bor (List ℕ)) E) (text : List ℕ) (Q : E → Type 0)
    → MatchResult r (λ s. (s.now ≡ text) × IsUtf8 text) (λ e. (¬ (IsUtf8 text)) × Q e)
    → result_ok r ≡ None → Finds (IsPlace text) None
no_text (Ok s) text Q h e = absurd cc
no_text (Err x) text Q h e = finds_none (IsPlace text) (λ n is. h.0 (place_is_text text n is))

reads_as : {E : Type 0} (r : Result ℕ E) (text : List ℕ) (n : ℕ) → ParsesUnsigned 64 10 text r → IsPlace text n → r ≡ Ok n
reads_as r text n h is = parse-decimal 64 n text r is.1 is.1 is.0 h

pub no_place : {E : Type 0} (r : Result ℕ E) (text : List ℕ) → ParsesUnsigned 64 10 text r → result_ok r ≡ None
    → Finds (IsPlace text) None
no_place r text h e = finds_none (IsPlace text) (λ n is. let f = reads_as r text n h is in let g = ap result_ok f in absurd cc)

in_range : {E : Type 0} (r : Result ℕ E) (text : List ℕ) (value : ℕ) → ParsesUnsigned 64 10 text r
    → result_ok r ≡ Some value → value < 2 ^ 64
in_range (Ok n) text value h e = let same : n ≡ value = cc in omega (arith, h.0.1, h.1)
in_range (Err x) text value h e = absurd cc

pub place_if_written : {E : Type 0} (r : Result ℕ E) (text : List ℕ) (value : ℕ) (b : Bool)
    → ParsesUnsigned 64 10 text r → result_ok r ≡ Some value → b ≡ bytes_eq (decimal value) text
    → Finds (IsPlace text) (then_some b value)
place_if_written r text value true h e same = record {
  sound = (sym ((bytes_eq-Decides (decimal value) text).0 (sym same)), in_range r text value h e);
  complete = λ n is. let f = ap result_ok (reads_as r text n h is) in cc;
}
place_if_written r text value false h e same = finds_none (IsPlace text) (λ n is.
    let f = ap result_ok (reads_as r text n h is) in
    let is_value : n ≡ value = cc in
    false≢true (same ∙ (bytes_eq-Decides (decimal value) text).1 (ap decimal (sym is_value) ∙ sym is.0)))

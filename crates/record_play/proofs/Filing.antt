-- What a file has, line by line.
use Rattle.std.proofs.Common.{◌≡◌, ℕ, ◌+◌, ◌-◌, ◌<◌, ◌≤◌, false, List, [], ◌∷◌, ◌++◌, Option, decimal, refl, sym, ap, ◌∙◌, subst, arith, append-nil, append_assoc, length, length-append, map, map-id, get_or, suc}
use Rattle.std.specs.Prelude.{flat_map}
use Rattle.std.specs.List.{AllByRecursion, range_with_len}
use Rattle.std.specs.List.Sorted.{IsNonDecreasingBy}
use Rattle.std.proofs.lemmas.Bool.{or_parts}
use Rattle.std.proofs.lemmas.List.{map-append}
use Rattle.std.proofs.lemmas.List.Concat.{flat_map-append}
use Rattle.std.proofs.lemmas.List.FromFn.{map-range_with_len_more}
use Rattle.std.proofs.lemmas.List.Sorted.{IsNonDecreasingBy-push, IsNonDecreasingBy-short}
use Rattle.line_words.specs.Bytes.{has_byte}
use Rattle.proxy_line.specs.Words.{PartedAt}
use Rattle.record_play.specs.Files.{HasPlace, IsFile, IsLineOf, IsOver, last_place, written}
use Rattle.record_play.specs.declared.file.RecordLine.{RecordLine}
use Rattle.record_play.proofs.Listing.{each_more, last_place-more}

-- the lines so far, and what is left of the text behind them
pub record SoFar (file : ℕ) (text : List ℕ) (here : List RecordLine) (number least : ℕ) (rest : List ℕ) : Type 0 where
  pub whole : text ≡ flat_map written here ++ rest
  pub each : AllByRecursion (IsLineOf file) here
  pub counted : map (λ (l : RecordLine). l.number) here ≡ range_with_len 1 (length here)
  pub rises : IsNonDecreasingBy (λ (l : RecordLine). l.place) here
  pub many : number ≡ length here
  pub last : least ≡ last_place 0 here

pub so_none : (file : ℕ) (text : List ℕ) → SoFar file text [] 0 0 text
so_none file text = record {
  whole = refl;
  each = tt;
  counted = refl;
  rises = IsNonDecreasingBy-short (λ (l : RecordLine). l.place) [] (omega arith);
  many = refl;
  last = refl;
}

-- the end of a list that lacks a byte lacks it
pub lacks_behind : (m : ℕ) (xs ys : List ℕ) → has_byte m (xs ++ ys) ≡ false → has_byte m ys ≡ false
lacks_behind m [] ys h = h
lacks_behind m (x ∷ xs) ys h = lacks_behind m xs ys (or_parts _ _ h).1

-- what stood behind the lines so far is one line more and what is behind it
one_more : (rest line behind digits step : List ℕ) (place : ℕ) → rest ≡ line ++ 10 ∷ behind → line ≡ digits ++ 32 ∷ step
    → digits ≡ decimal place → rest ≡ (decimal place ++ 32 ∷ (step ++ 10 ∷ [])) ++ behind
one_more rest line behind digits step place whole parts is = rw (whole, parts, is) (simp append_assoc)

last_at : (place : ℕ) (lines : List RecordLine) (d : RecordLine) → 0 < length lines
    → (get_or lines (length lines - 1) d).place ≡ last_place place lines
last_at place [] d some = absurd (omega (arith, some))
last_at place (l ∷ []) d some = refl
last_at place (l ∷ (m ∷ lines)) d some =
    let next : length (l ∷ (m ∷ lines)) - 1 ≡ suc (length (m ∷ lines) - 1) = omega arith in
    rw next (last_at l.place (m ∷ lines) d (omega arith))

range_more : (a n : ℕ) → range_with_len a (n + 1) ≡ range_with_len a n ++ (a + n) ∷ []
range_more a n = sym (map-id (range_with_len a (n + 1))) ∙ map-range_with_len_more (λ (x : ℕ). x) a n (a + n) refl
    ∙ ap (λ l. l ++ (a + n) ∷ []) (map-id (range_with_len a n))

counted_more : (here : List RecordLine) (x : RecordLine) → map (λ (l : RecordLine). l.number) here ≡ range_with_len 1 (length here)
    → x.number ≡ length here + 1 → map (λ (l : RecordLine). l.number) (here ++ x ∷ []) ≡ range_with_len 1 (length (here ++ x ∷ []))
counted_more here x so is =
    let size : length (here ++ x ∷ []) ≡ length here + 1 = length-append here (x ∷ []) in
    let next : x.number ≡ 1 + length here = omega (arith, is) in
    rw size (map-append (λ (l : RecordLine). l.number) here (x ∷ []) ∙ ap (λ l. l ++ x.number ∷ []) so
    ∙ ap (λ n. range_with_len 1 (length here) ++ n ∷ []) next ∙ sym (range_more 1 (length here)))

pub so_more : (file : ℕ) (text : List ℕ) (here : List RecordLine) (number least : ℕ) (rest line behind : List ℕ) (x : RecordLine)
    → SoFar file text here number least rest → PartedAt 10 rest line behind → HasPlace line x.place x.step.now
    → x.file ≡ file → x.number ≡ number + 1 → least ≤ x.place
    → SoFar file text (here ++ x ∷ []) (number + 1) x.place behind
so_more file text here number least rest line behind x so parts placed in_file is up = record {
  whole =
      let next = one_more rest line behind placed.0 x.step.now x.place parts.whole placed.1.whole placed.2.0 in
      let behind_it : flat_map written (here ++ x ∷ []) ++ behind ≡ flat_map written here ++ (written x ++ behind) =
      ap (λ l. l ++ behind) (flat_map-append written here (x ∷ [])) ∙ append_assoc (flat_map written here) (flat_map written (x ∷ [])) behind
      ∙ ap (λ l. flat_map written here ++ (l ++ behind)) (append-nil (written x)) in
      so.whole ∙ ap (λ l. flat_map written here ++ l) next ∙ sym behind_it;
  each = each_more (IsLineOf file) here x so.each (
    in_file,
    placed.2.1,
    lacks_behind 10 (placed.0 ++ 32 ∷ []) x.step.now
        (subst (λ l. has_byte 10 l ≡ false) (placed.1.whole ∙ sym (append_assoc placed.0 (32 ∷ []) x.step.now)) parts.first),
  );
  counted = counted_more here x so.counted (is ∙ ap (λ n. n + 1) so.many);
  rises = IsNonDecreasingBy-push (λ (l : RecordLine). l.place) here x so.rises (λ d some. let e = last_at 0 here d some in omega (arith, e, so.last, up));
  many = let size = length-append here (x ∷ []) in omega (arith, size, so.many);
  last = sym (last_place-more 0 here x);
}

pub so_over : (file : ℕ) (text : List ℕ) (here : List RecordLine) (number least : ℕ) (rest : List ℕ) (why : Option (List ℕ))
    → SoFar file text here number least rest → IsOver rest why → IsFile file text (record { lines = here; why = why })
so_over file text here number least rest why so over = record {
  rest = rest;
  whole = so.whole;
  over = over;
  each = so.each;
  counted = so.counted;
  rises = so.rises;
}

-- What a framer's buffer holds after a further piece.
use Rattle.std.proofs.Common.{◌≡◌, ◌≢◌, ℕ, zero, suc, ◌+◌, ◌-◌, ◌<◌, ◌≤◌, List, [], ◌∷◌, ◌++◌, length, get_or, take, drop, refl, sym, ap, subst, ◌∙◌, Bool, true, false, T, ◌⊎◌, arith, length-take, length-append, length-drop, inl, inr}
use Rattle.std.specs.Prelude.{Option, None, Some, if◌then◌else◌, nat_le}
use Rattle.std.proofs.Math.Seq.{take-add}
use Rattle.std.proofs.lemmas.List.{drop-drop, drop-append-le, take-append-le, take_at, take-take, drop_all, get_or-take, get_or_append_left, get_or-append-add}
use Rattle.line_framer.specs.Frames.{with_ends, Parts, parts, lines_in, rest_of, sound_lines, is_spoilt}
use Rattle.line_framer.specs.Framed.{TookIn}
use Rattle.line_framer.specs.Buffered.{HasNoEnd, IsFirstEnd, IsBuffered, IsCut}
use Rattle.line_framer.proofs.Parts.{joined, rest_has_no_end, with_ends-append}
use Rattle.line_framer.proofs.Limit.{all_sound, parts_of_sound, sound_is_sound}
use Rattle.line_framer.proofs.Stands.{lines-append, spoilt-append, rest-append, stands_fed}
use Rattle.line_framer.proofs.Buffer.{none_behind_whole}
use Rattle.std.proofs.lemmas.Bool.{or_parts}

-- where no LF stands behind a place, a cut there keeps the first one
narrowed : (xs : List ℕ) (w : ℕ) → ((k : ℕ) → w ≤ k → k < length xs → get_or xs k 0 ≢ 10) → (next : Option ℕ) → IsFirstEnd xs next → IsFirstEnd (take w xs) next
narrowed xs w none None h = λ k lt is.
    h k (omega (arith, length-take w xs)) (sym (get_or-take w xs k 0 (omega (arith, length-take w xs))) ∙ is)
narrowed xs w none (Some n) h =
    let in_front : n < w = elim (nat_le w n) as (λ t. nat_le w n ≡ t → n < w) [
      | true ↦ λ e. absurd (none n (grind (arith)) h.within h.is_end)
      | false ↦ λ e. grind (arith)
    ] refl in
    record {
      within = omega (arith, h.within, length-take w xs);
      is_end = get_or-take w xs n 0 in_front ∙ h.is_end;
      before = λ k lt is. h.before k lt (sym (get_or-take w xs k 0 (omega arith)) ∙ is);
    }

take-append-take : (w : ℕ) (xs ys : List ℕ) → take w (xs ++ take (w - length xs) ys) ≡ take w (xs ++ ys)
take-append-take w [] ys = take-take w (w - 0) ys (omega arith)
take-append-take zero (x ∷ xs) ys = refl
take-append-take (suc w) (x ∷ xs) ys = ap (λ zs. x ∷ zs) (ap (λ n. take w (xs ++ take n ys)) (omega arith) ∙ take-append-take w xs ys)

module _ {a : List ℕ} (piece : List ℕ) {next : Option ℕ} {whole limit : ℕ} (b : IsBuffered a next whole limit) where
  pub rest_size : length (rest_of a) ≡ length a - whole
  rest_size = ap length b.rest ∙ length-drop whole a

  lines_are : with_ends (lines_in a) ≡ take whole a
  lines_are =
      let size : length (with_ends (lines_in a)) ≡ whole = omega (arith, rest_size, b.within, length-append (with_ends (lines_in a)) (rest_of a), ap length (joined a)) in
      sym (take_at (with_ends (lines_in a)) (rest_of a) whole size) ∙ ap (take whole) (joined a)

  behind_whole : (more : List ℕ) → rest_of a ++ more ≡ drop whole (a ++ more)
  behind_whole more = ap (λ r. r ++ more) b.rest ∙ sym (drop-append-le whole a more b.within)

  -- what is kept has no LF where no line ends in it
  pub no_end_kept : {kept : List ℕ} {cut : ℕ} (spoilt : Bool) → IsCut (rest_of a ++ piece) limit cut spoilt → kept ≡ (if spoilt then take (cut - length (rest_of a)) piece else piece) → cut ≡ 0 → HasNoEnd kept
  no_end_kept {kept} {cut} true c is zero_cut k lt e =
      absurd (omega (arith, ap length is, length-take (cut - length (rest_of a)) piece))
  no_end_kept {kept} {cut} false c is zero_cut k lt e =
      let all : rest_of (rest_of a ++ piece) ≡ rest_of a ++ piece = c.rest refl ∙ ap (λ n. drop n (rest_of a ++ piece)) zero_cut in
      let none : HasNoEnd (rest_of a ++ piece) = subst HasNoEnd all (rest_has_no_end (rest_of a ++ piece)) in
      none (length (rest_of a) + k) (omega (arith, ap length is, length-append (rest_of a) piece))
      (get_or-append-add (rest_of a) piece k 0 ∙ ap (λ xs. get_or xs k 0) (sym is) ∙ e)

  -- a piece that is kept whole
  module _ {cut : ℕ} (c : IsCut (rest_of a ++ piece) limit cut false) (few : cut ≤ length (rest_of a) + length piece) where
    pub fed_sound : is_spoilt (a ++ piece) limit ≡ false
    fed_sound = spoilt-append a piece limit b.sound ∙ sym c.spoilt_is

    pub fed_lines : lines_in (a ++ piece) ≡ sound_lines limit (lines_in (a ++ piece))
    fed_lines = sym (all_sound limit (lines_in (a ++ piece)) (or_parts _ _ fed_sound).0)

    pub fed_buffer : {new : Option ℕ} → IsFirstEnd (a ++ piece) new → IsBuffered (a ++ piece) new (whole + cut) limit
    fed_buffer found = record {
      within = omega (arith, few, rest_size, b.within, length-append a piece);
      rest = rest-append a piece limit b.sound ∙ c.rest refl ∙ ap (drop cut) (behind_whole piece) ∙ drop-drop cut whole (a ++ piece);
      next_end = found;
      sound = fed_sound;
    }

    -- the framer that keeps that stands for the piece too
    pub fed_stands : (spoilt : Bool) → spoilt ≡ false → (ahead : List ℕ) → ahead ≡ a ++ piece
        → (met : Bool) → met ≡ false → TookIn (record { limit = limit; ahead = a; spoilt = met }) piece (record { limit = limit; ahead = ahead; spoilt = spoilt })
    fed_stands spoilt is ahead same met live bytes dropped s =
        stands_fed (record { limit = limit; ahead = a; spoilt = met }) bytes piece dropped (record { limit = limit; ahead = ahead; spoilt = spoilt }) live b.sound s refl
        (is ∙ sym fed_sound) (ap lines_in same ∙ fed_lines) (λ e. ap rest_of same)

  -- what is kept before the spoilt place
  module _ {cut : ℕ} (c : IsCut (rest_of a ++ piece) limit cut true) (few : cut ≤ length (rest_of a) + length piece) (apart : (cut ≡ 0) ⊎ (length (rest_of a) < cut)) where
    pub cut_lines : take (whole + cut) (a ++ take (cut - length (rest_of a)) piece) ≡ with_ends (sound_lines limit (lines_in (a ++ piece)))
    cut_lines =
        take-add whole cut (a ++ take (cut - length (rest_of a)) piece)
        ∙ ap (λ xs. xs ++ take cut (drop whole (a ++ take (cut - length (rest_of a)) piece))) (take-append-le whole a (take (cut - length (rest_of a)) piece) b.within ∙ sym lines_are)
        ∙ ap (λ xs. with_ends (lines_in a) ++ take cut xs) (sym (behind_whole (take (cut - length (rest_of a)) piece)))
        ∙ ap (λ xs. with_ends (lines_in a) ++ xs) (take-append-take cut (rest_of a) piece ∙ sym c.lines)
        ∙ sym (with_ends-append (lines_in a) (sound_lines limit (lines_in (rest_of a ++ piece))))
        ∙ sym (lines-append a piece limit b.sound)

    pub cut_spoilt : is_spoilt (a ++ piece) limit ≡ true
    cut_spoilt = spoilt-append a piece limit b.sound ∙ sym c.spoilt_is

    pub cut_parts : parts (take (whole + cut) (a ++ take (cut - length (rest_of a)) piece)) ≡ (sound_lines limit (lines_in (a ++ piece)), [])
    cut_parts = ap parts cut_lines ∙ parts_of_sound limit (a ++ piece)

    size : length (a ++ take (cut - length (rest_of a)) piece) ≡ length a + (cut - length (rest_of a))
    size = omega (arith, few, length-append a (take (cut - length (rest_of a)) piece), length-take (cut - length (rest_of a)) piece)

    enough : whole + cut ≤ length (a ++ take (cut - length (rest_of a)) piece)
    enough = elim apart [ inl none ↦ omega (arith, size, b.within) | inr some ↦ omega (arith, size, b.within, rest_size) ]

    none_behind : (k : ℕ) → whole + cut ≤ k → k < length (a ++ take (cut - length (rest_of a)) piece) → get_or (a ++ take (cut - length (rest_of a)) piece) k 0 ≢ 10
    none_behind k low lt is =
        elim apart [
          | inl none ↦ none_behind_whole a whole b.rest k (omega arith) (omega (arith, size))
              (sym (get_or_append_left a (take (cut - length (rest_of a)) piece) 0 k (omega (arith, size))) ∙ is)
          | inr some ↦ absurd (omega (arith, size, rest_size, b.within))
        ]

    pub cut_buffer : {new : Option ℕ} → IsFirstEnd (a ++ take (cut - length (rest_of a)) piece) new → IsBuffered (take (whole + cut) (a ++ take (cut - length (rest_of a)) piece)) new (whole + cut) limit
    cut_buffer {new} found =
        let all = a ++ take (cut - length (rest_of a)) piece in
        record {
          within = omega (arith, enough, length-take (whole + cut) all);
          rest = ap (λ (q : Parts). q.1) cut_parts ∙ sym (drop_all (whole + cut) (take (whole + cut) all) (omega (arith, length-take (whole + cut) all)));
          next_end = narrowed all (whole + cut) none_behind new found;
          sound = ap (λ xs. is_spoilt xs limit) cut_lines ∙ sound_is_sound limit (a ++ piece);
        }

    -- the framer that keeps that stands for the piece too
    pub cut_stands : (spoilt : Bool) → spoilt ≡ true → (ahead : List ℕ) → ahead ≡ take (whole + cut) (a ++ take (cut - length (rest_of a)) piece)
        → (met : Bool) → met ≡ false → TookIn (record { limit = limit; ahead = a; spoilt = met }) piece (record { limit = limit; ahead = ahead; spoilt = spoilt })
    cut_stands spoilt is ahead same met live bytes dropped s =
        stands_fed (record { limit = limit; ahead = a; spoilt = met }) bytes piece dropped (record { limit = limit; ahead = ahead; spoilt = spoilt }) live b.sound s refl
        (is ∙ sym cut_spoilt) (ap lines_in same ∙ ap (λ (q : Parts). q.0) cut_parts) (λ e. absurd (subst T (sym is ∙ e) tt))

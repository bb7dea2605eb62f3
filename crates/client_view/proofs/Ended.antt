-- What further bytes without an LF, and then an LF, make of the frames of a stream.
use Rattle.std.proofs.Common.{◌≡◌, ℕ, ◌+◌, ◌-◌, ◌<◌, ◌≤◌, List, [], ◌∷◌, ◌++◌, length, get_or, refl, sym, ap, ◌∙◌, true, false, arith, append_assoc, append-nil, length-append}
use Rattle.std.specs.Prelude.{map, nat_lt, if◌then◌else◌, not, ◌||◌}
use Rattle.std.specs.List.{list_any}
use Rattle.std.proofs.lemmas.List.{get_or_append_left, get_or-append-add}
use Rattle.std.proofs.lemmas.Bool.Decides.{nat_tests}
use Rattle.line_framer.specs.Frames.{Parts, parts, rest_of, frames, is_spoilt, sound_lines, without_cr, fits}
use Rattle.line_framer.specs.Buffered.{HasNoEnd}
use Rattle.line_framer.proofs.Parts.{parts_onto, parts_none, rest_has_no_end}
use Rattle.line_framer.proofs.Limit.{too_long, short_rest}
use Rattle.line_framer.proofs.Stands.{frames-append, spoilt-append, rest-append}
use Rattle.std.proofs.lemmas.Bool.{le-leb}

-- two pieces without an LF
pub none_in_both : (xs ys : List ℕ) → HasNoEnd xs → HasNoEnd ys → HasNoEnd (xs ++ ys)
none_in_both xs ys hx hy k lt is =
    elim (nat_lt k (length xs)) as (λ t. nat_lt k (length xs) ≡ t → ⊥) [
      | true ↦ λ e. let within : k < length xs = grind (arith, nat_tests) in
          hx k within (sym (get_or_append_left xs ys 0 k within) ∙ is)
      | false ↦ λ e. let past : length xs ≤ k = grind (arith, nat_tests) in
          let place : length xs + (k - length xs) ≡ k = omega arith in
          hy (k - length xs) (omega (arith, length-append xs ys))
          (sym (get_or-append-add xs ys (k - length xs) 0) ∙ ap (λ n. get_or (xs ++ ys) n 0) place ∙ is)
    ] refl

-- one line and its LF
module _ (line : List ℕ) (none : HasNoEnd line) (limit : ℕ) where
  parts_of_line : parts (line ++ 10 ∷ []) ≡ ((line ++ []) ∷ [], [])
  parts_of_line = parts_onto line (10 ∷ []) none

  frames_of_line : length line ≤ limit → frames (line ++ 10 ∷ []) limit ≡ without_cr line ∷ []
  frames_of_line small =
      ap (λ (q : Parts). map without_cr (sound_lines limit q.0)) parts_of_line
      ∙ ap (λ l. map without_cr (sound_lines limit (l ∷ []))) (append-nil line)
      ∙ ap (λ b. map without_cr (if b then line ∷ [] else [])) (le-leb (length line) limit small)

  spoilt_of_line : length line ≤ limit → is_spoilt (line ++ 10 ∷ []) limit ≡ false
  spoilt_of_line small =
      ap (λ (q : Parts). list_any (λ part. not (fits limit part)) q.0 || not (fits limit q.1)) parts_of_line
      ∙ ap (λ l. (not (fits limit l) || false) || not (fits limit [])) (append-nil line)
      ∙ ap (λ b. (not b || false) || not (fits limit [])) (le-leb (length line) limit small)
      ∙ ap not (le-leb 0 limit (omega arith))

-- a stream that is not spoilt, and further bytes without an LF
module _ (bytes more : List ℕ) (limit : ℕ) (sound : is_spoilt bytes limit ≡ false) (none : HasNoEnd more) where
  line_has_none : HasNoEnd (rest_of bytes ++ more)
  line_has_none = none_in_both (rest_of bytes) more (rest_has_no_end bytes) none

  -- they end a line
  module _ (small : length (rest_of bytes ++ more) ≤ limit) where
    together : rest_of bytes ++ (more ++ 10 ∷ []) ≡ (rest_of bytes ++ more) ++ 10 ∷ []
    together = sym (append_assoc (rest_of bytes) more (10 ∷ []))

    pub ended_frames : frames (bytes ++ (more ++ 10 ∷ [])) limit ≡ frames bytes limit ++ without_cr (rest_of bytes ++ more) ∷ []
    ended_frames =
        frames-append bytes (more ++ 10 ∷ []) limit sound
        ∙ ap (λ xs. frames bytes limit ++ frames xs limit) together
        ∙ ap (λ fs. frames bytes limit ++ fs) (frames_of_line (rest_of bytes ++ more) line_has_none limit small)

    pub ended_spoilt : is_spoilt (bytes ++ (more ++ 10 ∷ [])) limit ≡ false
    ended_spoilt =
        spoilt-append bytes (more ++ 10 ∷ []) limit sound ∙ ap (λ xs. is_spoilt xs limit) together
        ∙ spoilt_of_line (rest_of bytes ++ more) line_has_none limit small

    pub ended_rest : rest_of (bytes ++ (more ++ 10 ∷ [])) ≡ []
    ended_rest =
        rest-append bytes (more ++ 10 ∷ []) limit sound ∙ ap rest_of together
        ∙ ap (λ (q : Parts). q.1) (parts_of_line (rest_of bytes ++ more) line_has_none limit)

    -- they are more of an unfinished line
    pub open_frames : frames (bytes ++ more) limit ≡ frames bytes limit
    open_frames =
        frames-append bytes more limit sound
        ∙ ap (λ (q : Parts). frames bytes limit ++ map without_cr (sound_lines limit q.0)) (parts_none (rest_of bytes ++ more) line_has_none)
        ∙ append-nil (frames bytes limit)

    pub open_spoilt : is_spoilt (bytes ++ more) limit ≡ false
    open_spoilt = spoilt-append bytes more limit sound ∙ short_rest (rest_of bytes ++ more) limit small line_has_none

    pub open_rest : rest_of (bytes ++ more) ≡ rest_of bytes ++ more
    open_rest = rest-append bytes more limit sound ∙ ap (λ (q : Parts). q.1) (parts_none (rest_of bytes ++ more) line_has_none)

  -- they make a line that is too long, whatever comes behind them
  module _ (long : limit < length (rest_of bytes ++ more)) (later : List ℕ) where
    pub long_spoilt : is_spoilt (bytes ++ (more ++ later)) limit ≡ true
    long_spoilt =
        spoilt-append bytes (more ++ later) limit sound ∙ ap (λ xs. is_spoilt xs limit) (sym (append_assoc (rest_of bytes) more later))
        ∙ (too_long (rest_of bytes ++ more) later limit long line_has_none).0

    pub long_frames : frames (bytes ++ (more ++ later)) limit ≡ frames bytes limit
    long_frames =
        frames-append bytes (more ++ later) limit sound
        ∙ ap (λ xs. frames bytes limit ++ frames xs limit) (sym (append_assoc (rest_of bytes) more later))
        ∙ ap (λ ls. frames bytes limit ++ map without_cr ls) (too_long (rest_of bytes ++ more) later limit long line_has_none).1
        ∙ append-nil (frames bytes limit)

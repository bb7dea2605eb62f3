-- Where a view stands after a piece that ends lines, and after one that ends none.
use Rattle.std.proofs.Common.{◌≡◌, ℕ, ◌+◌, ◌<◌, ◌≤◌, List, [], ◌∷◌, ◌++◌, length, take, drop, sym, ap, subst, ◌∙◌, refl, true, false, arith, append_assoc, append-nil, length-take, add_assoc, add-zero, length-append}
use Rattle.std.specs.Prelude.{nat_lt}
use Rattle.std.proofs.lemmas.Bool.Decides.{nat_tests}
use Rattle.std.proofs.lemmas.List.{take_more, take-append-drop, get_or-take}
use Rattle.line_framer.specs.Frames.{frames, is_spoilt, rest_of, without_cr}
use Rattle.line_framer.specs.Buffered.{HasNoEnd, FirstEndAt}
use Rattle.lobby_view.specs.View.{shown_all}
use Rattle.lobby_view.specs.Bytes.{frame_limit, all_read}
use Rattle.client_view.specs.Following.{Following, Followed, TookIn, HasNew, count_read}
use Rattle.client_view.proofs.Follows.{read_of, line_followed, line_counted, rest_followed, rest_counted, long_followed, lines_followed, lines_counted}

-- whether a line is too long, by the lengths of its two parts
pub is_long : (rest line : List ℕ) → nat_lt 20479 (length rest + length line) ≡ true → frame_limit < length (rest ++ line)
is_long rest line over =
    let size = length-append rest line in
    let long : 20479 < length rest + length line = grind (arith, nat_tests) in omega arith

pub is_short : (rest line : List ℕ) → nat_lt 20479 (length rest + length line) ≡ false → length (rest ++ line) ≤ frame_limit
is_short rest line within =
    let size = length-append rest line in
    let short : length rest + length line ≤ 20479 = grind (arith, nat_tests) in omega arith

-- a piece up to its first LF, and behind it
module _ (piece : List ℕ) (end : ℕ) (first : FirstEndAt piece end) where
  pub up_to_end : take (end + 1) piece ≡ take end piece ++ 10 ∷ []
  up_to_end = take_more piece end 0 first.within ∙ ap (λ b. take end piece ++ b ∷ []) first.is_end

  pub none_before : HasNoEnd (take end piece)
  none_before k lt is =
      let near : k < end = omega (arith, length-take end piece) in
      first.before k near (sym (get_or-take end piece k 0 near) ∙ is)

  pub parted : take end piece ++ 10 ∷ drop (end + 1) piece ≡ piece
  parted =
      sym (append_assoc (take end piece) (10 ∷ []) (drop (end + 1) piece)) ∙ ap (λ xs. xs ++ drop (end + 1) piece) (sym up_to_end)
      ∙ take-append-drop (end + 1) piece

-- the end of a line, and what stands behind its LF
module _ (old : Following) (line behind : List ℕ) (none : HasNoEnd line) (live : old.spoilt ≡ false) where
  -- a view after that line
  abbrev ended : Following
  ended = record { known = shown_all old.known (read_of (without_cr (old.rest ++ line))); rest = []; spoilt = old.spoilt }

  joined : (bytes : List ℕ) → (bytes ++ (line ++ 10 ∷ [])) ++ behind ≡ bytes ++ (line ++ 10 ∷ behind)
  joined bytes = append_assoc bytes (line ++ 10 ∷ []) behind ∙ ap (λ xs. bytes ++ xs) (append_assoc line (10 ∷ []) behind)

  module _ (small : length (old.rest ++ line) ≤ frame_limit) where
    line_in : (bytes : List ℕ) → Followed old bytes → Followed ended (bytes ++ (line ++ 10 ∷ []))
    line_in bytes followed = line_followed old bytes followed live line none small ended refl refl refl

    pub lines_taken : (new : Following) → new.known ≡ shown_all (shown_all old.known (read_of (without_cr (old.rest ++ line)))) (all_read (frames behind frame_limit))
        → new.spoilt ≡ is_spoilt behind frame_limit → (new.spoilt ≡ false → new.rest ≡ rest_of behind) → TookIn old (line ++ 10 ∷ behind) new
    lines_taken new known spoilt rest bytes followed =
        subst (Followed new) (joined bytes) (lines_followed ended (bytes ++ (line ++ 10 ∷ [])) (line_in bytes followed) live refl behind new known spoilt rest)

    pub lines_count : (count : ℕ) → count ≡ length (read_of (without_cr (old.rest ++ line))) + length (all_read (frames behind frame_limit))
        → HasNew old (line ++ 10 ∷ behind) count
    lines_count count is bytes followed =
        let more = length (all_read (frames behind frame_limit)) in
        ap count_read (sym (joined bytes))
        ∙ lines_counted ended (bytes ++ (line ++ 10 ∷ [])) (line_in bytes followed) live refl behind
        ∙ ap (λ n. n + more) (line_counted old bytes followed live line none small)
        ∙ add_assoc (count_read bytes) (length (read_of (without_cr (old.rest ++ line)))) more
        ∙ ap (λ n. count_read bytes + n) (sym is)

  pub line_long : frame_limit < length (old.rest ++ line) → (new : Following) → new.known ≡ old.known → new.spoilt ≡ true → TookIn old (line ++ 10 ∷ behind) new
  line_long long new known spoilt bytes followed = long_followed old bytes followed live line none long (10 ∷ behind) new known spoilt

-- more of an unfinished line
module _ (old : Following) (more : List ℕ) (none : HasNoEnd more) (live : old.spoilt ≡ false) where
  module _ (small : length (old.rest ++ more) ≤ frame_limit) where
    pub rest_taken : (new : Following) → new.known ≡ old.known → new.rest ≡ old.rest ++ more → new.spoilt ≡ old.spoilt → TookIn old more new
    rest_taken new known rest spoilt bytes followed = rest_followed old bytes followed live more none small new known rest spoilt

    pub rest_count : HasNew old more 0
    rest_count bytes followed = rest_counted old bytes followed live more none small ∙ sym (add-zero (count_read bytes))

  pub rest_long : frame_limit < length (old.rest ++ more) → (new : Following) → new.known ≡ old.known → new.spoilt ≡ true → TookIn old more new
  rest_long long new known spoilt bytes followed =
      subst (Followed new) (ap (λ xs. bytes ++ xs) (append-nil more)) (long_followed old bytes followed live more none long [] new known spoilt)

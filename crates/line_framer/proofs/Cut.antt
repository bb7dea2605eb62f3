-- The steps of a cut: over the whole lines of a window of the piece, to the spoilt place, to the unfinished line.
use Rattle.std.proofs.Common.{◌≡◌, ◌≢◌, ℕ, ◌+◌, ◌-◌, ◌<◌, ◌≤◌, List, [], ◌∷◌, ◌++◌, length, get_or, take, drop, refl, sym, ap, subst, ◌∙◌, true, false, T, arith, append_assoc, append-nil, length-take, length-append, length-drop}
use Rattle.std.specs.Prelude.{◌==◌, nat_le, max, if◌then◌else◌}
use Rattle.std.proofs.Math.Dec.{eqb→eq}
use Rattle.std.proofs.Math.Seq.{take-add}
use Rattle.std.proofs.lemmas.List.{take_more, drop-drop, take-append-drop, get_or-take, get_or-drop, get_or-append-add, get_or_append_left}
use Rattle.line_framer.specs.Frames.{with_ends, Parts, lines_in, rest_of, sound_lines, is_spoilt, without_cr}
use Rattle.line_framer.specs.Buffered.{HasNoEnd, LastEndAt, IsCut}
use Rattle.line_framer.proofs.Parts.{parts_none, rest-end}
use Rattle.line_framer.proofs.Limit.{spoilt_behind, lines_behind, rest_behind, too_long, short_rest}
use Rattle.std.proofs.lemmas.Bool.{leb-true}

-- the first bytes are whole lines that fit, and what is behind them decides
pub record Behind (bytes : List ℕ) (limit whole : ℕ) : Type 0 where
  pub spoilt : is_spoilt bytes limit ≡ is_spoilt (drop whole bytes) limit
  pub lines : with_ends (sound_lines limit (lines_in bytes)) ≡ take whole bytes ++ with_ends (sound_lines limit (lines_in (drop whole bytes)))
  pub rest : rest_of bytes ≡ rest_of (drop whole bytes)

module _ (t : List ℕ) (limit whole : ℕ) (b : Behind t limit whole) where
  -- over more lines, of which the last ends within the limit
  pub advance : (j : ℕ) → j < length (drop whole t) → get_or (drop whole t) j 0 ≡ 10 → j ≤ limit → Behind t limit (whole + (j + 1))
  advance j within is few =
      let u = drop whole t in
      let ends : rest_of (take (j + 1) u) ≡ [] = ap rest_of (take_more u j 0 within ∙ ap (λ x. take j u ++ x ∷ []) is) ∙ rest-end (take j u) in
      let later : drop (j + 1) u ≡ drop (whole + (j + 1)) t = drop-drop (j + 1) whole t in
      let front : take whole t ++ take (j + 1) u ≡ take (whole + (j + 1)) t = sym (take-add whole (j + 1) t) in
      record {
        spoilt = b.spoilt ∙ spoilt_behind u (j + 1) limit (omega arith) ends ∙ ap (λ v. is_spoilt v limit) later;
        lines = b.lines ∙ ap (λ v. take whole t ++ v) (lines_behind u (j + 1) limit (omega arith) ends)
            ∙ sym (append_assoc (take whole t) (take (j + 1) u) (with_ends (sound_lines limit (lines_in (drop (j + 1) u)))))
            ∙ ap (λ v. v ++ with_ends (sound_lines limit (lines_in (drop (j + 1) u)))) front
            ∙ ap (λ v. take (whole + (j + 1)) t ++ with_ends (sound_lines limit (lines_in v))) later;
        rest = b.rest ∙ rest_behind u (j + 1) limit (omega arith) ends ∙ ap rest_of later;
      }

  -- to an unfinished line that fits
  pub settled : HasNoEnd (drop whole t) → length (drop whole t) ≤ limit → IsCut t limit whole false
  settled none short =
      let e = parts_none (drop whole t) none in
      record {
        spoilt_is = sym (b.spoilt ∙ short_rest (drop whole t) limit short none);
        lines = b.lines ∙ ap (λ (q : Parts). take whole t ++ with_ends (sound_lines limit q.0)) e ∙ append-nil (take whole t);
        rest = λ _. b.rest ∙ ap (λ (q : Parts). q.1) e;
      }

  -- to the spoilt place
  pub spoilt_here : limit < length (drop whole t) → ((k : ℕ) → k ≤ limit → get_or (drop whole t) k 0 ≢ 10) → IsCut t limit whole true
  spoilt_here long none =
      let u = drop whole t in
      let v = take (limit + 1) u in
      let none_in_v : HasNoEnd v = λ k lt is. none k (omega (arith, length-take (limit + 1) u)) (sym (get_or-take (limit + 1) u k 0 (omega (arith, length-take (limit + 1) u))) ∙ is) in
      let r = too_long v (drop (limit + 1) u) limit (omega (arith, length-take (limit + 1) u)) none_in_v in
      let same = take-append-drop (limit + 1) u in
      record {
        spoilt_is = sym (b.spoilt ∙ ap (λ w. is_spoilt w limit) (sym same) ∙ r.0);
        lines = b.lines ∙ ap (λ w. take whole t ++ with_ends (sound_lines limit (lines_in w))) (sym same) ∙ ap (λ ls. take whole t ++ with_ends ls) r.1 ∙ append-nil (take whole t);
        rest = λ e. absurd (subst T e tt);
      }

pub nothing_cut : (t : List ℕ) (limit : ℕ) → Behind t limit 0
nothing_cut t limit = record { spoilt = refl; lines = refl; rest = refl }

lt-of-leb : (a b : ℕ) → nat_le a b ≡ false → b < a
lt-of-leb a b h = grind (arith)

-- the window of the piece that is searched: what is behind the whole lines and behind the unfinished line
module _ (rest piece : List ℕ) (whole from size : ℕ) (none : HasNoEnd rest) (at : length rest + from ≡ max whole (length rest)) where
  in_window : (k : ℕ) → k < size → get_or (take size (drop from piece)) k 0 ≡ get_or (rest ++ piece) (length rest + (from + k)) 0
  in_window k lt = get_or-take size (drop from piece) k 0 lt ∙ get_or-drop from piece k 0 ∙ sym (get_or-append-add rest piece (from + k) 0)

  -- where the window has no LF behind a place, neither have all bytes up to the window's end
  pub none_up_to : (low : ℕ) → ((j : ℕ) → low ≤ j → j < length (take size (drop from piece)) → get_or (take size (drop from piece)) j 0 ≢ 10)
      → (k : ℕ) → whole ≤ k → (length rest ≤ k → length rest + from + low ≤ k) → k < length (rest ++ piece) → k < length rest + from + size → get_or (rest ++ piece) k 0 ≢ 10
  none_up_to low w k above behind within below =
      elim (nat_le (length rest) k) as (λ b. nat_le (length rest) k ≡ b → get_or (rest ++ piece) k 0 ≢ 10) [
        | true ↦ λ e is.
            let h : length rest ≤ k = leb-true (length rest) k e in
            let b : length rest + from + low ≤ k = behind h in
            let j = k - (length rest + from) in
            let same : length rest + (from + j) ≡ k = omega arith in
            w j (omega arith) (omega (arith, length-take size (drop from piece), length-drop from piece, length-append rest piece))
            (in_window j (omega arith) ∙ ap (λ i. get_or (rest ++ piece) i 0) same ∙ is)
        | false ↦ λ e is.
            let h : k < length rest = lt-of-leb (length rest) k e in
            none k h (sym (get_or_append_left rest piece 0 k h) ∙ is)
      ] refl

  pub end_at : (end : ℕ) → LastEndAt (take size (drop from piece)) end → get_or (rest ++ piece) (length rest + (from + end)) 0 ≡ 10
  end_at end h = sym (in_window end (omega (arith, h.within, length-take size (drop from piece)))) ∙ h.is_end

  -- over the last line of the window
  pub stepped : (end limit next : ℕ) → LastEndAt (take size (drop from piece)) end → Behind (rest ++ piece) limit whole
      → length rest + from + end ≤ whole + limit → next ≡ length rest + from + end + 1 → Behind (rest ++ piece) limit next
  stepped end limit next h b few is =
      let t = rest ++ piece in
      let j = length rest + (from + end) - whole in
      let same : whole + j ≡ length rest + (from + end) = omega arith in
      let within : j < length (drop whole t) = omega (arith, length-drop whole t, length-append rest piece, h.within, length-take size (drop from piece), length-drop from piece) in
      let ends : get_or (drop whole t) j 0 ≡ 10 = get_or-drop whole t j 0 ∙ ap (λ i. get_or t i 0) same ∙ end_at end h in
      subst (λ n. Behind t limit n) (omega arith) (advance t limit whole b j within ends (omega arith))

  -- where the window is the rest of the piece, nothing behind its last line ends
  pub none_behind : (end next : ℕ) → LastEndAt (take size (drop from piece)) end → length piece ≤ from + size → next ≡ length rest + from + end + 1 → HasNoEnd (drop next (rest ++ piece))
  none_behind end next h all is k lt e =
      none_up_to (end + 1) (λ j low below. h.behind j (omega arith) below) (next + k) (omega arith) (λ _. omega arith)
      (omega (arith, length-drop next (rest ++ piece))) (omega (arith, length-drop next (rest ++ piece), length-append rest piece))
      (sym (get_or-drop next (rest ++ piece) k 0) ∙ e)

  pub none_from : HasNoEnd (take size (drop from piece)) → (k : ℕ) → whole + k < length (rest ++ piece) → whole + k < length rest + from + size → get_or (drop whole (rest ++ piece)) k 0 ≢ 10
  none_from w k within below e =
      none_up_to 0 (λ j low lt. w j lt) (whole + k) (omega arith) (λ h. omega arith) within below (sym (get_or-drop whole (rest ++ piece) k 0) ∙ e)

-- a line with one byte more at its end
pub without_cr-cr : (front : List ℕ) → without_cr (front ++ 13 ∷ []) ≡ front
without_cr-cr [] = refl
without_cr-cr (x ∷ []) = refl
without_cr-cr (x ∷ y ∷ front) = ap (λ t. x ∷ t) (without_cr-cr (y ∷ front))

other_byte : (b : ℕ) → b ≢ 13 → without_cr (b ∷ []) ≡ b ∷ []
other_byte b h = elim (b == 13) as (λ t. (b == 13) ≡ t → (if t then [] else b ∷ []) ≡ b ∷ []) [ true ↦ λ e. absurd (h (eqb→eq b 13 (subst T (sym e) tt))) | false ↦ λ e. refl ] refl

pub without_cr-other : (front : List ℕ) (b : ℕ) → b ≢ 13 → without_cr (front ++ b ∷ []) ≡ front ++ b ∷ []
without_cr-other [] b h = other_byte b h
without_cr-other (x ∷ []) b h = ap (λ t. x ∷ t) (other_byte b h)
without_cr-other (x ∷ y ∷ front) b h = ap (λ t. x ∷ t) (without_cr-other (y ∷ front) b h)

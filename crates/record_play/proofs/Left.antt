-- What is left out at the end of a file.
use Rattle.std.specs.Prelude.{◌≢◌, ◌↔◌, IfSome, IfNone, IsTrue, is_some}
use Rattle.std.specs.Borrow.{Bor}
use Rattle.std.proofs.Common.{Option, Some, None, MatchOption, ◌≡◌, ℕ, ◌+◌, ◌<◌, ◌≤◌, inl, inr, true, false, List, [], ◌∷◌, ◌++◌, codes, refl, sym, ap, ◌∙◌, subst, arith, append_assoc, length, get_or, drop, nat_eq, length-drop}
use Rattle.std.proofs.lemmas.List.{get_or-drop}
use Rattle.proxy_line.proofs.Parts.{lacks_all, never_parted}
use Rattle.line_words.specs.Bytes.{has_byte}
use Rattle.record_play.specs.Files.{HasPlace}
use Rattle.record_play.specs.Leaving.{AreLines, IsSent, LastIs, LastIsNot}

-- a list lacks a byte from a place on
pub lacks_from : (m n : ℕ) (xs : List ℕ) → n ≤ length xs → ((k : ℕ) → n ≤ k → k < length xs → nat_eq (get_or xs k 0) m ≡ true → ⊥)
    → has_byte m (drop n xs) ≡ false
lacks_from m n xs long none = lacks_all m (drop n xs) (λ k z small is.
    none (n + k) (omega arith) (omega (arith, small, length-drop n xs, long)) (sym (ap (λ x. nat_eq x m) (get_or-drop n xs k 0)) ∙ is))

pub lf_parted : (lines lf : List ℕ) (r : Option (Bor (List ℕ))) → lf ≡ 10 ∷ []
    → MatchOption r ((front : List ℕ) → lines ≢ front ++ lf) (λ x. lines ≡ x.now ++ lf) → IfSome r (λ x. lines ≡ x.now ++ 10 ∷ [])
lf_parted lines lf (Some x) e m = m ∙ ap (λ l. x.now ++ l) e
lf_parted lines lf None e m = tt

pub lf_missing : (lines lf : List ℕ) (r : Option (Bor (List ℕ))) → lf ≡ 10 ∷ []
    → MatchOption r ((front : List ℕ) → lines ≢ front ++ lf) (λ x. lines ≡ x.now ++ lf) → IfNone r ((text : List ℕ) → lines ≢ text ++ 10 ∷ [])
lf_missing lines lf (Some x) e m = tt
lf_missing lines lf None e m = λ text is. m text (is ∙ ap (λ l. text ++ l) (sym e))

-- the lines behind the first byte
lines_behind : (x : ℕ) (xs : List ℕ) → AreLines (x ∷ xs) → AreLines xs
lines_behind x xs (inl none) = absurd cc
lines_behind x xs (inr ([], e)) = inl cc
lines_behind x xs (inr (y ∷ front, e)) = inr (front, cc)

-- lines that are none lack no LF
lines_end : (x : ℕ) (xs rest : List ℕ) → AreLines (x ∷ xs) → has_byte 10 ((x ∷ xs) ++ rest) ≡ false → ⊥
lines_end x xs rest (inl none) lacks = cc
lines_end x xs rest (inr front) lacks =
    never_parted 10 ((x ∷ xs) ++ rest) front.0 rest lacks (ap (λ l. l ++ rest) front.1 ∙ append_assoc front.0 (10 ∷ []) rest)

-- a text parts into lines and what no LF ends in one way
parted_last : (a b : List ℕ) {r s : List ℕ} → AreLines a → AreLines b → has_byte 10 r ≡ false → has_byte 10 s ≡ false → a ++ r ≡ b ++ s
    → (a ≡ b) × (r ≡ s)
parted_last [] [] la lb lr ls e = (refl, e)
parted_last [] (y ∷ b) {r} {s} la lb lr ls e = absurd (lines_end y b s lb (subst (λ l. has_byte 10 l ≡ false) e lr))
parted_last (x ∷ a) [] {r} {s} la lb lr ls e = absurd (lines_end x a r la (subst (λ l. has_byte 10 l ≡ false) (sym e) ls))
parted_last (x ∷ a) (y ∷ b) {r} {s} la lb lr ls e =
    let tails : a ++ r ≡ b ++ s = cc in
    let more = parted_last a b (lines_behind x a la) (lines_behind y b lb) lr ls tails in
    let heads : x ≡ y = cc in
    (ap (λ l. x ∷ l) more.0 ∙ ap (λ z. z ∷ b) heads, more.1)

-- what stands before the byte that both texts end with
before_end : (xs ys : List ℕ) → xs ++ 10 ∷ [] ≡ ys ++ 10 ∷ [] → xs ≡ ys
before_end [] [] e = refl
before_end [] (y ∷ []) e = absurd cc
before_end [] (y ∷ (z ∷ ys)) e = absurd cc
before_end (x ∷ []) [] e = absurd cc
before_end (x ∷ (z ∷ xs)) [] e = absurd cc
before_end (x ∷ xs) (y ∷ ys) e =
    let tails : xs ++ 10 ∷ [] ≡ ys ++ 10 ∷ [] = cc in
    let heads : x ≡ y = cc in
    ap (λ l. x ∷ l) (before_end xs ys tails) ∙ ap (λ z. z ∷ ys) heads

module _ (IsOne : List ℕ → Type 0) (lines : List ℕ) where
  -- nothing is a last line where no LF ends the text
  pub last_none : ((text : List ℕ) → lines ≢ text ++ 10 ∷ []) → LastIsNot IsOne lines
  last_none none before last = none (before ++ last.line) (last.whole ∙ sym (append_assoc before last.line (10 ∷ [])))

  module _ (text before last : List ℕ) (lf : lines ≡ text ++ 10 ∷ []) (whole : text ≡ before ++ last) (are : AreLines before)
      (single : has_byte 10 last ≡ false) where
    pub last_is : IsOne last → LastIs IsOne lines before
    last_is is = record {
      line = last;
      whole = lf ∙ ap (λ t. t ++ 10 ∷ []) whole ∙ append_assoc before last (10 ∷ []);
      lines = are;
      single = single;
      is_one = is;
    }

    pub last_is_not : (IsOne last → ⊥) → LastIsNot IsOne lines
    last_is_not other front one =
        let same = before_end text (front ++ one.line) (sym lf ∙ one.whole ∙ sym (append_assoc front one.line (10 ∷ []))) in
        let parts = parted_last before front are one.lines single one.single (sym whole ∙ same) in
        other (subst IsOne (sym parts.1) one.is_one)

-- a line at a place was sent, if its step is such a one
pub sent_if : (line step : List ℕ) (place : ℕ) (r : Option (Bor (List ℕ))) → HasPlace line place step
    → IfSome r (λ client. (bytes : List ℕ) × (step ≡ codes "send " ++ (client.now ++ 32 ∷ bytes)))
    → IfNone r ((client bytes : List ℕ) → step ≢ codes "send " ++ (client ++ 32 ∷ bytes))
    → ((n : ℕ) (s : List ℕ) → HasPlace line n s → step ≡ s) → IsTrue (is_some r) ↔ IsSent line
sent_if line step place (Some x) placed some none only =
    ((λ _. (place, x.now, some.0, subst (λ s. HasPlace line place s) some.1 placed)), λ _. refl)
sent_if line step place None placed some none only = (
  (λ told. absurd cc),
  λ sent. absurd (none sent.1 sent.2 (only sent.0 (codes "send " ++ (sent.1 ++ 32 ∷ sent.2)) sent.3)),
)

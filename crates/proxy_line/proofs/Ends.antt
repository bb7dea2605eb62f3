-- A line that has ended does not go on.
use Rattle.std.proofs.Common.{◌≡◌, ℕ, ◌≤◌, ◌⊎◌, inl, inr, false, List, ◌∷◌, ◌++◌, [], length, sym, ◌∙◌, subst, arith, nat_eq}
use Rattle.std.proofs.lemmas.Bool.{false≢true, or_parts}
use Rattle.std.proofs.lemmas.List.Folds.{list_any-append}
use Rattle.line_words.specs.Bytes.{has_byte}
use Rattle.proxy_line.specs.Steps.{GoesOn}

-- a line with one more byte, which is LF or the last that a line has room for
pub no_end : (front : List ℕ) (byte : ℕ) (line : List ℕ) → line ≡ front ++ byte ∷ [] → ((byte ≡ 10 → ⊥) × 107 ≤ length line) ⊎ (byte ≡ 10)
    → GoesOn (front ++ byte ∷ []) → ⊥
no_end front byte line is (inl full) goes =
    let long = subst (λ l. 107 ≤ length l) is full.1 in
    omega (arith, long, goes.1)
no_end front byte line is (inr ends) goes =
    let parted = or_parts (has_byte 10 front) (has_byte 10 (byte ∷ [])) (sym (list_any-append (λ x. nat_eq x 10) front (byte ∷ [])) ∙ goes.0) in
    let lacks = subst (λ b. has_byte 10 (b ∷ []) ≡ false) ends parted.1 in
    false≢true (sym lacks)

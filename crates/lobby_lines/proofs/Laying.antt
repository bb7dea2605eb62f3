-- A table with one row more.
use Rattle.std.proofs.lemmas.Grind.{common_steps}
use Rattle.std.proofs.Common.{◌≡◌, sym, subst, refl, arith, ◌+◌, ◌++◌, ℕ, List, [], ◌∷◌, length}
use Rattle.std.proofs.Math.Seq.{take-suc}
use Rattle.std.proofs.lemmas.Option.{slice_get_within, get_or_from_slice_get}
use Rattle.std.specs.Prelude.{flat_map, slice_get, take, Some}
use Rattle.lobby_lines.specs.Layout.{rows_from, IsTable}

-- one more of a list, which stands behind the first k
pub next_taken : {X : Type 0} (xs : List X) (k : ℕ) (x : X) → slice_get xs k ≡ Some x → take (k + 1) xs ≡ take k xs ++ x ∷ []
next_taken xs k x is =
    let next = take-suc xs k x (slice_get_within xs k x is) in
    let read = get_or_from_slice_get xs k x x is in
    grind (arith, common_steps)

module _ {X R : Type 0} (row : ℕ → X → R) (shown : X → List ℕ) where
  pub rows_more : (n : ℕ) (xs : List X) (x : X)
      → rows_from row shown n (xs ++ x ∷ []) ≡ rows_from row shown n xs ++ row (n + length (flat_map shown xs)) x ∷ []
  rows_more n [] x = grind (arith, common_steps)
  rows_more n (y ∷ xs) x =
      let more = rows_more (n + length (shown y)) xs x in
      let at : n + length (shown y) + length (flat_map shown xs) ≡ n + length (shown y ++ flat_map shown xs) = grind (arith, common_steps) in
      grind (arith, common_steps)

  pub one_more : (xs all : List X) (rows new_rows : List R) (text new_text : List ℕ) (x : X) → all ≡ xs ++ x ∷ []
      → IsTable row shown xs rows text → new_rows ≡ rows ++ row (length text) x ∷ [] → new_text ≡ text ++ shown x
      → IsTable row shown all new_rows new_text
  one_more xs all rows new_rows text new_text x is_all was is is_text =
      let more = rows_more 0 xs x in
      subst (λ ys. IsTable row shown ys new_rows new_text) (sym is_all) (grind (arith, common_steps), grind (arith, common_steps))

  pub none : IsTable row shown [] [] []
  none = (refl, refl)

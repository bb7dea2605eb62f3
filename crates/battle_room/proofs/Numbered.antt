-- What stands in numbered places, after one place was written.
use Rattle.std.proofs.Common.{◌≡◌, ◌<◌, ◌+◌, ℕ, zero, suc, List, [], ◌∷◌, refl, sym, ap, ◌∙◌, length, arith}
use Rattle.std.specs.Prelude.{Option, Some, None}
use Rattle.std.specs.declared.cmp.Ordering.TheVariants.{Less, Equal, Greater}
use Rattle.std.specs.Ordering.{nat_cmp}
use Rattle.std.specs.Cmp.{nat_cmp_is}
use Rattle.std.specs.List.{slice_index_or, slice_set}
use Rattle.line_words.specs.Table.{at_number, put_number, without_number}
use Rattle.battle_room.specs.Places.{numbered}

below : (k n : ℕ) → k < n → nat_cmp k n ≡ Less
below k n h = sym (nat_cmp_is k n Less h)

above : (k n : ℕ) → n < k → nat_cmp k n ≡ Greater
above k n h = sym (nat_cmp_is k n Greater h)

level : (k n : ℕ) → k ≡ n → nat_cmp k n ≡ Equal
level k n h = sym (nat_cmp_is k n Equal h)

module _ {X : Type 0} where
  none_below : (places : List (Option X)) (n k : ℕ) → k < n → at_number (numbered n places) k ≡ None
  none_below [] n k h = refl
  none_below (None ∷ places) n k h = none_below places (n + 1) k (omega arith)
  none_below (Some x ∷ places) n k h = rw (below k n h) (none_below places (n + 1) k (omega arith))

  same_below : (places : List (Option X)) (n k : ℕ) → k < n → without_number (numbered n places) k ≡ numbered n places
  same_below [] n k h = refl
  same_below (None ∷ places) n k h = same_below places (n + 1) k (omega arith)
  same_below (Some x ∷ places) n k h = rw (below k n h) (ap (λ es. (n, x) ∷ es) (same_below places (n + 1) k (omega arith)))

  first_below : (places : List (Option X)) (n k : ℕ) (v : X) → k < n → put_number (numbered n places) k v ≡ (k, v) ∷ numbered n places
  first_below [] n k v h = refl
  first_below (None ∷ places) n k v h = first_below places (n + 1) k v (omega arith)
  first_below (Some x ∷ places) n k v h = rw (below k n h) refl

  pub place_is : (places : List (Option X)) (n k i : ℕ) (d : Option X) → k ≡ n + i → i < length places → slice_index_or places i d ≡ at_number (numbered n places) k
  place_is [] n k i d e h = absurd (omega arith)
  place_is (None ∷ places) n k zero d e h = sym (none_below places (n + 1) k (omega arith))
  place_is (Some x ∷ places) n k zero d e h = rw (level k n (omega arith)) refl
  place_is (None ∷ places) n k (suc i) d e h = place_is places (n + 1) k i d (omega arith) (omega arith)
  place_is (Some x ∷ places) n k (suc i) d e h = rw (above k n (omega arith)) (place_is places (n + 1) k i d (omega arith) (omega arith))

  pub written : (places : List (Option X)) (n k i : ℕ) (v : X) → k ≡ n + i → i < length places
      → numbered n (slice_set places i (Some v)) ≡ put_number (numbered n places) k v
  written [] n k i v e h = absurd (omega arith)
  written (None ∷ places) n k zero v e h =
      let same : k ≡ n = omega arith in
      sym (first_below places (n + 1) k v (omega arith) ∙ ap (λ m. (m, v) ∷ numbered (n + 1) places) same)
  written (Some x ∷ places) n k zero v e h = rw (level k n (omega arith)) refl
  written (None ∷ places) n k (suc i) v e h = written places (n + 1) k i v (omega arith) (omega arith)
  written (Some x ∷ places) n k (suc i) v e h = rw (above k n (omega arith)) (ap (λ es. (n, x) ∷ es) (written places (n + 1) k i v (omega arith) (omega arith)))

  pub cleared : (places : List (Option X)) (n k i : ℕ) → k ≡ n + i → i < length places
      → numbered n (slice_set places i None) ≡ without_number (numbered n places) k
  cleared [] n k i e h = absurd (omega arith)
  cleared (None ∷ places) n k zero e h = sym (same_below places (n + 1) k (omega arith))
  cleared (Some x ∷ places) n k zero e h = rw (level k n (omega arith)) (sym (same_below places (n + 1) k (omega arith)))
  cleared (None ∷ places) n k (suc i) e h = cleared places (n + 1) k i (omega arith) (omega arith)
  cleared (Some x ∷ places) n k (suc i) e h = rw (above k n (omega arith)) (ap (λ es. (n, x) ∷ es) (cleared places (n + 1) k i (omega arith) (omega arith)))

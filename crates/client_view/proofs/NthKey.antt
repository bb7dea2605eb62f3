-- The key of an entry that a walk comes to after others.
use Rattle.std.proofs.Common.{◌≡◌, List, [], ◌∷◌, ◌++◌, refl, sym, ap, ◌∙◌, ℕ, suc, ◌+◌, ◌≤◌, length, map, arith, Bor}
use Rattle.std.specs.Prelude.{Option, Some, None, slice_get}
use Rattle.std.specs.Option.{option_map}
use Rattle.std.specs.Iterator.{Yields, SkipsThenYields}
use Rattle.std.specs.Map.{keys_of}
use Rattle.std.specs.Map.Iter.{TakesFirst, deref_pair}
use Rattle.std.proofs.lemmas.List.{length-map}
use Rattle.std.proofs.lemmas.Option.{slice_get-map, slice_get_past}

none_taken : (s t : ℕ) → s ≡ t → s ≡ 0 + t
none_taken s t e = omega (arith, e)

one_taken : (s j m t : ℕ) → s ≡ suc j → j ≡ m + t → s ≡ suc m + t
one_taken s j m t e f = omega (arith, e, f)

module _ {A B : Type 0} (v : A → B) where
  taken : (xs : List A) (s t : List B) → Yields (TakesFirst v) s xs t → s ≡ map v xs ++ t
  taken [] s t y = y
  taken (x ∷ xs) s t y = y.1 ∙ ap (λ (l : List B). v x ∷ l) (taken xs y.0 t y.2)

  length_taken : (xs : List A) (s t : List B) → Yields (TakesFirst v) s xs t → length s ≡ length xs + length t
  length_taken [] s t y = none_taken _ _ (ap length y)
  length_taken (x ∷ xs) s t y = one_taken _ _ _ _ (ap length y.1) (length_taken xs y.0 t y.2)

  get_behind : (xs ys : List B) → slice_get (xs ++ ys) (length xs) ≡ slice_get ys 0
  get_behind [] ys = refl
  get_behind (x ∷ xs) ys = get_behind xs ys

  no_more : (s m t n : ℕ) → s ≡ m + t → t ≡ 0 → m ≤ n → s ≤ n
  no_more s m t n e z h = omega (arith, e, z, h)

  pub nth_is : (s : List B) (n : ℕ) (r : Option A) (u : List B) → SkipsThenYields (TakesFirst v) s n r u → option_map v r ≡ slice_get s n
  nth_is s n None u y = sym (slice_get_past s n (no_more _ _ _ _ (length_taken y.0 s y.1.0 y.1.1) (ap length y.1.2.0) y.2))
  nth_is s n (Some x) u y =
      sym (ap (λ (l : List B). slice_get l n) (taken y.0 s y.1.0 y.1.1 ∙ ap (λ (l : List B). map v y.0 ++ l) y.1.2)
      ∙ ap (slice_get (map v y.0 ++ v x ∷ u)) (sym (length-map y.0 v ∙ y.2)) ∙ get_behind (map v y.0) (v x ∷ u))

pub nth_key : {K X : Type 0} (s m : List (K × X)) (n : ℕ) (r : Option (Bor K × Bor X)) (u : List (K × X)) → SkipsThenYields (TakesFirst deref_pair) s n r u → s ≡ m
    → option_map (λ p. p.0.now) r ≡ slice_get (keys_of m) n
nth_key s m n None u y seen = ap (option_map (λ e. e.0)) (nth_is deref_pair s n None u y ∙ ap (λ l. slice_get l n) seen) ∙ sym (slice_get-map (λ e. e.0) m n)
nth_key s m n (Some x) u y seen = ap (option_map (λ e. e.0)) (nth_is deref_pair s n (Some x) u y ∙ ap (λ l. slice_get l n) seen) ∙ sym (slice_get-map (λ e. e.0) m n)

-- A list with one value changed.
use Rattle.std.proofs.Common.{◌≡◌, ◌≢◌, ℕ, zero, suc, ◌<◌, ◌≤◌, List, [], ◌∷◌, length, refl, sym, ap, ◌∙◌, arith, slice_index_or, slice_set}
use Rattle.std.specs.Prelude.{Some, None, Bool, true, false, if◌then◌else◌, slice_get}
use Rattle.std.specs.Option.{option_map}
use Rattle.std.proofs.lemmas.Option.{slice_get_past}
use Rattle.lobby_hall.specs.ByClient.{of_client}
use Rattle.lobby_hall.specs.Copied.{changed, changed_at}

module _ {X : Type 0} (f : X → X) where
  -- written in place
  pub set-changed : (xs : List X) (k : ℕ) (x : X) → k < length xs → x ≡ slice_index_or xs k x → slice_set xs k (f x) ≡ changed f xs k
  set-changed [] k x h is = refl
  set-changed (y ∷ xs) zero x h is = ap (λ z. f z ∷ xs) is
  set-changed (y ∷ xs) (suc k) x h is = ap (λ zs. y ∷ zs) (set-changed xs k x (omega arith) is)

  pub changed-past : (xs : List X) (k : ℕ) → length xs ≤ k → changed f xs k ≡ xs
  changed-past [] k h = refl
  changed-past (y ∷ xs) zero h = absurd (omega arith)
  changed-past (y ∷ xs) (suc k) h = ap (λ zs. y ∷ zs) (changed-past xs k (omega arith))

  pub length-changed : (xs : List X) (k : ℕ) → length (changed f xs k) ≡ length xs
  length-changed [] k = refl
  length-changed (y ∷ xs) zero = refl
  length-changed (y ∷ xs) (suc k) = ap suc (length-changed xs k)

  pub get-changed_same : (xs : List X) (k : ℕ) → slice_get (changed f xs k) k ≡ option_map f (slice_get xs k)
  get-changed_same [] k = refl
  get-changed_same (y ∷ xs) zero = refl
  get-changed_same (y ∷ xs) (suc k) = get-changed_same xs k

  pub get-changed_other : (xs : List X) (k q : ℕ) → q ≢ k → slice_get (changed f xs k) q ≡ slice_get xs q
  get-changed_other [] k q ne = refl
  get-changed_other (y ∷ xs) zero zero ne = absurd (ne refl)
  get-changed_other (y ∷ xs) zero (suc q) ne = refl
  get-changed_other (y ∷ xs) (suc k) zero ne = refl
  get-changed_other (y ∷ xs) (suc k) (suc q) ne = get-changed_other xs k q (λ e. ne (ap suc e))

  -- by the numbers of clients
  pub of-changed_same : (xs : List X) (c : ℕ) → of_client (changed_at f xs c) c ≡ option_map f (of_client xs c)
  of-changed_same xs zero = refl
  of-changed_same xs (suc c) = get-changed_same xs c

  pub of-changed_other : (xs : List X) (c q : ℕ) → q ≢ c → of_client (changed_at f xs c) q ≡ of_client xs q
  of-changed_other xs zero q ne = refl
  of-changed_other xs (suc c) zero ne = refl
  of-changed_other xs (suc c) (suc q) ne = get-changed_other xs c q (λ e. ne (ap suc e))

  pub length-changed_at : (xs : List X) (c : ℕ) → length (changed_at f xs c) ≡ length xs
  length-changed_at xs zero = refl
  length-changed_at xs (suc c) = length-changed xs c

  pub get-at : (xs : List X) (k : ℕ) (x : X) → k < length xs → x ≡ slice_index_or xs k x → slice_get xs k ≡ Some x
  get-at [] k x h is = absurd (omega arith)
  get-at (y ∷ xs) zero x h is = ap (λ z. Some z) (sym is)
  get-at (y ∷ xs) (suc k) x h is = get-at xs k x (omega arith) is

  pub set-same : (xs : List X) (k : ℕ) (x : X) → x ≡ slice_index_or xs k x → slice_set xs k x ≡ xs
  set-same [] k x is = refl
  set-same (y ∷ xs) zero x is = ap (λ z. z ∷ xs) is
  set-same (y ∷ xs) (suc k) x is = ap (λ zs. y ∷ zs) (set-same xs k x is)

  -- at the place of client c
  module _ (xs : List X) (c k : ℕ) (place : c ≡ suc k) where
    pub past-changed : length xs ≤ k → xs ≡ changed_at f xs c
    past-changed h = sym (ap (changed_at f xs) place ∙ changed-past xs k h)

    pub of-past : length xs ≤ k → of_client xs c ≡ None
    of-past h = ap (of_client xs) place ∙ slice_get_past xs k h

    module _ (x : X) (h : k < length xs) (is : x ≡ slice_index_or xs k x) where
      pub of-at : of_client xs c ≡ Some x
      of-at = ap (of_client xs) place ∙ get-at xs k x h is

      pub written : (new : X) → new ≡ f x → slice_set xs k new ≡ changed_at f xs c
      written new made = ap (slice_set xs k) made ∙ set-changed xs k x h is ∙ sym (ap (changed_at f xs) place)

      pub written_if : (b : Bool) (new : X) → new ≡ (if b then f x else x) → slice_set xs k new ≡ (if b then changed_at f xs c else xs)
      written_if true new made = written new made
      written_if false new made = ap (slice_set xs k) made ∙ set-same xs k x is

-- a list with the value of client c written in place
module _ {X : Type 0} (xs : List X) (c k : ℕ) (place : c ≡ suc k) (x new : X) (h : k < length xs) (is : x ≡ slice_index_or xs k x) where
  pub of-written : of_client (slice_set xs k new) c ≡ Some new
  of-written = ap (λ ls. of_client ls c) (written (λ _. new) xs c k place x h is new refl) ∙ of-changed_same (λ _. new) xs c ∙ ap (option_map (λ _. new)) (of-at (λ y. y) xs c k place x h is)

  pub of-unwritten : (q : ℕ) → q ≢ c → of_client (slice_set xs k new) q ≡ of_client xs q
  of-unwritten q ne = ap (λ ls. of_client ls q) (written (λ _. new) xs c k place x h is new refl) ∙ of-changed_other (λ _. new) xs c q ne

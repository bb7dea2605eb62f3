-- What holds of each element of a list, and of each entry of a map.
use Rattle.std.proofs.Common.{◌≡◌, List, [], ◌∷◌, ◌++◌, refl, sym, subst, Bool, true, false}
use Rattle.std.specs.Prelude.{Some, map, filter, find, if◌then◌else◌}
use Rattle.std.proofs.lemmas.Option.{same_Some}
use Rattle.std.specs.declared.cmp.Ordering.{Ordering}
use Rattle.std.specs.declared.cmp.Ordering.TheVariants.{Less, Equal, Greater}
use Rattle.std.specs.Ordering.{eq_by_cmp}
use Rattle.std.specs.List.{AllByRecursion}
use Rattle.std.specs.FinMap.Entries.{by_order}
use Rattle.line_words.specs.Table.{at, put, change}
use Rattle.line_words.proofs.Tables.{Equal_of}

-- the property holds of each element
abbrev pub Each : {X : Type 0} → (X → Type 0) → List X → Type 0
Each = AllByRecursion

module _ {X : Type 0} (P : X → Type 0) where
  pub each_filter : (p : X → Bool) (xs : List X) → Each P xs → Each P (filter p xs)
  each_filter p [] h = tt
  each_filter p (x ∷ xs) h =
      elim (p x) as (λ b. Each P (if b then x ∷ filter p xs else filter p xs)) [ true ↦ (h.0, each_filter p xs h.1) | false ↦ each_filter p xs h.1 ]

  pub each_append : (xs ys : List X) → Each P xs → Each P ys → Each P (xs ++ ys)
  each_append [] ys p q = q
  each_append (x ∷ xs) ys p q = (p.0, each_append xs ys p.1 q)

  -- some elements changed by a function that keeps the property
  pub each_changed : (t : X → Bool) (f : X → X) (xs : List X) → Each P xs → ((x : X) → P x → P (f x)) → Each P (map (λ x. if t x then f x else x) xs)
  each_changed t f [] h keep = tt
  each_changed t f (x ∷ xs) h keep =
      (elim (t x) as (λ b. P (if b then f x else x)) [ true ↦ keep x h.0 | false ↦ h.0 ], each_changed t f xs h.1 keep)

  -- what is found has the property
  pub each_found : (p : X → Bool) (xs : List X) (x : X) → Each P xs → find p xs ≡ Some x → P x
  each_found p [] x h e = absurd (cc)
  each_found p (y ∷ xs) x h e =
      elim (p y) as (λ b. (if b then Some y else find p xs) ≡ Some x → P x) [
        | true ↦ λ f. subst P (same_Some y x f) h.0
        | false ↦ λ f. each_found p xs x h.1 f
      ] e

-- each element gives one with another property
pub each_map : {X Y : Type 0} (P : X → Type 0) (Q : Y → Type 0) (f : X → Y) → ((x : X) → P x → Q (f x)) → (xs : List X) → Each P xs → Each Q (map f xs)
each_map P Q f each [] h = tt
each_map P Q f each (x ∷ xs) h = (each x h.0, each_map P Q f each xs h.1)

-- the entries of a map
module _ {K X : Type 0} (R : K → K → Ordering) (same : (x y : K) → R x y ≡ Equal → x ≡ y) (P : K × X → Type 0) where
  pub each_put : (k : K) (v : X) (m : List (K × X)) → Each P m → P (k, v) → Each P (put R m k v)
  each_put k v [] h p = (p, tt)
  each_put k v (e ∷ m) h p =
      elim (R k e.0) as (λ r. R k e.0 ≡ r → Each P (by_order r ((k, v) ∷ e ∷ m) ((e.0, v) ∷ m) (e ∷ put R m k v))) [
        | Less ↦ λ t. (p, h)
        | Equal ↦ λ t. (subst (λ x. P (x, v)) (same k e.0 t) p, h.1)
        | Greater ↦ λ t. (h.0, each_put k v m h.1 p)
      ] refl

  pub each_change : (k : K) (f : X → X) (m : List (K × X)) → Each P m → ((e : K × X) → P e → P (e.0, f e.1)) → Each P (change R m k f)
  each_change k f [] h keep = tt
  each_change k f (e ∷ m) h keep =
      (elim (eq_by_cmp R k e.0) as (λ b. P (e.0, if b then f e.1 else e.1)) [ true ↦ keep e h.0 | false ↦ h.0 ], each_change k f m h.1 keep)

  pub each_at : (m : List (K × X)) (k : K) (x : X) → Each P m → at R m k ≡ Some x → P (k, x)
  each_at [] k x h there = absurd (cc)
  each_at (e ∷ m) k x h there =
      elim (eq_by_cmp R k e.0) as (λ b. eq_by_cmp R k e.0 ≡ b → (if b then Some e.1 else at R m k) ≡ Some x → P (k, x)) [
        | true ↦ λ t is. subst (λ (y : K × X). P y) (λ i. (sym (same k e.0 (Equal_of _ t)) i, same_Some e.1 x is i)) h.0
        | false ↦ λ t is. each_at m k x h.1 is
      ] refl there

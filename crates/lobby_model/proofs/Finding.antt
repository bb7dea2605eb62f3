-- What is found in a map after it was changed, put to or filtered, and in a map by a test of its values.
use Rattle.std.proofs.Common.{◌≡◌, List, [], ◌∷◌, refl, sym, ap, subst, ◌∙◌, Bool, true, false, cond, not, T, inl, inr}
use Rattle.std.specs.Prelude.{◌⊎◌, Option, Some, None, find, filter, is_some, IsSome, if◌then◌else◌}
use Rattle.std.proofs.lemmas.Option.{same_Some}
use Rattle.std.specs.declared.cmp.Ordering.{Ordering}
use Rattle.std.specs.declared.cmp.Ordering.TheVariants.{Equal}
use Rattle.std.specs.Ordering.{is_eq, eq_by_cmp}
use Rattle.std.specs.Option.{option_map}
use Rattle.std.proofs.lemmas.Map.Entries.{option_filter}
use Rattle.std.specs.Cmp.{IsTotalOrder, tied_itself}
use Rattle.std.specs.FinMap.Entries.{is_sorted}
use Rattle.line_words.specs.Table.{at, put, without, change}
use Rattle.line_words.proofs.Tables.{both_first, both_second, Equal_of, find_before, find-filter, at-put, at-without, at-change}

pub some_of : {A B : Type 0} (f : A → B) (o : Option A) (y : B) → option_map f o ≡ Some y → (x : A) × (o ≡ Some x) × (f x ≡ y)
some_of f None y e = absurd (cc)
some_of f (Some x) y e = (x, refl, same_Some (f x) y e)

module _ {K X : Type 0} (R : K → K → Ordering) where
  module _ (same : (x y : K) → R x y ≡ Equal → x ≡ y) where
    -- where a value is found afterwards, one was before
    pub of_change : (k : K) (f : X → X) (m : List (K × X)) (q : K) (y : X) → at R (change R m k f) q ≡ Some y
        → (x : X) × (at R m q ≡ Some x) × ((if eq_by_cmp R k q then f x else x) ≡ y)
    of_change k f m q y found = some_of (λ x. if eq_by_cmp R k q then f x else x) (at R m q) y (sym (at-change R same f m k q) ∙ found)

    pub of_changed : (k : K) (f : X → X) (m : List (K × X)) (x : X) → at R m k ≡ Some x → (q : K) (y : X) → at R (change R m k f) q ≡ Some y
        → ((k ≡ q) × (f x ≡ y)) ⊎ ((eq_by_cmp R k q ≡ false) × (at R m q ≡ Some y))
    of_changed k f m x there q y found =
        let was = of_change k f m q y found in
        elim (eq_by_cmp R k q) as (λ t. eq_by_cmp R k q ≡ t → (if t then f was.0 else was.0) ≡ y
        → ((k ≡ q) × (f x ≡ y)) ⊎ ((t ≡ false) × (at R m q ≡ Some y))) [
          | true ↦ λ t e. let is = same k q (Equal_of _ t) in inl (is, ap f (same_Some x was.0 (sym there ∙ ap (at R m) is ∙ was.1)) ∙ e)
          | false ↦ λ t e. inr (refl, was.1 ∙ ap (λ z. Some z) e)
        ] refl was.2

    pub some_change : (k : K) (f : X → X) (m : List (K × X)) (q : K) → is_some (at R (change R m k f) q) ≡ is_some (at R m q)
    some_change k f m q =
        ap is_some (at-change R same f m k q)
        ∙ elim (at R m q) as (λ o. is_some (option_map (λ x. if eq_by_cmp R k q then f x else x) o) ≡ is_some o) [
          | None ↦ refl
          | Some x ↦ refl
        ]

  module _ (o : IsTotalOrder R) where
    pub of_put : ((x y : K) → R x y ≡ Equal → x ≡ y) → (m : List (K × X)) (k : K) (x : X) (q : K) (y : X) → at R (put R m k x) q ≡ Some y
        → ((q ≡ k) × (x ≡ y)) ⊎ (at R m q ≡ Some y)
    of_put same m k x q y found =
        elim (eq_by_cmp R q k) as (λ t. eq_by_cmp R q k ≡ t → cond t (Some x) (at R m q) ≡ Some y → ((q ≡ k) × (x ≡ y)) ⊎ (at R m q ≡ Some y)) [
          | true ↦ λ t e. inl (same q k (Equal_of _ t), same_Some x y e)
          | false ↦ λ t e. inr e
        ] refl (sym (at-put R o m k x q) ∙ found)

    pub some_put : (m : List (K × X)) (k : K) (x : X) (q : K) → IsSome (at R m q) → IsSome (at R (put R m k x) q)
    some_put m k x q there =
        ap is_some (at-put R o m k x q) ∙ elim (eq_by_cmp R q k) as (λ t. is_some (cond t (Some x) (at R m q)) ≡ true) [ true ↦ refl | false ↦ there ]

    pub of_without : (m : List (K × X)) (k q : K) (y : X) → at R (without R m k) q ≡ Some y → (eq_by_cmp R k q ≡ false) × (at R m q ≡ Some y)
    of_without m k q y found =
        elim (eq_by_cmp R k q) as (λ t. cond (not t) (at R m q) None ≡ Some y → (t ≡ false) × (at R m q ≡ Some y)) [
          | true ↦ λ e. absurd (cc)
          | false ↦ λ e. (refl, e)
        ] (sym (at-without R o m k q) ∙ found)

    pub some_without : (m : List (K × X)) (k q : K) → eq_by_cmp R k q ≡ false → IsSome (at R m q) → IsSome (at R (without R m k) q)
    some_without m k q apart there = ap is_some (at-without R o m k q ∙ ap (λ t. cond (not t) (at R m q) None) apart) ∙ there

    pub of_filter : (p : X → Bool) (m : List (K × X)) → T (is_sorted R m) → (q : K) (y : X) → at R (filter (λ e. p e.1) m) q ≡ Some y
        → (at R m q ≡ Some y) × (p y ≡ true)
    of_filter p m h q y found =
        elim (at R m q) as (λ x. option_filter p x ≡ Some y → (x ≡ Some y) × (p y ≡ true)) [
          | None ↦ λ e. absurd (cc)
          | Some x ↦ λ e. elim (p x) as (λ t. p x ≡ t → cond t (Some x) None ≡ Some y → (Some x ≡ Some y) × (p y ≡ true)) [
            | true ↦ λ t f. (f, ap p (sym (same_Some x y f)) ∙ t)
            | false ↦ λ t f. absurd (cc)
          ] refl e
        ] (sym (find-filter R o p q m h) ∙ found)

    first_at : (e : K × X) (m : List (K × X)) → at R (e ∷ m) e.0 ≡ Some e.1
    first_at e m = ap (λ r. cond (is_eq r) (Some e.1) (at R m e.0)) (tied_itself o e.0)

    later_at : (e : K × X) (m : List (K × X)) (q : K) (x : X) → T (is_sorted R (e ∷ m)) → at R m q ≡ Some x → at R (e ∷ m) q ≡ Some x
    later_at e m q x h there =
        elim (eq_by_cmp R q e.0) as (λ b. eq_by_cmp R q e.0 ≡ b → cond b (Some e.1) (at R m q) ≡ Some x) [
          | true ↦ λ t. absurd (let none = find_before R o e.0 q m (Equal_of _ t) (both_first _ _ h) in cc)
          | false ↦ λ t. there
        ] refl

    -- a value that a test finds is at its key, and passes
    pub found_at : (p : X → Bool) (m : List (K × X)) (e : K × X) → T (is_sorted R m) → find (λ e. p e.1) m ≡ Some e
        → (at R m e.0 ≡ Some e.1) × (p e.1 ≡ true)
    found_at p [] e h is = absurd (cc)
    found_at p (d ∷ m) e h is =
        elim (p d.1) as (λ b. p d.1 ≡ b → (if b then Some d else find (λ e. p e.1) m) ≡ Some e → (at R (d ∷ m) e.0 ≡ Some e.1) × (p e.1 ≡ true)) [
          | true ↦ λ t s. subst (λ (x : K × X). (at R (d ∷ m) x.0 ≡ Some x.1) × (p x.1 ≡ true)) (same_Some d e s) (first_at d m, t)
          | false ↦ λ t s. let rest = found_at p m e (both_second _ _ h) s in (later_at d m e.0 e.1 h rest.0, rest.1)
        ] refl is

  -- where a test finds nothing, no value passes
  pub none_at : (p : X → Bool) (m : List (K × X)) → find (λ e. p e.1) m ≡ None → (q : K) (x : X) → at R m q ≡ Some x → p x ≡ false
  none_at p [] none q x there = absurd (cc)
  none_at p (e ∷ m) none q x there =
      elim (p e.1) as (λ b. p e.1 ≡ b → (if b then Some e else find (λ e. p e.1) m) ≡ None → p x ≡ false) [
        | true ↦ λ t is. absurd (cc)
        | false ↦ λ t is. elim (eq_by_cmp R q e.0) as (λ b. cond b (Some e.1) (at R m q) ≡ Some x → p x ≡ false) [
          | true ↦ λ same. ap p (sym (same_Some e.1 x same)) ∙ t
          | false ↦ λ later. none_at p m is q x later
        ] there
      ] refl none

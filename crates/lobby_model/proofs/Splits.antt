-- A map split at one of its keys.
use Rattle.std.proofs.Common.{◌≡◌, ℕ, List, [], ◌∷◌, ◌++◌, refl, sym, ap, subst, ◌∙◌, Bool, true, false, cond, map}
use Rattle.std.specs.Prelude.{Some, None, ◌||◌}
use Rattle.std.specs.declared.cmp.Ordering.TheVariants.{Less}
use Rattle.std.specs.Ordering.{is_eq, nat_cmp}
use Rattle.std.specs.Cmp.{nat_cmp_total, eq_by_cmp_equiv}
use Rattle.std.specs.List.{AllByRecursion, list_any}
use Rattle.std.specs.List.Sorted.{IsStrictlySortedBy}
use Rattle.std.specs.BTreeMap.{is_at}
use Rattle.std.specs.Map.{lookup, set_value}
use Rattle.line_words.specs.Table.{ByNumber, at_number, map_values, same_number}
use Rattle.line_words.proofs.Tables.{lookup_is_find}
use Rattle.lobby_model.proofs.Delivered.{same_number_is}

pub same_either_way : (a b : ℕ) → same_number a b ≡ same_number b a
same_either_way a b = (eq_by_cmp_equiv nat_cmp_total).symm a b

module _ {X : Type 0} where
  -- none of the keys is c
  abbrev pub Apart : ℕ → ByNumber X → Type 0
  Apart c m = AllByRecursion (λ e. same_number e.0 c ≡ false) m

  pub apart_above : (k : ℕ) (m : ByNumber X) → AllByRecursion (λ y. nat_cmp k y ≡ Less) (map (λ e. e.0) m) → Apart k m
  apart_above k [] h = tt
  apart_above k (e ∷ m) h = (same_either_way e.0 k ∙ ap is_eq h.0, apart_above k m h.1)

  pub apart_of_none : (c : ℕ) (m : ByNumber X) → lookup (is_at (nat_cmp c)) m ≡ None → Apart c m
  apart_of_none c [] f = tt
  apart_of_none c (e ∷ m) f =
      elim (same_number c e.0) as (λ b. same_number c e.0 ≡ b → cond b (Some e.1) (lookup (is_at (nat_cmp c)) m) ≡ None → Apart c (e ∷ m)) [
        | true ↦ λ t g. absurd (cc)
        | false ↦ λ t g. (same_either_way e.0 c ∙ t, apart_of_none c m g)
      ] refl f

  pub record Split (c : ℕ) (x : X) (m : ByNumber X) : Type 0 where
    pub before : ByNumber X
    pub after : ByNumber X
    pub whole : m ≡ before ++ ((c, x) ∷ after)
    pub written : (w : X) → set_value (is_at (nat_cmp c)) m w ≡ before ++ ((c, w) ∷ after)
    pub apart_before : Apart c before
    pub apart_after : Apart c after

  pub split : (c : ℕ) (x : X) (m : ByNumber X) → IsStrictlySortedBy nat_cmp (map (λ e. e.0) m) → lookup (is_at (nat_cmp c)) m ≡ Some x → Split c x m
  unfolding IsStrictlySortedBy
  split c x [] h found = absurd (cc)
  split c x (e ∷ m) h found =
      elim (same_number c e.0) as (λ b. same_number c e.0 ≡ b → cond b (Some e.1) (lookup (is_at (nat_cmp c)) m) ≡ Some x → Split c x (e ∷ m)) [
        | true ↦ λ t f.
            let key : c ≡ e.0 = same_number_is c e.0 t in
            let same : e.1 ≡ x = cc in
            record {
              before = [];
              after = m;
              whole = λ i. (sym key i, same i) ∷ m;
              written = λ w. ap (λ b. cond b ((e.0, w) ∷ m) (e ∷ set_value (is_at (nat_cmp c)) m w)) t ∙ ap (λ k. (k, w) ∷ m) (sym key);
              apart_before = tt;
              apart_after = subst (λ k. Apart k m) (sym key) (apart_above e.0 m h.0);
            }
        | false ↦ λ t f.
            let rest : Split c x m = split c x m h.1 f in
            record {
              before = e ∷ rest.before;
              after = rest.after;
              whole = ap (λ es. e ∷ es) rest.whole;
              written = λ w. ap (λ b. cond b ((e.0, w) ∷ m) (e ∷ set_value (is_at (nat_cmp c)) m w)) t ∙ ap (λ es. e ∷ es) (rest.written w);
              apart_before = (same_either_way e.0 c ∙ t, rest.apart_before);
              apart_after = rest.apart_after;
            }
      ] refl found

  pub any_apart : (p q : ℕ × X → Bool) (c : ℕ) → ((e : ℕ × X) → same_number e.0 c ≡ false → p e ≡ q e) → (m : ByNumber X) → Apart c m → list_any p m ≡ list_any q m
  any_apart p q c same [] h = refl
  any_apart p q c same (e ∷ m) h = λ i. same e h.0 i || any_apart p q c same m h.1 i

module _ {X Y : Type 0} where
  pub values_apart : (f g : ℕ → X → Y) (c : ℕ) → ((d : ℕ) (x : X) → same_number d c ≡ false → f d x ≡ g d x) → (m : ByNumber X) → Apart c m → map_values f m ≡ map_values g m
  values_apart f g c same [] h = refl
  values_apart f g c same (e ∷ m) h = λ i. (e.0, same e.0 e.1 h.0 i) ∷ values_apart f g c same m h.1 i

  pub values-append : (f : ℕ → X → Y) (m n : ByNumber X) → map_values f (m ++ n) ≡ map_values f m ++ map_values f n
  values-append f [] n = refl
  values-append f (e ∷ m) n = ap (λ es. (e.0, f e.0 e.1) ∷ es) (values-append f m n)

-- a function of the values alone, in a map with any keys
module _ {K X Y : Type 0} where
  pub keys-values : (f : X → Y) (m : List (K × X)) → map (λ e. e.0) (map_values (λ c x. f x) m) ≡ map (λ e. e.0) m
  keys-values f [] = refl
  keys-values f (e ∷ m) = ap (λ ks. e.0 ∷ ks) (keys-values f m)

  pub lookup-values : (f : X → Y) (test : K → Bool) (x : X) (m : List (K × X)) → lookup test m ≡ Some x → lookup test (map_values (λ c x. f x) m) ≡ Some (f x)
  lookup-values f test x [] h = absurd (cc)
  lookup-values f test x (e ∷ m) h =
      elim (test e.0) as (λ b. cond b (Some e.1) (lookup test m) ≡ Some x → cond b (Some (f e.1)) (lookup test (map_values (λ c x. f x) m)) ≡ Some (f x)) [
        | true ↦ λ t. let same : e.1 ≡ x = cc in ap (λ y. Some (f y)) same
        | false ↦ λ t. lookup-values f test x m t
      ] h

  pub lookup-values-none : (f : X → Y) (test : K → Bool) (m : List (K × X)) → lookup test m ≡ None → lookup test (map_values (λ c x. f x) m) ≡ None
  lookup-values-none f test [] h = refl
  lookup-values-none f test (e ∷ m) h =
      elim (test e.0) as (λ b. cond b (Some e.1) (lookup test m) ≡ None → cond b (Some (f e.1)) (lookup test (map_values (λ c x. f x) m)) ≡ None) [
        | true ↦ λ t. absurd (cc)
        | false ↦ λ t. lookup-values-none f test m t
      ] h

  pub set_value-values : (f : X → Y) (test : K → Bool) (w : X) (m : List (K × X)) → map_values (λ c x. f x) (set_value test m w) ≡ set_value test (map_values (λ c x. f x) m) (f w)
  set_value-values f test w [] = refl
  set_value-values f test w (e ∷ m) =
      elim (test e.0) as (λ b. map_values (λ c x. f x) (cond b ((e.0, w) ∷ m) (e ∷ set_value test m w)) ≡ cond b ((e.0, f w) ∷ map_values (λ c x. f x) m) ((e.0, f e.1) ∷ set_value test (map_values (λ c x. f x) m) (f w))) [
        | true ↦ refl
        | false ↦ ap (λ es. (e.0, f e.1) ∷ es) (set_value-values f test w m)
      ]

pub at_of_lookup : {X Y : Type 0} (f : X → Y) (c : ℕ) (x : X) (m : ByNumber X) → lookup (is_at (nat_cmp c)) m ≡ Some x → at_number (map_values (λ d y. f y) m) c ≡ Some (f x)
at_of_lookup f c x m found = sym (lookup_is_find nat_cmp c (map_values (λ d y. f y) m)) ∙ lookup-values f (is_at (nat_cmp c)) x m found

pub at_of_none : {X Y : Type 0} (f : X → Y) (c : ℕ) (m : ByNumber X) → lookup (is_at (nat_cmp c)) m ≡ None → at_number (map_values (λ d y. f y) m) c ≡ None
at_of_none f c m none = sym (lookup_is_find nat_cmp c (map_values (λ d y. f y) m)) ∙ lookup-values-none f (is_at (nat_cmp c)) m none

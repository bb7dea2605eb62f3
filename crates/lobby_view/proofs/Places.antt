-- Maps as lists of entries: one entry, those before it and those behind it.
use Rattle.std.proofs.Common.{◌≡◌, List, [], ◌∷◌, ◌++◌, refl, ap, ◌∙◌, T, cond}
use Rattle.std.specs.Prelude.{Some, if◌then◌else◌}
use Rattle.std.specs.declared.cmp.Ordering.{Ordering}
use Rattle.std.specs.declared.cmp.Ordering.TheVariants.{Less, Greater}
use Rattle.std.specs.Ordering.{is_eq, ordering_reverse}
use Rattle.std.specs.Cmp.{IsTotalOrder, tied_itself}
use Rattle.std.specs.FinMap.Entries.{find, put, is_sorted, below_all, by_order}
use Rattle.line_words.specs.Table.{change, map_values}
use Rattle.line_words.proofs.Tables.{Less_of, both, both_first, both_second}

module _ {K : Type 0} (R : K → K → Ordering) where
  -- k is above each key
  abbrev pub Before : {X : Type 0} → K → List (K × X) → Type 0
  Before k [] = Unit {0}
  Before k (e ∷ m) = (R k e.0 ≡ Greater) × Before k m

module _ {K X : Type 0} (R : K → K → Ordering) where
  below_at : (k : K) (done : List (K × X)) (e : K × X) (rest : List (K × X)) → T (below_all R k (done ++ e ∷ rest)) → R k e.0 ≡ Less
  below_at k [] e rest h = Less_of _ (both_first _ _ h)
  below_at k (d ∷ done) e rest h = below_at k done e rest (both_second _ _ h)

  -- in a sorted map a key is above those before it and below those behind it
  pub sorted_before : IsTotalOrder R → (done : List (K × X)) (e : K × X) (rest : List (K × X)) → T (is_sorted R (done ++ e ∷ rest))
      → Before R e.0 done
  sorted_before o [] e rest h = tt
  sorted_before o (d ∷ done) e rest h = (
    o.antisymm e.0 d.0 ∙ ap ordering_reverse (below_at d.0 done e rest (both_first _ _ h)),
    sorted_before o done e rest (both_second _ _ h),
  )

  pub sorted_behind : (done : List (K × X)) (e : K × X) (rest : List (K × X)) → T (is_sorted R (done ++ e ∷ rest)) → T (below_all R e.0 rest)
  sorted_behind [] e rest h = both_first _ _ h
  sorted_behind (d ∷ done) e rest h = sorted_behind done e rest (both_second _ _ h)

  pub put_last : (k : K) (x : X) (done : List (K × X)) → Before R k done → put R k x done ≡ done ++ (k, x) ∷ []
  put_last k x [] h = refl
  put_last k x (d ∷ done) h =
      ap (λ r. by_order r ((k, x) ∷ d ∷ done) ((d.0, x) ∷ done) (d ∷ put R k x done)) h.0 ∙ ap (λ es. d ∷ es) (put_last k x done h.1)

  pub find_middle : IsTotalOrder R → (k : K) (x : X) (done rest : List (K × X)) → Before R k done → find R k (done ++ (k, x) ∷ rest) ≡ Some x
  find_middle o k x [] rest h = ap (λ r. cond (is_eq r) (Some x) (find R k rest)) (tied_itself o k)
  find_middle o k x (d ∷ done) rest h =
      ap (λ r. cond (is_eq r) (Some d.1) (find R k (done ++ (k, x) ∷ rest))) h.0 ∙ find_middle o k x done rest h.1

  -- a key below all others is changed nowhere
  pub change_above : (k : K) (f : X → X) (m : List (K × X)) → T (below_all R k m) → change R m k f ≡ m
  change_above k f [] h = refl
  change_above k f (e ∷ m) h =
      λ i. (e.0, if is_eq (Less_of (R k e.0) (both_first _ _ h) i) then f e.1 else e.1) ∷ change_above k f m (both_second _ _ h) i

  pub change_middle : IsTotalOrder R → (k : K) (f : X → X) (x : X) (done rest : List (K × X)) → Before R k done → T (below_all R k rest)
      → change R (done ++ (k, x) ∷ rest) k f ≡ done ++ (k, f x) ∷ rest
  change_middle o k f x [] rest h above = λ i. (k, if is_eq (tied_itself o k i) then f x else x) ∷ change_above k f rest above i
  change_middle o k f x (d ∷ done) rest h above =
      λ i. (d.0, if is_eq (h.0 i) then f d.1 else d.1) ∷ change_middle o k f x done rest h.1 above i

module _ {K X Y : Type 0} (R : K → K → Ordering) (f : K → X → Y) where
  pub before_values : (k : K) (m : List (K × X)) → Before R k m → Before R k (map_values f m)
  before_values k [] h = tt
  before_values k (e ∷ m) h = (h.0, before_values k m h.1)

  pub below_values : (k : K) (m : List (K × X)) → T (below_all R k m) → T (below_all R k (map_values f m))
  below_values k [] h = tt
  below_values k (e ∷ m) h = both _ _ (both_first _ _ h) (below_values k m (both_second _ _ h))

-- Laws of slots, of what they show, and of the notes that take their changes back.
use Rattle.std.proofs.Common.{◌≡◌, List, [], ◌∷◌, ◌++◌, refl, sym, ap, subst, ◌∙◌, ℕ, suc, ◌+◌, ◌≤◌, ◌<◌, true, false, cond, not, T, map, length, arith}
use Rattle.std.specs.Prelude.{Option, Some, None, is_some, Result, Ok, Err, IfOk, OnOk, OnErr, MatchOption}
use Rattle.std.proofs.lemmas.Option.{same_Some}
use Rattle.std.specs.declared.cmp.Ordering.{Ordering}
use Rattle.std.specs.declared.cmp.Ordering.TheVariants.{Less, Equal}
use Rattle.std.specs.Ordering.{is_lt, eq_by_cmp}
use Rattle.std.specs.Option.{option_map, option_flatten}
use Rattle.std.specs.Cmp.{IsTotalOrder, eq_by_cmp_equiv}
use Rattle.std.specs.List.{AllByRecursion}
use Rattle.std.specs.List.Sorted.{IsStrictlySortedBy}
use Rattle.std.specs.FinMap.Entries.{find_tied, is_sorted, below_all, is_sorted-put, same_entries, length-put, length_without}
use Rattle.std.specs.BTreeMap.{is_at}
use Rattle.std.specs.Map.{lookup, set_value}
use Rattle.std.proofs.lemmas.Iterator.Adapters.{option_map_id}
use Rattle.line_words.specs.Table.{at, put, without, change}
use Rattle.line_words.proofs.Tables.{Equal_of, Less_of, both, both_first, both_second, find_before, at-put, at-without, at-change, is_sorted-without, is_sorted-change, change_absent, without_absent, lookup_is_find}
use Rattle.line_words.proofs.Written.{set_is_change}
use Rattle.noted_map.specs.Slots.{live, with_live, one, one_in}
use Rattle.noted_map.specs.Notes.{undo_at, undone, place_note}
use Rattle.noted_map.specs.declared.note.Note.{Note}

later : (a b : ℕ) → a ≤ b → a ≤ suc b
later a b h = omega arith

both_later : (a b : ℕ) → a ≤ b → suc a ≤ suc b
both_later a b h = omega arith

below_most : (a l n most : ℕ) → a ≤ l → n ≡ l → n < most → a < most
below_most a l n most few is below = omega (arith, few, is, below)

nothing_more : (n : ℕ) → n ≡ n + 0
nothing_more n = omega arith

put_counts : {X : Type 0} (a : Option (Option X)) (l n : ℕ) → l ≡ cond (is_some (option_flatten a)) n (n + 1) → l + one_in a ≡ n + 1
put_counts None l n e = omega (arith, e)
put_counts (Some None) l n e = omega (arith, e)
put_counts (Some (Some x)) l n e = omega (arith, e)

without_counts : {X : Type 0} (a : Option (Option X)) (l n : ℕ) → cond (is_some (option_flatten a)) 1 0 + l ≡ n → l + one_in a ≡ n
without_counts None l n e = omega (arith, e)
without_counts (Some None) l n e = omega (arith, e)
without_counts (Some (Some x)) l n e = omega (arith, e)

pub of_match : {V : Type 0} (A : Type 0) (P : V → Type 0) (o : Option V) (v : V) → o ≡ Some v → MatchOption o A P → P v
of_match A P None v e m = absurd (cc)
of_match A P (Some w) v e m = subst P (same_Some w v e) m

-- what holds both where a call succeeds and where it fails
pub either_way : {V E A B C : Type 0} (r : Result V E) → (A → C) → (B → C) → OnOk r A → OnErr r B → C
either_way (Ok v) f h a b = f a
either_way (Err e) f h a b = h b

-- what a call says where it succeeds, of a value that there may be
pub if_ok_weaker : {V E A B : Type 0} {P Q : V → Type 0} (r : Result (Option V) E) → (A → B) → ((v : V) → P v → Q v) → IfOk r (λ o. MatchOption o A P) → IfOk r (λ o. MatchOption o B Q)
if_ok_weaker (Ok None) f h a = f a
if_ok_weaker (Ok (Some v)) f h a = h v a
if_ok_weaker (Err e) f h a = a

module _ {K X : Type 0} (R : K → K → Ordering) where
  below_of : (x : K) (m : List (K × X)) → AllByRecursion (λ y. R x y ≡ Less) (map (λ e. e.0) m) → T (below_all R x m)
  below_of x [] h = tt
  below_of x (e ∷ m) h = both _ _ (subst (λ r. T (is_lt r)) (sym h.0) tt) (below_of x m h.1)

  pub sorted_of : (m : List (K × X)) → IsStrictlySortedBy R (map (λ e. e.0) m) → T (is_sorted R m)
  unfolding IsStrictlySortedBy
  sorted_of [] h = tt
  sorted_of (e ∷ m) h = both _ _ (below_of e.0 m h.0) (sorted_of m h.1)

  of_below : (x : K) (m : List (K × X)) → T (below_all R x m) → AllByRecursion (λ y. R x y ≡ Less) (map (λ e. e.0) m)
  of_below x [] h = tt
  of_below x (e ∷ m) h = (Less_of _ (both_first _ _ h), of_below x m (both_second _ _ h))

  pub rising_of : (m : List (K × X)) → T (is_sorted R m) → IsStrictlySortedBy R (map (λ e. e.0) m)
  unfolding IsStrictlySortedBy
  rising_of [] h = tt
  rising_of (e ∷ m) h = (of_below e.0 m (both_first _ _ h), rising_of m (both_second _ _ h))

  -- what slots show
  below_live : (x q : K) (s : Option X) (rest : List (K × X)) → T (is_lt (R x q)) → T (below_all R x rest) → T (below_all R x (with_live q s rest))
  below_live x q None rest p h = h
  below_live x q (Some v) rest p h = both _ _ p h

  all_below : (x : K) (es : List (K × Option X)) → T (below_all R x es) → T (below_all R x (live es))
  all_below x [] h = tt
  all_below x (e ∷ es) h = below_live x e.0 e.1 (live es) (both_first _ _ h) (all_below x es (both_second _ _ h))

  one_sorted : (q : K) (s : Option X) (rest : List (K × X)) → T (below_all R q rest) → T (is_sorted R rest) → T (is_sorted R (with_live q s rest))
  one_sorted q None rest p h = h
  one_sorted q (Some v) rest p h = both _ _ p h

  pub sorted_live : (es : List (K × Option X)) → T (is_sorted R es) → T (is_sorted R (live es))
  sorted_live [] h = tt
  sorted_live (e ∷ es) h = one_sorted e.0 e.1 (live es) (all_below e.0 es (both_first _ _ h)) (sorted_live es (both_second _ _ h))

  without_one : (k q : K) (s : Option X) (es : List (K × Option X)) → live (without R es k) ≡ without R (live es) k
      → live (without R ((q, s) ∷ es) k) ≡ without R (live ((q, s) ∷ es)) k
  without_one k q None es rest =
      elim (not (eq_by_cmp R k q)) as (λ b. live (cond b ((q, None) ∷ without R es k) (without R es k)) ≡ without R (live es) k) [ true ↦ rest | false ↦ rest ]
  without_one k q (Some v) es rest =
      elim (not (eq_by_cmp R k q)) as (λ b. live (cond b ((q, Some v) ∷ without R es k) (without R es k)) ≡ cond b ((q, v) ∷ without R (live es) k) (without R (live es) k)) [
        | true ↦ ap (λ (m : List (K × X)). (q, v) ∷ m) rest
        | false ↦ rest
      ]

  pub live-without : (es : List (K × Option X)) (k : K) → live (without R es k) ≡ without R (live es) k
  live-without [] k = refl
  live-without (e ∷ es) k = without_one k e.0 e.1 es (live-without es k)

  emptied_one : (k q : K) (s : Option X) (es : List (K × Option X)) → live (change R es k (λ _. None)) ≡ without R (live es) k
      → live (change R ((q, s) ∷ es) k (λ _. None)) ≡ without R (live ((q, s) ∷ es)) k
  emptied_one k q None es rest =
      elim (eq_by_cmp R k q) as (λ b. with_live q (cond b None None) (live (change R es k (λ _. None))) ≡ without R (live es) k) [ true ↦ rest | false ↦ rest ]
  emptied_one k q (Some v) es rest =
      elim (eq_by_cmp R k q) as (λ b. with_live q (cond b None (Some v)) (live (change R es k (λ _. None))) ≡ cond (not b) ((q, v) ∷ without R (live es) k) (without R (live es) k)) [
        | true ↦ rest
        | false ↦ ap (λ (m : List (K × X)). (q, v) ∷ m) rest
      ]

  pub live-emptied : (es : List (K × Option X)) (k : K) → live (change R es k (λ _. None)) ≡ without R (live es) k
  live-emptied [] k = refl
  live-emptied (e ∷ es) k = emptied_one k e.0 e.1 es (live-emptied es k)

  edited_one : (f : X → X) (k q : K) (s : Option X) (es : List (K × Option X)) → live (change R es k (option_map f)) ≡ change R (live es) k f
      → live (change R ((q, s) ∷ es) k (option_map f)) ≡ change R (live ((q, s) ∷ es)) k f
  edited_one f k q None es rest =
      elim (eq_by_cmp R k q) as (λ b. with_live q (cond b None None) (live (change R es k (option_map f))) ≡ change R (live es) k f) [ true ↦ rest | false ↦ rest ]
  edited_one f k q (Some v) es rest =
      elim (eq_by_cmp R k q) as (λ b. with_live q (cond b (Some (f v)) (Some v)) (live (change R es k (option_map f))) ≡ (q, cond b (f v) v) ∷ change R (live es) k f) [
        | true ↦ ap (λ (m : List (K × X)). (q, f v) ∷ m) rest
        | false ↦ ap (λ (m : List (K × X)). (q, v) ∷ m) rest
      ]

  pub live-edited : (f : X → X) (es : List (K × Option X)) (k : K) → live (change R es k (option_map f)) ≡ change R (live es) k f
  live-edited f [] k = refl
  live-edited f (e ∷ es) k = edited_one f k e.0 e.1 es (live-edited f es k)

  pub length-change : (f : X → X) (m : List (K × X)) (k : K) → length (change R m k f) ≡ length m
  length-change f [] k = refl
  length-change f (e ∷ m) k = ap suc (length-change f m k)

  one_live : (q : K) (s : Option X) (rest : List (K × X)) (n : ℕ) → length rest ≤ n → length (with_live q s rest) ≤ suc n
  one_live q None rest n h = later _ _ h
  one_live q (Some v) rest n h = both_later _ _ h

  pub fewer_live : (es : List (K × Option X)) → length (live es) ≤ length es
  fewer_live [] = omega arith
  fewer_live (e ∷ es) = one_live e.0 e.1 (live es) (length es) (fewer_live es)

  pub small_live : (es : List (K × Option X)) (n most : ℕ) → n ≡ length es → n < most → length (live es) < most
  small_live es n most is below = below_most _ _ _ _ (fewer_live es) is below

  pub small_seen : (es now : List (K × Option X)) (n most : ℕ) → es ≡ now → n ≡ length es → n < most → length (live now) < most
  small_seen es now n most seen is below = subst (λ (l : List (K × Option X)). length (live l) < most) seen (small_live es n most is below)

  pub count-edit : (f : X → X) (es fs : List (K × Option X)) (k : K) → fs ≡ change R es k (option_map f) → length (live fs) ≡ length (live es)
  count-edit f es fs k is = ap (λ (l : List (K × Option X)). length (live l)) is ∙ ap length (live-edited f es k) ∙ length-change f (live es) k

module _ {K X : Type 0} (R : K → K → Ordering) (o : IsTotalOrder R) where
  at_one : (k q : K) (s : Option X) (es : List (K × Option X)) → T (below_all R k es) → at R (live es) q ≡ option_flatten (at R es q)
      → at R (with_live k s (live es)) q ≡ option_flatten (cond (eq_by_cmp R q k) (Some s) (at R es q))
  at_one k q None es h rest =
      elim (eq_by_cmp R q k) as (λ b. eq_by_cmp R q k ≡ b → at R (live es) q ≡ option_flatten (cond b (Some None) (at R es q))) [
        | true ↦ λ t. rest ∙ ap option_flatten (find_before R o k q es (Equal_of _ t) h)
        | false ↦ λ t. rest
      ] refl
  at_one k q (Some v) es h rest =
      elim (eq_by_cmp R q k) as (λ b. cond b (Some v) (at R (live es) q) ≡ option_flatten (cond b (Some (Some v)) (at R es q))) [ true ↦ refl | false ↦ rest ]

  pub at-live : (es : List (K × Option X)) (q : K) → T (is_sorted R es) → at R (live es) q ≡ option_flatten (at R es q)
  at-live [] q h = refl
  at-live (e ∷ es) q h = at_one e.0 q e.1 es (both_first _ _ h) (at-live es q (both_second _ _ h))

  pub found_live : (es now : List (K × Option X)) (q : K) (a : Option X) → es ≡ now → IsStrictlySortedBy R (map (λ e. e.0) es) → a ≡ option_flatten (lookup (is_at (R q)) es) → a ≡ at R (live now) q
  found_live es now q a seen rising found =
      found ∙ ap option_flatten (lookup_is_find R q es) ∙ sym (at-live es q (sorted_of R es rising)) ∙ ap (λ (l : List (K × Option X)). at R (live l) q) seen

  pub rising_live : (es now : List (K × Option X)) → es ≡ now → IsStrictlySortedBy R (map (λ e. e.0) es) → IsStrictlySortedBy R (map (λ e. e.0) (live now))
  rising_live es now seen rising = subst (λ (l : List (K × Option X)). IsStrictlySortedBy R (map (λ e. e.0) (live l))) seen (rising_of R (live es) (sorted_live R es (sorted_of R es rising)))

  pub live_swept : (es now : List (K × Option X)) (k : K) → es ≡ now → IsStrictlySortedBy R (map (λ e. e.0) es) → Some None ≡ lookup (is_at (R k)) es → live (without R now k) ≡ live now
  live_swept es now k seen rising found =
      live-without R now k ∙ without_absent R (live now) k (sym (found_live es now k None seen rising (ap option_flatten found)))

  -- the value that is found at k, at a key that ties with it
  found_tied : (m : List (K × X)) (k q : K) (a : Option X) → eq_by_cmp R k q ≡ true → at R m k ≡ a → at R m q ≡ a
  found_tied m k q a t found = find_tied R o k q (Equal_of _ t) m ∙ found

  at-put_there : (m : List (K × X)) (k : K) (v : X) (q : K) → at R (put R m k v) q ≡ cond (eq_by_cmp R k q) (Some v) (at R m q)
  at-put_there m k v q = at-put R o m k v q ∙ ap (λ b. cond b (Some v) (at R m q)) ((eq_by_cmp_equiv o).symm q k)

  module _ (same : (x y : K) → R x y ≡ Equal → x ≡ y) where
    -- a value that is found, in another's place
    pub put_is_change : (m : List (K × X)) (k : K) (v w : X) → T (is_sorted R m) → at R m k ≡ Some w → put R m k v ≡ change R m k (λ _. v)
    put_is_change m k v w h found =
        same_entries R o same _ _ (is_sorted-put R o k v m h) (is_sorted-change R (λ _. v) m k h) (λ q.
        at-put_there m k v q
        ∙ elim (eq_by_cmp R k q) as (λ b. eq_by_cmp R k q ≡ b → cond b (Some v) (at R m q) ≡ option_map (λ x. cond b v x) (at R m q)) [
          | true ↦ λ t. sym (ap (option_map (λ _. v)) (found_tied m k q (Some w) t found))
          | false ↦ λ t. sym (option_map_id (at R m q))
        ] refl
        ∙ sym (at-change R same (λ _. v) m k q))

    -- one that came goes again
    pub back_came : (m : List (K × X)) (k : K) (v : X) → T (is_sorted R m) → at R m k ≡ None → without R (put R m k v) k ≡ m
    back_came m k v h none =
        same_entries R o same _ _ (is_sorted-without R o _ k (is_sorted-put R o k v m h)) h (λ q.
        at-without R o (put R m k v) k q ∙ ap (λ a. cond (not (eq_by_cmp R k q)) a None) (at-put_there m k v q)
        ∙ elim (eq_by_cmp R k q) as (λ b. eq_by_cmp R k q ≡ b → cond (not b) (cond b (Some v) (at R m q)) None ≡ at R m q) [
          | true ↦ λ t. sym (found_tied m k q None t none)
          | false ↦ λ t. refl
        ] refl)

    -- a change that leaves what is found
    pub change_same : (f : X → X) (m : List (K × X)) (k : K) (v : X) → T (is_sorted R m) → at R m k ≡ Some v → f v ≡ v → change R m k f ≡ m
    change_same f m k v h found stays =
        same_entries R o same _ _ (is_sorted-change R f m k h) h (λ q.
        at-change R same f m k q
        ∙ elim (eq_by_cmp R k q) as (λ b. eq_by_cmp R k q ≡ b → option_map (λ x. cond b (f x) x) (at R m q) ≡ at R m q) [
          | true ↦ λ t. ap (option_map f) (found_tied m k q (Some v) t found) ∙ ap Some stays ∙ sym (found_tied m k q (Some v) t found)
          | false ↦ λ t. option_map_id (at R m q)
        ] refl)

    change_twice : (f g : X → X) (m : List (K × X)) (k : K) → T (is_sorted R m) → change R (change R m k f) k g ≡ change R m k (λ x. g (f x))
    change_twice f g m k h =
        same_entries R o same _ _ (is_sorted-change R g _ k (is_sorted-change R f m k h)) (is_sorted-change R (λ x. g (f x)) m k h) (λ q.
        at-change R same g (change R m k f) k q ∙ ap (option_map (λ x. cond (eq_by_cmp R k q) (g x) x)) (at-change R same f m k q)
        ∙ elim (at R m q) as (λ a. option_map (λ x. cond (eq_by_cmp R k q) (g x) x) (option_map (λ x. cond (eq_by_cmp R k q) (f x) x) a) ≡ option_map (λ x. cond (eq_by_cmp R k q) (g (f x)) x) a) [
          | None ↦ refl
          | Some x ↦ elim (eq_by_cmp R k q) as (λ b. Some (cond b (g (cond b (f x) x)) (cond b (f x) x)) ≡ Some (cond b (g (f x)) x)) [ true ↦ refl | false ↦ refl ]
        ]
        ∙ sym (at-change R same (λ x. g (f x)) m k q))

    -- a change is undone by what gives the value back
    pub back_change : (f g : X → X) (m : List (K × X)) (k : K) (v : X) → T (is_sorted R m) → at R m k ≡ Some v → g (f v) ≡ v → change R (change R m k f) k g ≡ m
    back_change f g m k v h found back = change_twice f g m k h ∙ change_same (λ x. g (f x)) m k v h found back

    -- a value that was set in place of another, and is given back
    pub back_set : (g : X → X) (m n : List (K × X)) (k : K) (w v : X) → IsStrictlySortedBy R (map (λ e. e.0) m) → lookup (is_at (R k)) m ≡ Some v → n ≡ set_value (is_at (R k)) m w → g w ≡ v
        → change R n k g ≡ m
    back_set g m n k w v rising found is_set back =
        ap (λ (l : List (K × X)). change R l k g) (is_set ∙ set_is_change R o (λ _. w) k v m rising found)
        ∙ back_change (λ _. w) g m k v (sorted_of R m rising) (sym (lookup_is_find R k m) ∙ found) back

    pub back_put : (m : List (K × X)) (k : K) (v w : X) → T (is_sorted R m) → at R m k ≡ Some w → change R (put R m k v) k (λ _. w) ≡ m
    back_put m k v w h found = ap (λ (n : List (K × X)). change R n k (λ _. w)) (put_is_change m k v w h found) ∙ back_change (λ _. v) (λ _. w) m k w h found refl

module _ {K X : Type 0} (R : K → K → Ordering) (o : IsTotalOrder R) (same : (x y : K) → R x y ≡ Equal → x ≡ y) where
  pub live-put : (es : List (K × Option X)) (k : K) (v : X) → T (is_sorted R es) → live (put R es k (Some v)) ≡ put R (live es) k v
  live-put es k v h =
      same_entries R o same _ _ (sorted_live R _ (is_sorted-put R o k (Some v) es h)) (is_sorted-put R o k v _ (sorted_live R es h)) (λ q.
      at-live R o _ q (is_sorted-put R o k (Some v) es h) ∙ ap option_flatten (at-put R o es k (Some v) q)
      ∙ elim (eq_by_cmp R q k) as (λ b. option_flatten (cond b (Some (Some v)) (at R es q)) ≡ cond b (Some v) (option_flatten (at R es q))) [ true ↦ refl | false ↦ refl ]
      ∙ ap (cond (eq_by_cmp R q k) (Some v)) (sym (at-live R o es q h)) ∙ sym (at-put R o (live es) k v q))

  -- how many are shown
  pub count-put : (es : List (K × Option X)) (k : K) (v : X) → T (is_sorted R es) → length (live (put R es k (Some v))) + one_in (at R es k) ≡ length (live es) + 1
  count-put es k v h =
      put_counts (at R es k) _ _ (ap length (live-put es k v h) ∙ length-put R o k v (live es) (sorted_live R es h)
      ∙ ap (λ a. cond (is_some a) (length (live es)) (length (live es) + 1)) (at-live R o es k h))

  pub count-without : (es fs : List (K × Option X)) (k : K) → T (is_sorted R es) → live fs ≡ without R (live es) k → length (live fs) + one_in (at R es k) ≡ length (live es)
  count-without es fs k h gone =
      without_counts (at R es k) _ _ (ap (λ (a : Option X). cond (is_some a) 1 0 + length (live fs)) (sym (at-live R o es k h))
      ∙ ap (λ (m : List (K × X)). cond (is_some (at R (live es) k)) 1 0 + length m) gone ∙ length_without R o k (live es) (sorted_live R es h))

  pub write_counts : (es : List (K × Option X)) (k : K) (held s : Option X) → T (is_sorted R es) → at R es k ≡ Some s
      → length (live (change R es k (λ _. held))) + one s ≡ length (live es) + one held
  write_counts es k None s h found =
      ap (λ a. length (live (change R es k (λ _. None))) + one_in a) (sym found) ∙ count-without es (change R es k (λ _. None)) k h (live-emptied R es k)
      ∙ nothing_more _
  write_counts es k (Some v) s h found =
      ap (λ a. length (live (change R es k (λ _. Some v))) + one_in a) (sym found)
      ∙ ap (λ (m : List (K × Option X)). length (live m) + one_in (at R es k)) (sym (put_is_change R o same es k (Some v) s h found)) ∙ count-put es k v h

module _ {K X U : Type 0} (R : K → K → Ordering) (back : U → X → X) where
  pub undone-append : (ns : List (K × Note X U)) (k : K) (n : Note X U) (es : List (K × Option X)) → undone R back (ns ++ (k, n) ∷ []) es ≡ undone R back ns (undo_at R back k n es)
  undone-append [] k n es = refl
  undone-append (m ∷ ns) k n es = ap (undo_at R back m.0 m.1) (undone-append ns k n es)

  -- the newest note is taken back
  pub undone_popped : (ms ns : List (K × Note X U)) (k : K) (n : Note X U) (es fs : List (K × Option X)) → ms ≡ ns ++ (k, n) ∷ [] → fs ≡ undo_at R back k n es
      → undone R back ns fs ≡ undone R back ms es
  undone_popped ms ns k n es fs popped changed =
      ap (undone R back ns) changed ∙ sym (undone-append ns k n es) ∙ ap (λ (l : List (K × Note X U)). undone R back l es) (sym popped)

  -- a change is noted that its note takes back
  pub undone_noted : (ms ns : List (K × Note X U)) (k : K) (n : Note X U) (es fs : List (K × Option X)) → ms ≡ ns ++ (k, n) ∷ [] → undo_at R back k n fs ≡ es
      → undone R back ms fs ≡ undone R back ns es
  undone_noted ms ns k n es fs noted back_again =
      ap (λ (l : List (K × Note X U)). undone R back l fs) noted ∙ undone-append ns k n fs ∙ ap (undone R back ns) back_again

  module _ (o : IsTotalOrder R) (same : (x y : K) → R x y ≡ Equal → x ≡ y) where
    pub undo_put : (es : List (K × Option X)) (k : K) (v : X) → T (is_sorted R es) → undo_at R back k (place_note (at R es k)) (put R es k (Some v)) ≡ es
    undo_put es k v h =
        elim (at R es k) as (λ a. at R es k ≡ a → undo_at R back k (place_note a) (put R es k (Some v)) ≡ es) [
          | None ↦ λ none. back_came R o same es k (Some v) h none
          | Some s ↦ λ found. back_put R o same es k (Some v) s h found
        ] refl

    pub undo_emptied : (es : List (K × Option X)) (k : K) → T (is_sorted R es) → undo_at R back k (place_note (at R es k)) (change R es k (λ _. None)) ≡ es
    undo_emptied es k h =
        elim (at R es k) as (λ a. at R es k ≡ a → undo_at R back k (place_note a) (change R es k (λ _. None)) ≡ es) [
          | None ↦ λ none. ap (λ (m : List (K × Option X)). without R m k) (change_absent R (λ _. None) es k none) ∙ without_absent R es k none
          | Some s ↦ λ found. back_change R o same (λ _. None) (λ _. s) es k s h found refl
        ] refl

    pub noted_put : (ns : List (K × Note X U)) (es fs : List (K × Option X)) (k : K) (v : X) → T (is_sorted R es) → fs ≡ put R es k (Some v)
        → undone R back (ns ++ (k, place_note (at R es k)) ∷ []) fs ≡ undone R back ns es
    noted_put ns es fs k v h is_put = undone_noted _ ns k (place_note (at R es k)) es fs refl (ap (undo_at R back k (place_note (at R es k))) is_put ∙ undo_put es k v h)

    pub noted_emptied : (ns : List (K × Note X U)) (es fs : List (K × Option X)) (k : K) → T (is_sorted R es) → fs ≡ change R es k (λ _. None)
        → undone R back (ns ++ (k, place_note (at R es k)) ∷ []) fs ≡ undone R back ns es
    noted_emptied ns es fs k h is_empty = undone_noted _ ns k (place_note (at R es k)) es fs refl (ap (undo_at R back k (place_note (at R es k))) is_empty ∙ undo_emptied es k h)

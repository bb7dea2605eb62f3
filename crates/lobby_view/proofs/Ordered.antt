-- A value that is put into a map and changed there, or put where one is; one that is changed, as it is shown.
use Rattle.std.proofs.Common.{◌≡◌, List, [], ◌∷◌, refl, sym, ap, ◌∙◌, Bool, true, false, cond, T}
use Rattle.std.specs.Prelude.{Option, Some, None, if◌then◌else◌}
use Rattle.std.specs.declared.cmp.Ordering.{Ordering}
use Rattle.std.specs.declared.cmp.Ordering.TheVariants.{Equal}
use Rattle.std.specs.Ordering.{eq_by_cmp}
use Rattle.std.specs.Option.{option_map}
use Rattle.std.specs.Cmp.{IsTotalOrder}
use Rattle.std.proofs.lemmas.Cmp.{eq_by_cmp_equiv}
use Rattle.std.specs.FinMap.Entries.{is_sorted, is_sorted-put, same_entries}
use Rattle.line_words.specs.Table.{at, put, change, map_values}
use Rattle.line_words.proofs.Tables.{Equal_of, at-put, at-change, is_sorted-change}

module _ {K X : Type 0} (R : K → K → Ordering) (o : IsTotalOrder R) (same : (x y : K) → R x y ≡ Equal → x ≡ y) where
  -- a change at another key
  pub at_itself : (k q : K) (f : X → X) (x : Option X) → eq_by_cmp R q k ≡ false → option_map (λ y. if eq_by_cmp R k q then f y else y) x ≡ x
  at_itself k q f None apart = refl
  at_itself k q f (Some x) apart = ap (λ b. Some (if b then f x else x)) ((eq_by_cmp_equiv o).symm k q ∙ apart)

  pub change_put : (k : K) (x : X) (f : X → X) (m : List (K × X)) → T (is_sorted R m) → change R (put R m k x) k f ≡ put R m k (f x)
  change_put k x f m h =
      same_entries R o same _ _ (is_sorted-change R f (put R m k x) k (is_sorted-put R o k x m h)) (is_sorted-put R o k (f x) m h)
      (λ q. at-change R same f (put R m k x) k q ∙ ap (option_map (λ y. if eq_by_cmp R k q then f y else y)) (at-put R o m k x q)
      ∙ elim (eq_by_cmp R q k) as (λ b. eq_by_cmp R q k ≡ b
      → option_map (λ y. if eq_by_cmp R k q then f y else y) (cond b (Some x) (at R m q)) ≡ cond b (Some (f x)) (at R m q)) [
        | true ↦ λ t. ap (λ b. Some (if b then f x else x)) ((eq_by_cmp_equiv o).symm k q ∙ t)
        | false ↦ λ t. at_itself k q f (at R m q) t
      ] refl
      ∙ sym (at-put R o m k (f x) q))

  -- to put at a key that is there is to change it
  pub put_is_change : (k : K) (x : X) (f : X → X) (m : List (K × X)) → T (is_sorted R m) → at R m k ≡ Some x → put R m k (f x) ≡ change R m k f
  put_is_change k x f m h there =
      same_entries R o same _ _ (is_sorted-put R o k (f x) m h) (is_sorted-change R f m k h)
      (λ q. at-put R o m k (f x) q
      ∙ elim (eq_by_cmp R q k) as (λ b. eq_by_cmp R q k ≡ b
      → cond b (Some (f x)) (at R m q) ≡ option_map (λ y. if eq_by_cmp R k q then f y else y) (at R m q)) [
        | true ↦ λ t.
            ap (λ b. Some (if b then f x else x)) (sym ((eq_by_cmp_equiv o).symm k q ∙ t))
            ∙ ap (option_map (λ y. if eq_by_cmp R k q then f y else y)) (sym (ap (at R m) (same q k (Equal_of _ t)) ∙ there))
        | false ↦ λ t. sym (at_itself k q f (at R m q) t)
      ] refl
      ∙ sym (at-change R same f m k q))

-- where f changes a value as g changes what is shown of it
pub values_changed : {K X Y : Type 0} (R : K → K → Ordering) (shows : X → Y) (f : X → X) (g : Y → Y) → ((x : X) → shows (f x) ≡ g (shows x))
    → (m : List (K × X)) (k : K) → map_values (λ key x. shows x) (change R m k f) ≡ change R (map_values (λ key x. shows x) m) k g
values_changed R shows f g same [] k = refl
values_changed R shows f g same (e ∷ m) k = λ i. (e.0, one (eq_by_cmp R k e.0) i) ∷ values_changed R shows f g same m k i
  where
    one : (b : Bool) → shows (if b then f e.1 else e.1) ≡ (if b then g (shows e.1) else shows e.1)
    one true = same e.1
    one false = refl

-- What a test of the values finds in a sorted map, where at most one value passes it.
use Rattle.std.proofs.Common.{◌≡◌, List, [], refl, sym, ap, ◌∙◌, Bool, true, false, T}
use Rattle.std.specs.Prelude.{Some, None, find, filter}
use Rattle.std.proofs.lemmas.Option.{same_Some}
use Rattle.std.proofs.lemmas.Map.Entries.{option_filter}
use Rattle.std.specs.declared.cmp.Ordering.{Ordering}
use Rattle.std.specs.declared.cmp.Ordering.TheVariants.{Equal}
use Rattle.std.specs.Cmp.{IsTotalOrder}
use Rattle.std.specs.FinMap.Entries.{is_sorted, same_entries}
use Rattle.line_words.specs.Table.{at}
use Rattle.line_words.proofs.Tables.{find-filter, is_sorted-filter}
use Rattle.line_words.proofs.Once.{contradiction}
use Rattle.lobby_model.proofs.Finding.{found_at, none_at}

module _ {K X : Type 0} (R : K → K → Ordering) (o : IsTotalOrder R) (p : X → Bool) (m : List (K × X)) (sorted : T (is_sorted R m)) where
  pub find_none : ((q : K) (x : X) → at R m q ≡ Some x → p x ≡ false) → find (λ e. p e.1) m ≡ None
  find_none never =
      elim (find (λ e. p e.1) m) as (λ found. find (λ e. p e.1) m ≡ found → found ≡ None) [
        | None ↦ λ is. refl
        | Some e ↦ λ is. let there = found_at R o p m e sorted is in contradiction (p e.1) there.1 (never e.0 e.1 there.0)
      ] refl

  pub find_only : (k : K) (x : X) → at R m k ≡ Some x → p x ≡ true → ((q : K) (y : X) → at R m q ≡ Some y → p y ≡ true → q ≡ k)
      → find (λ e. p e.1) m ≡ Some (k, x)
  find_only k x there passes only =
      elim (find (λ e. p e.1) m) as (λ found. find (λ e. p e.1) m ≡ found → found ≡ Some (k, x)) [
        | None ↦ λ is. contradiction (p x) passes (none_at R p m is k x there)
        | Some e ↦ λ is.
            let found = found_at R o p m e sorted is in
            let key : e.0 ≡ k = only e.0 e.1 found.0 found.1 in
            let value : e.1 ≡ x = same_Some e.1 x (sym found.0 ∙ ap (at R m) key ∙ there) in
            λ i. Some (key i, value i)
      ] refl

  pub filter_none : ((x y : K) → R x y ≡ Equal → x ≡ y) → ((q : K) (x : X) → at R m q ≡ Some x → p x ≡ false) → filter (λ e. p e.1) m ≡ []
  filter_none same never =
      same_entries R o same _ _ (is_sorted-filter R o (λ e. p e.1) m sorted) tt (λ q. find-filter R o p q m sorted
      ∙ elim (at R m q) as (λ found. at R m q ≡ found → option_filter p found ≡ None) [
        | None ↦ λ is. refl
        | Some x ↦ λ is. ap (λ b. option_filter (λ y. b) (Some x)) (never q x is)
      ] refl)

-- The counts that a pass keeps, at the history of its close.
use Rattle.std.proofs.Common.{◌≡◌, ◌≢◌, ℕ, ◌≤◌, ◌<◌, true, false, true≢false, cond, List, set, [], ◌∷◌, Option, Some, None, refl, sym, ap, ◌∙◌, subst, eqb, arith, eq-eqb, ne_eqb}
use Rattle.std.specs.Prelude.{slice_get}
use lib.ListN.{get_or}
use Rattle.std.specs.List.{AllByRecursion}
use Rattle.std.specs.Option.{option_map}
use Rattle.std.proofs.lemmas.Bool.{eqb-true}
use Rattle.std.proofs.lemmas.List.{get_or-set_same, get_or-set_other, length-set}
use Rattle.std.proofs.lemmas.Option.{slice_get-get_or}
use Rattle.atomic_table.specs.Seated.{TableId}
use Rattle.lobby_machine.specs.Shown.{Shown}
use Rattle.lobby_lock.specs.declared.laid.Laid.{Laid}
use Rattle.lobby_lock.specs.declared.view.View.{View}
use Rattle.lobby_lock.specs.declared.view.Worker.{Worker}
use Rattle.lobby_lock.specs.History.{Entry, made_by}
use Rattle.lobby_lock.specs.Counts.{count_of, worker_of, PlacesAre, Counts}
use Rattle.lobby_lock.specs.Passes.{ShownPass, shown_view}
use Rattle.lobby_lock.specs.Closing.{IsClosed}
use Rattle.lobby_lock.specs.Rule.{seen_by, Closed, with_taken_back}
use Rattle.lobby_lock.proofs.Histories.{made_by_above}

-- a worker that is there is one whose events are those of the history under its number
known : (history : List Entry) (k : ℕ) (workers : List Worker) → AllByRecursion (λ worker. made_by worker.number history ≡ worker.mine) workers → (worker_of k workers ≡ None → ⊥)
    → option_map (λ worker. worker.mine) (worker_of k workers) ≡ Some (made_by k history)
known history k [] h there = absurd (there refl)
known history k (w ∷ others) h there =
    elim (eqb w.number k) as (λ b. eqb w.number k ≡ b → (cond b (Some w) (worker_of k others) ≡ None → ⊥) → option_map (λ worker. worker.mine) (cond b (Some w) (worker_of k others)) ≡ Some (made_by k history)) [
      | true ↦ λ t _. ap (λ m. Some m) (sym h.0 ∙ ap (λ n. made_by n history) (eqb-true w.number k t))
      | false ↦ λ _ n. known history k others h.1 n
    ] refl there

counted : (k : ℕ) (workers : List Worker) → option_map (λ (worker : Worker). count_of worker.mine) (worker_of k workers) ≡ option_map count_of (option_map (λ (worker : Worker). worker.mine) (worker_of k workers))
counted k workers = elim (worker_of k workers) as (λ o. option_map (λ (worker : Worker). count_of worker.mine) o ≡ option_map count_of (option_map (λ (worker : Worker). worker.mine) o)) [ None ↦ refl | Some w ↦ refl ]

-- none is out, so each number that was handed out has its count
pub closes_with : (old : ShownPass) (x : Shown) (history : List Entry) (handed made : ℕ) (places : List (Option ℕ)) → old.worker.number ≡ 0 → handed ≡ old.handed → handed ≤ 63 → made ≡ count_of old.worker.mine → PlacesAre places old.taken_back
    → made_by 0 history ≡ old.worker.mine → AllByRecursion (λ worker. made_by worker.number history ≡ worker.mine) old.taken_back → AllByRecursion (λ (e : Entry). e.0 ≤ old.handed) history
    → ((k : ℕ) → 1 ≤ k → k ≤ handed → slice_get places k ≡ Some None → ⊥) → IsClosed (record old { on_desk = x; worker = seen_by old.worker history }) handed made places
closes_with old x history handed made places zero_is counts few made_is p own back numbers all = record {
  few = few;
  counts = counts;
  all = p.all;
  own = (
    ap (λ b. option_map (λ (worker : Worker). worker.mine) (cond b (Some (seen_by old.worker history)) (worker_of 0 old.taken_back))) (eq-eqb old.worker.number 0 zero_is) ∙ ap (λ m. Some m) (sym own),
    made_is ∙ ap count_of (sym own),
  );
  others = λ k low high.
      let at = p.each k (omega (arith, few)) in
      let is = known history k old.taken_back back (λ none. all k low high (at ∙ ap (λ o. Some (option_map (λ (worker : Worker). count_of worker.mine) o)) none)) in
      let apart : old.worker.number ≢ k = λ e. omega (arith, e, zero_is, low) in (
        ap (λ b. option_map (λ (worker : Worker). worker.mine) (cond b (Some (seen_by old.worker history)) (worker_of k old.taken_back))) (ne_eqb old.worker.number k apart) ∙ is,
        at ∙ ap (λ o. Some o) (counted k old.taken_back) ∙ ap (λ o. Some (option_map count_of o)) is,
      );
  nobody = λ k above. made_by_above old.handed k (omega (arith, above, counts)) history numbers;
}

pub closed : (v : View) (x : Laid) (w : View) (desk : TableId) (handed made : ℕ) (places : List (Option ℕ)) → Closed v x w → v.worker.number ≡ 0 → handed ≡ v.handed → Counts v handed made places
    → ((k : ℕ) → 1 ≤ k → k ≤ handed → slice_get places k ≡ Some None → ⊥) → IsClosed (shown_view desk w false) handed made places
closed v x w desk handed made places c zero_is counts k all =
    let own = ap (λ n. made_by n w.worker.seen) (sym zero_is) ∙ c.took.own in
    let is = closes_with (shown_view desk v false) x.lobby w.worker.seen handed made places zero_is counts k.few k.made_is (k.places_are zero_is) own c.taken_back (c.numbers zero_is) all in
    subst (λ (u : View). IsClosed (shown_view desk u false) handed made places) (sym c.took.same) is

-- the place of the one whose pass came back gets its count
places_with : (places : List (Option ℕ)) (back : List Worker) (w : Worker) → PlacesAre places back → w.number < 64 → PlacesAre (set places w.number (Some (count_of w.mine))) (w ∷ back)
places_with places back w p few =
    let i : ℕ = w.number in
    let o : Option ℕ = Some (count_of w.mine) in
    let long = length-set places i o in record {
      all = long ∙ p.all;
      each = λ k within. elim (eqb i k) as (λ b. eqb i k ≡ b → slice_get (set places i o) k ≡ Some (option_map (λ (worker : Worker). count_of worker.mine) (cond b (Some w) (worker_of k back)))) [
        | true ↦ λ t. slice_get-get_or (set places i o) k o (omega (arith, long, p.all, within)) ∙ ap (λ x. Some x) (ap (λ n. get_or (set places i o) n o) (sym (eqb-true i k t)) ∙ get_or-set_same places i o o (omega (arith, p.all, few)))
        | false ↦ λ f. slice_get-get_or (set places i o) k o (omega (arith, long, p.all, within)) ∙ ap (λ x. Some x) (get_or-set_other places i k o o (λ e. true≢false (sym (eq-eqb i k (sym e)) ∙ f))) ∙ sym (slice_get-get_or places k o (omega (arith, p.all, within))) ∙ p.each k within
      ] refl;
    }

pub counts_with : (v w : View) (handed made theirs : ℕ) (places : List (Option ℕ)) → Counts v handed made places → w.worker.number < 64 → theirs ≡ count_of w.worker.mine → Counts (with_taken_back v w) handed made (set places w.worker.number (Some theirs))
counts_with v w handed made theirs places c few is = record {
  few = c.few;
  made_is = c.made_is;
  places_are = λ zero_is. subst (λ n. PlacesAre (set places w.worker.number (Some n)) (w.worker ∷ v.taken_back)) (sym is) (places_with places v.taken_back w.worker (c.places_are zero_is) few);
}

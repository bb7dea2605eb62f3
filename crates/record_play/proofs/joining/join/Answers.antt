use Rattle.std.proofs.Common.{◌≡◌, ◌<◌, ◌≤◌, ◌^◌, ◌-◌, ◌⊎◌, inl, inr, ℕ, zero, suc, Some, get_or, List, [], ◌∷◌, ◌++◌, ◌+◌, length, length-take, take, drop, refl, sym, subst, ◌∙◌, ap, arith, append-nil, append_assoc, rules}
use Rattle.std.specs.Borrow.{Bor}
use Rattle.std.specs.Prelude.{slice_get}
use Rattle.std.specs.List.{AllByRecursion, Contains}
use Rattle.std.specs.List.Sorted.{IsPermutation, IsStableByKey}
use Rattle.std.specs.Ordering.{nat_cmp}
use Rattle.std.proofs.lemmas.List.{drop_more, drop_all, take_all, take-append-drop}
use Rattle.std.proofs.lemmas.List.Sorted.{IsNonDecreasingBy-from_sort_by_key, answers_always, length_permutation, IsPermutation-sym, Contains-permutation}
use Rattle.std.proofs.lemmas.Result.{err_from_is_err_and}
use Rattle.record_play.specs.Files.{FileLines, IsNoFile, ListFiles, all_lines}
use Rattle.record_play.specs.Joined.{IsFaultOf, IsJoined, IsShared, Rises}
use Rattle.record_play.specs.declared.fault.RecordFault.{RecordFault}
use Rattle.record_play.specs.declared.fault.RecordFault.TheVariants.{BadLine, Memory}
use Rattle.record_play.specs.declared.file.RecordLine.{RecordLine}
use Rattle.record_play.proofs.Listing.{all_lines-more, reach_both}
use Rattle.record_play.proofs.Rising.{joined}
use Rattle.record_play.proofs.Sorting.{same_places}
use Rattle.record_play.proofs.joining.join.Goals.{else-count-len-via-then-count-len+else-missing-reach, else-count-len-via-else-count-len}
use Rattle.record_play.proofs.joining.join.Goals as goal

abbrev no_text : Bor (List ℕ)
no_text = record { ref_ptr = (0, 0); now = [] }

pub loop-text-preserved : goal.loop-text-preserved
loop-text-preserved c =
    let so_far = c.loop-text.invariant in
    let files = c.args.files.now in
    let known = so_far.1 in
    let done = known.0 in
    let added = c.in_ok-add_lines.ensures.listed in
    let here = added.0 in (
      ap (λ n. n + 1) so_far.0,
      (
        done ++ here ∷ [],
        added.2 ∙ ap (λ (l : List RecordLine). l ++ here.lines) known.1 ∙ sym (all_lines-more done here),
        reach_both done here c.loop-text.reach c.in_ok-add_lines.field-0 c.min-reach.result known.2 added.3 c.min-reach.ensures,
        λ later listed.
            subst (λ (f : List FileLines). ListFiles 0 files f) (sym (append_assoc done (here ∷ []) later))
            (known.3 (here ∷ later) (subst (λ (rest : List (Bor (List ℕ))). ListFiles c.loop-text.file rest (here ∷ later))
            (sym (drop_more files c.loop-text.text-index no_text c.loop-text-test.true)) (here, later, added.1, listed, refl))),
      ),
    )

pub front-requires : goal.front-requires
front-requires c = rw c.deref.ensures.value
    (IsNonDecreasingBy-from_sort_by_key (λ (l : RecordLine). l.place) _ c.in_ok-sort_by_key.ensures.sorted (λ a r q k. search rules))

-- the files are listed where none of their texts is left
listed_all : (texts : List (Bor (List ℕ))) (done : List FileLines) (i file : ℕ) → length texts ≤ i
    → ((later : List FileLines) → ListFiles file (drop i texts) later → ListFiles 0 texts (done ++ later)) → ListFiles 0 texts done
listed_all texts done i file over known =
    subst (λ (f : List FileLines). ListFiles 0 texts f) (append-nil done)
    (known [] (subst (λ (rest : List (Bor (List ℕ))). ListFiles file rest []) (sym (drop_all i texts over)) refl))

-- an element that is there
at_some : (texts : List (Bor (List ℕ))) (i : ℕ) → i < length texts → slice_get texts i ≡ Some (get_or texts i no_text)
at_some [] i low = absurd (omega (arith, low))
at_some (t ∷ texts) zero low = refl
at_some (t ∷ texts) (suc i) low = at_some texts i (omega (arith, low))

fault_of : (texts : List (Bor (List ℕ))) (file i : ℕ) (e : RecordFault) → file ≡ i → i < length texts
    → ((e ≡ Memory) ⊎ ((line : ℕ) × (e ≡ BadLine file line) × IsNoFile file (get_or texts i no_text).now)) → IsFaultOf texts e
fault_of texts file i e same low (inl none) = subst (IsFaultOf texts) (sym none) tt
fault_of texts file i e same low (inr bad) =
    subst (IsFaultOf texts) (sym bad.1)
    (get_or texts i no_text, subst (λ k. slice_get texts k ≡ Some (get_or texts i no_text)) (sym same) (at_some texts i low), bad.2)

-- lines that two files share, before they were sorted
shared_of : (lines sorted here : List RecordLine) (files : List FileLines) (file line other : ℕ) → lines ≡ all_lines files
    → IsPermutation lines sorted → here ≡ sorted → IsShared here file line other → IsShared (all_lines files) file line other
shared_of lines sorted here files file line other from permutation same shared =
    let back : IsPermutation sorted (all_lines files) =
    subst (λ (l : List RecordLine). IsPermutation sorted l) from (IsPermutation-sym lines sorted permutation) in record {
      one = shared.one;
      two = shared.two;
      one_is = (
        Contains-permutation sorted (all_lines files) shared.one back (subst (λ (l : List RecordLine). Contains l shared.one) same shared.one_is.0),
        shared.one_is.1,
        shared.one_is.2,
      );
      two_is = (
        Contains-permutation sorted (all_lines files) shared.two back (subst (λ (l : List RecordLine). Contains l shared.two) same shared.two_is.0),
        shared.two_is.1,
      );
      place = shared.place;
      files = shared.files;
    }

-- all lines, those of the files, in the order of their places, and those of them before the first that is missing
record Given (lines sorted : List RecordLine) (files : List FileLines) (count missing : ℕ) : Type 0 where
  from : lines ≡ all_lines files
  many : length sorted ≡ length lines
  stable : IsStableByKey (λ (l : RecordLine). l.place) nat_cmp lines sorted
  rises : Rises 0 0 (take count sorted) missing
  above : AllByRecursion (λ (l : RecordLine). missing < l.place) (drop count sorted)

given_of : (lines sorted here : List RecordLine) (files : List FileLines) (count missing : ℕ) → lines ≡ all_lines files
    → IsPermutation lines sorted → IsStableByKey (λ (l : RecordLine). l.place) nat_cmp lines sorted → here ≡ sorted
    → Rises 0 0 (take count here) missing → AllByRecursion (λ (l : RecordLine). missing < l.place) (drop count here)
    → Given lines sorted files count missing
given_of lines sorted here files count missing from permutation stable same rises above = record {
  from = from;
  many = length_permutation lines sorted permutation;
  stable = stable;
  rises = subst (λ (s : List RecordLine). Rises 0 0 (take count s) missing) same rises;
  above = subst (λ (s : List RecordLine). AllByRecursion (λ (l : RecordLine). missing < l.place) (drop count s)) same above;
}

joined_of : (lines sorted : List RecordLine) (files : List FileLines) (count missing : ℕ) → Given lines sorted files count missing
    → IsJoined (all_lines files) (take count sorted) missing
joined_of lines sorted files count missing g =
    subst (λ (l : List RecordLine). IsJoined l (take count sorted) missing) g.from
    (joined lines (take count sorted) (drop count sorted) sorted missing (sym (take-append-drop count sorted)) (same_places lines sorted g.stable) g.rises g.above)

-- all are given where none is left out
all_given : (lines sorted given : List RecordLine) (files : List FileLines) (count missing : ℕ) → Given lines sorted files count missing
    → given ≡ take count sorted → length sorted ≤ count → length given ≡ length (all_lines files)
all_given lines sorted given files count missing g is all_of =
    ap (λ (l : List RecordLine). length l) (is ∙ take_all count sorted all_of) ∙ g.many ∙ ap (λ (l : List RecordLine). length l) g.from

less_given : (lines sorted : List RecordLine) (files : List FileLines) (count missing : ℕ) → Given lines sorted files count missing
    → count < length sorted → length (take count sorted) < length (all_lines files)
less_given lines sorted files count missing g less =
    let size = length-take count sorted in
    let of = ap (λ (l : List RecordLine). length l) g.from in
    omega (arith, size, of, g.many, less)

pub returns-then-missing-reach-clause-fault : goal.returns-then-missing-reach-clause-fault
returns-then-missing-reach-clause-fault c =
    let so_far = c.loop-text.invariant in
    let known = so_far.1 in
    let sorted = c.sort_by_key.new.self.items in
    let count = c.in_ok-count.count in
    let missing = c.in_ok-count.missing in
    let g : Given c.loop-text.lines.items sorted known.0 count missing = given_of c.loop-text.lines.items sorted c.deref.result.now known.0 count missing known.1
    c.in_ok-sort_by_key.ensures.permutation (c.in_ok-sort_by_key.ensures.stable (λ (l : RecordLine). l.place) (answers_always _ _ _ (λ f a r f' k. search rules)))
    c.deref.ensures.value c.in_ok-count.ensures.rises c.in_ok-count.ensures.above in
    let less : count < length sorted = omega (arith, c.if-count-len.true, c.len.ensures) in (
      known.0,
      listed_all c.args.files.now known.0 c.loop-text.text-index c.loop-text.file c.loop-text-test.false known.3,
      (known.2 missing (omega (arith, less, c.in_ok-count.ensures.within))).1 c.if-missing-reach.true,
      take count sorted,
      joined_of c.loop-text.lines.items sorted known.0 count missing g,
      less_given c.loop-text.lines.items sorted known.0 count missing g less,
    )

pub returns-clause-joins : goal.returns-clause-joins
returns-clause-joins c =
    let so_far = c.loop-text.invariant in
    let known = so_far.1 in
    let sorted = c.sort_by_key.new.self.items in
    let count = c.in_ok-count.count in
    let missing = c.in_ok-count.missing in
    let g : Given c.loop-text.lines.items sorted known.0 count missing = given_of c.loop-text.lines.items sorted c.deref.result.now known.0 count missing known.1
    c.in_ok-sort_by_key.ensures.permutation (c.in_ok-sort_by_key.ensures.stable (λ (l : RecordLine). l.place) (answers_always _ _ _ (λ f a r f' k. search rules)))
    c.deref.ensures.value c.in_ok-count.ensures.rises c.in_ok-count.ensures.above in (
      known.0,
      listed_all c.args.files.now known.0 c.loop-text.text-index c.loop-text.file c.loop-text-test.false known.3,
      rw c.truncate.ensures.items (joined_of c.loop-text.lines.items sorted known.0 count missing g),
      λ passed. elim c.else-count-len.branch [
        | else-count-len-via-then-count-len+else-missing-reach w ↦
            let low : missing < 2 ^ 64 - 1 = omega (arith, w.if-count-len.true, c.len.ensures, c.in_ok-count.ensures.within) in
            let below : missing < c.loop-text.reach = (known.2 missing low).0 passed in
            absurd (omega (arith, below, w.if-missing-reach.false))
        | else-count-len-via-else-count-len w ↦
            all_given c.loop-text.lines.items sorted c.truncate.new.self.items known.0 count missing g c.truncate.ensures.items
            (omega (arith, w.if-count-len.false, c.len.ensures))
      ],
    )

pub returns-in_err-add_lines-clause-fault : goal.returns-in_err-add_lines-clause-fault
returns-in_err-add_lines-clause-fault c =
    let so_far = c.loop-text.invariant in
    let fault = fault_of c.args.files.now c.loop-text.file c.loop-text.text-index c.in_err-add_lines.field-0.0 so_far.0 c.loop-text-test.true
    c.in_err-add_lines.ensures.fault in
    let error = err_from_is_err_and c.from_residual.result c.from_residual.ensures.1 in
    rw (error.1, error.2) fault

pub returns-in_err-count-clause-fault : goal.returns-in_err-count-clause-fault
returns-in_err-count-clause-fault c =
    let so_far = c.loop-text.invariant in
    let known = so_far.1 in
    let two = c.in_err-count.ensures.fault in
    let fault : IsFaultOf c.args.files.now c.in_err-count.field-0.0 =
    subst (IsFaultOf c.args.files.now) (sym two.3) (
      known.0,
      listed_all c.args.files.now known.0 c.loop-text.text-index c.loop-text.file c.loop-text-test.false known.3,
      shared_of c.loop-text.lines.items c.sort_by_key.new.self.items c.deref.result.now known.0 two.0 two.1 two.2 known.1
          c.in_ok-sort_by_key.ensures.permutation c.deref.ensures.value two.4,
    ) in
    let error = err_from_is_err_and c.from_residual-in_err-count.result c.from_residual-in_err-count.ensures.1 in
    rw (error.1, error.2) fault

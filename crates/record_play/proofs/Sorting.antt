-- What a stable sort by place keeps.
use Rattle.std.proofs.Common.{◌≡◌, ℕ, ◌==◌, ◌&&◌, not, List, [], sym, ◌∙◌, arith}
use Rattle.std.specs.Ordering.{is_lt, nat_cmp}
use Rattle.std.specs.List.Sorted.{IsStableByKey}
use Rattle.std.proofs.lemmas.Bool.Decides.{nat_tests}
use Rattle.std.proofs.lemmas.List.Elements.{filter_agree}
use Rattle.record_play.specs.Joined.{at_place}
use Rattle.record_play.specs.declared.file.RecordLine.{RecordLine}

tie : (a b : ℕ) → (not (is_lt (nat_cmp a b)) && not (is_lt (nat_cmp b a))) ≡ (b == a)
tie a b = grind (arith, nat_tests)

pub same_places : (all sorted : List RecordLine)
    → IsStableByKey (λ (l : RecordLine). l.place) nat_cmp all sorted
    → (place : ℕ) → at_place place sorted ≡ at_place place all
same_places all sorted stable place =
    let x : RecordLine = record { file = 0; number = 0; place = place; step = record { ref_ptr = (0, 0); now = [] } } in
    sym (filter_agree _ _ (λ l. tie place l.place) sorted) ∙ stable x ∙ filter_agree _ _ (λ l. tie place l.place) all

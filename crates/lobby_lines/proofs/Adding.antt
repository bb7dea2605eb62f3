-- Fields that are added one behind the other.
use Rattle.std.proofs.lemmas.Grind.{common_steps}
use Rattle.std.proofs.Common.{◌≡◌, arith, ◌+◌, ◌++◌, ℕ, List, [], ◌∷◌, length, take, refl, sym, subst, ap, ◌∙◌}
use Rattle.std.proofs.lemmas.List.{append-nil}
use Rattle.std.specs.Prelude.{flat_map, slice_get, Some}
use Rattle.lobby_lines.specs.Layout.{rows_from}
use Rattle.lobby_lines.proofs.Laying.{next_taken}
use Rattle.lobby_lines.specs.declared.fields.FieldRow.{FieldRow}
use Rattle.lobby_lines.specs.Fields.{Field, Laid, Adds, field_row, field_shown}

abbrev rows_at : ℕ → List Field → List FieldRow
rows_at = rows_from field_row field_shown

abbrev text_of : List Field → List ℕ
text_of = flat_map field_shown

rows_both : (n : ℕ) (xs ys : List Field) → rows_at n (xs ++ ys) ≡ rows_at n xs ++ rows_at (n + length (text_of xs)) ys
rows_both n [] ys = grind (arith, common_steps)
rows_both n (x ∷ xs) ys =
    let more = rows_both (n + length (field_shown x)) xs ys in
    let at : n + length (field_shown x) + length (text_of xs) ≡ n + length (field_shown x ++ text_of xs) = grind (arith, common_steps) in
    grind (arith, common_steps)

text_both : (xs ys : List Field) → text_of (xs ++ ys) ≡ text_of xs ++ text_of ys
text_both [] ys = refl
text_both (x ∷ xs) ys = let more = text_both xs ys in grind (arith, common_steps)

pub adds_none : (a : Laid) → Adds [] a a
adds_none a = record { rows = sym (append-nil a.rows); text = sym (append-nil a.text) }

pub adds_both : (xs ys : List Field) (a b c : Laid) → Adds xs a b → Adds ys b c → Adds (xs ++ ys) a c
adds_both xs ys a b c first then =
    let rows = rows_both (length a.text) xs ys in
    let text = text_both xs ys in
    let r1 = first.rows in
    let t1 = first.text in
    let r2 = then.rows in
    let t2 = then.text in
    let at : length b.text ≡ length a.text + length (text_of xs) = grind (arith, common_steps) in
    record { rows = grind (arith, common_steps); text = grind (arith, common_steps) }

flat_more : {X : Type 0} (f : X → List Field) (xs : List X) (x : X) → flat_map f (xs ++ x ∷ []) ≡ flat_map f xs ++ f x
flat_more f [] x = grind (arith, common_steps)
flat_more f (y ∷ xs) x = let more = flat_more f xs x in grind (arith, common_steps)

-- one more of a list, whose fields were added
pub adds_next : {X : Type 0} (f : X → List Field) (xs : List X) (k : ℕ) (x : X) (a b c : Laid) → slice_get xs k ≡ Some x
    → Adds (flat_map f (take k xs)) a b → Adds (f x) b c → Adds (flat_map f (take (k + 1) xs)) a c
adds_next f xs k x a b c is first then =
    subst (λ fs. Adds fs a c) (sym (ap (flat_map f) (next_taken xs k x is) ∙ flat_more f (take k xs) x))
    (adds_both (flat_map f (take k xs)) (f x) a b c first then)

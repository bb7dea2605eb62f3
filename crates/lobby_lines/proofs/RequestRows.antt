-- The table of requests in code is that of commands.
use Rattle.std.proofs.Common.{◌≡◌, ◌-◌, ◌≤◌, ℕ, List, [], ◌∷◌, length, refl, subst, arith, Bor}
use Rattle.std.specs.Prelude.{Option, Some, None, IfSome, IfNone, slice_get, suc, zero}
use Rattle.std.proofs.lemmas.Option.{slice_get_past, slice_get_read}
use Rattle.std.specs.Slice.{IsItemAt}
use Rattle.command_grammar.specs.Table.{Entry, entries}
use Rattle.lobby_lines.specs.declared.request_table.RequestRow.{RequestRow}
use Rattle.lobby_lines.specs.Requests.{entry_at}
use Rattle.lobby_lines.specs.RequestTable.{AreRows, IsRow, IsRowOf}

-- what is at a number of one is at that of the other
abbrev pub AtSame : Option Entry → Option RequestRow → Type 0
AtSame None None = Unit {0}
AtSame None (Some r) = ⊥
AtSame (Some e) None = ⊥
AtSame (Some e) (Some r) = IsRow e r

pub at_same : (es : List Entry) (rs : List RequestRow) → AreRows es rs → (k : ℕ) → AtSame (slice_get es k) (slice_get rs k)
at_same [] [] are k = tt
at_same [] (r ∷ rs) are k = absurd are
at_same (e ∷ es) [] are k = absurd are
at_same (e ∷ es) (r ∷ rs) are zero = are.0
at_same (e ∷ es) (r ∷ rs) are (suc k) = at_same es rs are.1 k

pub row_is : (o : Option Entry) (p : Option RequestRow) (r : RequestRow) → AtSame o p → p ≡ Some r → IsRowOf o r
row_is o p r same is = by o (subst (AtSame o) is same)
  where
    by : (o : Option Entry) → AtSame o (Some r) → IsRowOf o r
    by None same = same
    by (Some e) same = same

pub no_row : (o : Option Entry) (p : Option RequestRow) → AtSame o p → p ≡ None → o ≡ None
no_row o p same is = by o (subst (AtSame o) is same)
  where
    by : (o : Option Entry) → AtSame o None → o ≡ None
    by None same = refl
    by (Some e) same = absurd same

pub found : (rs : List RequestRow) (kind index : ℕ) (o : Option (Bor RequestRow)) → (1 ≤ kind) × (index ≡ kind - 1) → IsItemAt rs index o
    → AreRows entries rs → IfSome o (λ row. IsRowOf (entry_at kind) row.now) × IfNone o (entry_at kind ≡ None)
found rs zero index o is item are = absurd (omega arith)
found rs (suc k) index o is item are =
    let same : index ≡ k = omega arith in
    by o (subst (λ i. IsItemAt rs i o) same item) (at_same entries rs are k)
  where
    by : (o : Option (Bor RequestRow)) → IsItemAt rs k o → AtSame (slice_get entries k) (slice_get rs k)
        → IfSome o (λ row. IsRowOf (slice_get entries k) row.now) × IfNone o (slice_get entries k ≡ None)
    by None item same = (tt, no_row _ _ same (slice_get_past rs k item.3))
    by (Some row) item same = (row_is _ _ row.now same (slice_get_read rs (length rs) k row.now refl item.3.0 item.1), tt)

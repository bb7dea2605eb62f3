-- Who is attended to while keys join others and get their turns.
use Rattle.std.proofs.Common.{ℕ, ◌+◌, ◌<◌, ◌≤◌, List, [], ◌∷◌, ◌++◌, length, drop, get_or, ap, sym, subst, ⊎_elim, inl, inr}
use Rattle.std.proofs.Math.ListN.{drop_of_length-le}
use Rattle.std.proofs.lemmas.List.{append_assoc, drop_more}
use Rattle.std.proofs.lemmas.List.Elements.{Contains-append_cases, Contains-append_left, Contains-append_right}
use Rattle.std.specs.List.{Contains}
use Rattle.lobby_connections.proofs.Lines.{among_cases, among_first, among_rest}
use Rattle.lobby_connections.specs.Attended.{IsAttended}
use Rattle.lobby_connections.specs.Table.{Table}

-- a key among others may as well be the first of them
moved : (xs : List ℕ) (key : ℕ) (rest : List ℕ) (other : ℕ) → Contains (xs ++ (key ∷ rest)) other → Contains (key ∷ (xs ++ rest)) other
moved xs key rest other h =
    ⊎_elim
    (λ m. among_rest key other (xs ++ rest) (Contains-append_left xs rest other m))
    (λ m. ⊎_elim (λ e. among_first key other (xs ++ rest) e) (λ r. among_rest key other (xs ++ rest) (Contains-append_right xs rest other r)) (among_cases key other rest m))
    (Contains-append_cases xs (key ∷ rest) other h)

pub ahead : (t : Table) (xs : List ℕ) (key : ℕ) (rest : List ℕ) → IsAttended t (xs ++ (key ∷ rest)) → IsAttended t (key ∷ (xs ++ rest))
ahead t xs key rest a = record {
  all = λ other o. elim (a.all other o) [
    | inl h ↦ inl h
    | inr (inl h) ↦ inr (inl h)
    | inr (inr h) ↦ inr (inr (moved xs key rest other h))
  ];
  called = a.called;
}

-- it joins them
pub joins : (t : Table) (xs : List ℕ) (key : ℕ) (rest : List ℕ) → IsAttended t (xs ++ (key ∷ rest)) → IsAttended t ((xs ++ (key ∷ [])) ++ rest)
joins t xs key rest = subst (IsAttended t) (sym (append_assoc xs (key ∷ []) rest))

-- the next of them
pub next : (t : Table) (xs : List ℕ) (i : ℕ) (rest : List ℕ) → i < length xs → IsAttended t (drop i xs ++ rest) → IsAttended t (get_or xs i 0 ∷ (drop (i + 1) xs ++ rest))
next t xs i rest lt = subst (IsAttended t) (ap (λ ys. ys ++ rest) (drop_more xs i 0 lt))

-- each of them had its turn
pub done : (t : Table) (xs : List ℕ) (n : ℕ) (rest : List ℕ) → length xs ≤ n → IsAttended t (drop n xs ++ rest) → IsAttended t rest
done t xs n rest le = subst (λ ys. IsAttended t (ys ++ rest)) (drop_of_length-le xs le)

-- What clients get in sum, where one piece more is told.
use Rattle.std.proofs.Common.{◌≡◌, ℕ, ◌+◌, ◌%◌, ◌^◌, ◌<◌, List, [], ◌∷◌, ◌++◌, length, refl, sym, ap, subst, ◌∙◌, true, false, cond, arith, length-append}
use Rattle.std.specs.Prelude.{Some, None, ◌||◌}
use Rattle.std.specs.declared.cmp.Ordering.TheVariants.{Less}
use Rattle.std.specs.Ordering.{is_eq, nat_cmp}
use Rattle.std.specs.BTreeMap.{is_at}
use Rattle.std.specs.List.{AllByRecursion}
use Rattle.std.specs.List.Sorted.{IsStrictlySortedBy}
use Rattle.std.specs.Map.{keys_of, lookup}
use Rattle.std.proofs.Math.Nat.{mod-add-mod, mod-eq_of_lt}
use Rattle.line_words.specs.Table.{ByNumber, same_number}
use Rattle.lobby_model.proofs.Delivered.{same_number_is}
use Rattle.lobby_model.proofs.Splits.{same_either_way}
use Rattle.lobby_post.specs.Amounts.{bytes_in_all, counted_on}
use Rattle.lobby_post.specs.Mail.{bytes_for}
use Rattle.lobby_post.specs.Posted.{AreApart, has_number}
use Rattle.lobby_post.proofs.Parcels.{other_piece, own_piece}

-- numbers that rise stand apart
none_above : (d : ℕ) (cs : List ℕ) → AllByRecursion (λ k. nat_cmp d k ≡ Less) cs → has_number cs d ≡ false
none_above d [] above = refl
none_above d (c ∷ cs) above = (λ i. is_eq (above.0 i) || has_number cs d) ∙ none_above d cs above.1

pub apart_rising : (cs : List ℕ) → IsStrictlySortedBy nat_cmp cs → AreApart cs
unfolding IsStrictlySortedBy
apart_rising [] rising = tt
apart_rising (c ∷ cs) rising = (none_above c cs rising.0, apart_rising cs rising.1)

module _ {X : Type 0} (c : ℕ) where
  stands_in : (x : X) (es : ByNumber X) → lookup (is_at (nat_cmp c)) es ≡ Some x → has_number (keys_of es) c ≡ true
  stands_in x [] found = absurd (cc)
  stands_in x (e ∷ es) found =
      elim (same_number c e.0) as (λ b. cond b (Some e.1) (lookup (is_at (nat_cmp c)) es) ≡ Some x → (b || has_number (keys_of es) c) ≡ true) [
        | true ↦ λ f. refl
        | false ↦ λ f. stands_in x es f
      ] found

  stands_not : (es : ByNumber X) → lookup (is_at (nat_cmp c)) es ≡ None → has_number (keys_of es) c ≡ false
  stands_not [] none = refl
  stands_not (e ∷ es) none =
      elim (same_number c e.0) as (λ b. cond b (Some e.1) (lookup (is_at (nat_cmp c)) es) ≡ None → (b || has_number (keys_of es) c) ≡ false) [
        | true ↦ λ f. absurd (cc)
        | false ↦ λ f. stands_not es f
      ] none

module _ (c : ℕ) (bytes : List ℕ) (rest : ByNumber (List ℕ)) where
  abbrev all : ByNumber (List ℕ)
  all = (c, bytes) ∷ rest

  sum_past : (ns : List ℕ) → has_number ns c ≡ false → bytes_in_all (bytes_for all) ns ≡ bytes_in_all (bytes_for rest) ns
  sum_past [] none = refl
  sum_past (n ∷ ns) none =
      elim (same_number c n) as (λ b. same_number c n ≡ b → (b || has_number ns c) ≡ false → bytes_in_all (bytes_for all) (n ∷ ns) ≡ bytes_in_all (bytes_for rest) (n ∷ ns)) [
        | true ↦ λ t h. absurd (cc)
        | false ↦ λ t h.
            let here : length (bytes_for all n) ≡ length (bytes_for rest n) = ap length (sym (other_piece c bytes rest n (same_either_way n c ∙ t))) in
            let others : bytes_in_all (bytes_for all) ns ≡ bytes_in_all (bytes_for rest) ns = sum_past ns h in
            omega (arith, here, others)
      ] refl none

  sum_more : (ns : List ℕ) → AreApart ns → has_number ns c ≡ true → bytes_in_all (bytes_for all) ns ≡ length bytes + bytes_in_all (bytes_for rest) ns
  sum_more [] apart here = absurd (cc)
  sum_more (n ∷ ns) apart here =
      elim (same_number c n) as (λ b. same_number c n ≡ b → (b || has_number ns c) ≡ true → bytes_in_all (bytes_for all) (n ∷ ns) ≡ length bytes + bytes_in_all (bytes_for rest) (n ∷ ns)) [
        | true ↦ λ t h.
            let is : c ≡ n = same_number_is c n t in
            let own : bytes_for all n ≡ bytes ++ bytes_for rest n = subst (λ k. bytes_for all k ≡ bytes ++ bytes_for rest k) is (own_piece c bytes rest) in
            let long : length (bytes_for all n) ≡ length bytes + length (bytes_for rest n) = ap length own ∙ length-append bytes (bytes_for rest n) in
            let others : bytes_in_all (bytes_for all) ns ≡ bytes_in_all (bytes_for rest) ns = sum_past ns (subst (λ k. has_number ns k ≡ false) (sym is) apart.0) in
            omega (arith, long, others)
        | false ↦ λ t h.
            let here : length (bytes_for all n) ≡ length (bytes_for rest n) = ap length (sym (other_piece c bytes rest n (same_either_way n c ∙ t))) in
            let others : bytes_in_all (bytes_for all) ns ≡ length bytes + bytes_in_all (bytes_for rest) ns = sum_more ns apart.1 h in
            omega (arith, here, others)
      ] refl here

  -- one who is there gets the piece besides
  pub told_here : {X : Type 0} (x : X) (es : ByNumber X) → IsStrictlySortedBy nat_cmp (keys_of es) → Some x ≡ lookup (is_at (nat_cmp c)) es
      → bytes_in_all (bytes_for all) (keys_of es) ≡ length bytes + bytes_in_all (bytes_for rest) (keys_of es)
  told_here x es rising found = sum_more (keys_of es) (apart_rising (keys_of es) rising) (stands_in c x es (sym found))

  -- and where nobody is, nobody gets more
  pub told_past : {X : Type 0} (es : ByNumber X) → lookup (is_at (nat_cmp c)) es ≡ None
      → bytes_in_all (bytes_for all) (keys_of es) ≡ bytes_in_all (bytes_for rest) (keys_of es)
  told_past es none = sum_past (keys_of es) (stands_not c es none)

-- no piece, no byte
pub told_none : (ns : List ℕ) → bytes_in_all (bytes_for []) ns ≡ 0
told_none [] = refl
told_none (n ∷ ns) = let rest : bytes_in_all (bytes_for []) ns ≡ 0 = told_none ns in omega (arith, rest)

-- a count that goes on twice
pub counted_twice : (count a b : ℕ) → counted_on (counted_on count a) b ≡ counted_on count (a + b)
counted_twice count a b =
    let same : (count + a) + b ≡ count + (a + b) = omega arith in
    mod-add-mod (count + a) (2 ^ 64) b ∙ ap (λ n. n % 2 ^ 64) same

-- and one that goes on by nothing
pub counted_none : (count : ℕ) → count < 2 ^ 64 → counted_on count 0 ≡ count
counted_none count small =
    let none : count + 0 ≡ count = omega arith in
    ap (λ n. n % 2 ^ 64) none ∙ mod-eq_of_lt small

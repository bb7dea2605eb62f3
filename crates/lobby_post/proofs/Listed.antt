-- Numbers left out of lists, and the listings of clients.
use Rattle.std.proofs.Common.{◌≡◌, ℕ, ◌+◌, ◌≤◌, List, [], ◌∷◌, refl, sym, ap, subst, ◌∙◌, Bool, true, false, T, cond, filter, arith, nat_eq, eq-eqb}
use Rattle.std.proofs.Math.Facts.{eqb_yes}
use Rattle.std.specs.Prelude.{Some, if◌then◌else◌}
use Rattle.std.specs.Ordering.{nat_cmp}
use Rattle.std.specs.BTreeMap.{is_at}
use Rattle.std.specs.Map.{lookup, set_value}
use Rattle.std.proofs.lemmas.Map.Steps.{set_value_same}
use Rattle.line_words.specs.Table.{ByNumber, same_number}
use Rattle.lobby_model.specs.State.{Client}
use Rattle.lobby_model.proofs.Delivered.{same_number_is, same_itself}
use Rattle.lobby_model.proofs.Splits.{lookup-values, set_value-values}
use Rattle.lobby_post.specs.Mail.{Mailbox}
use Rattle.lobby_post.specs.Dirty.{IsTrimmed, times, listing_of, listings_of}
use Rattle.lobby_post.proofs.Filtered.{filter-twice}

pub same_is_eq : (a b : ℕ) → nat_eq a b ≡ same_number a b
same_is_eq a b =
    elim (same_number a b) as (λ s. same_number a b ≡ s → nat_eq a b ≡ s) [
      | true ↦ λ t. eq-eqb a b (same_number_is a b t)
      | false ↦ λ t. elim (nat_eq a b) as (λ e. nat_eq a b ≡ e → e ≡ false) [
        | true ↦ λ e. sym (same_itself a) ∙ ap (same_number a) (eqb_yes (subst T (sym e) tt)) ∙ t
        | false ↦ λ e. refl
      ] refl
    ] refl

-- a slot written with its listing as it was
pub listings_kept : (c : ℕ) (x w : Mailbox) (es fs : ByNumber Mailbox) → fs ≡ set_value (is_at (nat_cmp c)) es w → Some x ≡ lookup (is_at (nat_cmp c)) es
    → w.client.home ≡ x.client.home → w.listed ≡ x.listed → listings_of fs ≡ listings_of es
listings_kept c x w es fs is found home listed =
    ap listings_of is ∙ set_value-values listing_of (is_at (nat_cmp c)) w es
    ∙ ap (set_value (is_at (nat_cmp c)) (listings_of es)) (λ i. record { home = home i; listed = listed i })
    ∙ set_value_same (is_at (nat_cmp c)) (listings_of es) (listing_of x) (lookup-values listing_of (is_at (nat_cmp c)) x es (sym found))

pub listings_same : (c : ℕ) (x w : Mailbox) (es fs : ByNumber Mailbox) → fs ≡ set_value (is_at (nat_cmp c)) es w → Some x ≡ lookup (is_at (nat_cmp c)) es
    → w.client ≡ x.client → w.listed ≡ x.listed → listings_of fs ≡ listings_of es
listings_same c x w es fs is found same listed = listings_kept c x w es fs is found (ap (λ (client : Client). client.home) same) listed

none_more : (c d n : ℕ) → same_number c d ≡ false → n ≡ (if same_number c d then 1 else 0) + n
none_more c d n other =
    let none : ◌≡◌ {A = ℕ} (if same_number c d then 1 else 0) 0 = ap (λ b. if b then 1 else 0) other in
    omega (arith, none)

-- numbers that do not pass a test are left out
module _ (p : ℕ → Bool) where
  apart : (c d : ℕ) → p c ≡ true → p d ≡ false → same_number c d ≡ false
  apart c d passes fails = elim (same_number c d) as (λ s. same_number c d ≡ s → s ≡ false) [
    | true ↦ λ t. sym passes ∙ ap p (same_number_is c d t) ∙ fails
    | false ↦ λ t. refl
  ] refl

  pub trimmed_same : (xs : List ℕ) → IsTrimmed p xs xs
  trimmed_same xs = record { kept = refl; counted = λ c passes. refl; fewer = λ c. omega arith }

  pub trimmed_first : (d : ℕ) (xs : List ℕ) → p d ≡ false → IsTrimmed p (d ∷ xs) xs
  trimmed_first d xs fails = record {
    kept = sym (ap (λ b. cond b (d ∷ filter p xs) (filter p xs)) fails);
    counted = λ c passes. none_more c d (times c xs) (apart c d passes fails);
    fewer = λ c. omega arith;
  }

  pub trimmed_twice : (xs ys zs : List ℕ) → IsTrimmed p xs ys → IsTrimmed p ys zs → IsTrimmed p xs zs
  trimmed_twice xs ys zs f g = record {
    kept = g.kept ∙ f.kept;
    counted = λ c passes. g.counted c passes ∙ f.counted c passes;
    fewer = λ c. let a = f.fewer c in let b = g.fewer c in omega (arith, a, b);
  }

  times_filter : (c : ℕ) → p c ≡ true → (xs : List ℕ) → times c (filter p xs) ≡ times c xs
  times_filter c passes [] = refl
  times_filter c passes (d ∷ xs) =
      elim (p d) as (λ b. p d ≡ b → times c (cond b (d ∷ filter p xs) (filter p xs)) ≡ (if same_number c d then 1 else 0) + times c xs) [
        | true ↦ λ t. ap (λ n. (if same_number c d then 1 else 0) + n) (times_filter c passes xs)
        | false ↦ λ t. times_filter c passes xs ∙ none_more c d (times c xs) (apart c d passes t)
      ] refl

  fewer_filter : (c : ℕ) (xs : List ℕ) → times c (filter p xs) ≤ times c xs
  fewer_filter c [] = omega arith
  fewer_filter c (d ∷ xs) =
      elim (p d) as (λ b. times c (cond b (d ∷ filter p xs) (filter p xs)) ≤ (if same_number c d then 1 else 0) + times c xs) [
        | true ↦ let h = fewer_filter c xs in omega (arith, h)
        | false ↦ let h = fewer_filter c xs in omega (arith, h)
      ]

  pub trimmed_filter : (xs : List ℕ) → IsTrimmed p xs (filter p xs)
  trimmed_filter xs = record { kept = filter-twice p xs; counted = λ c passes. times_filter c passes xs; fewer = λ c. fewer_filter c xs }

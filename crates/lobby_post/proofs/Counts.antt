-- How often numbers stand in lists, and filters by tests that differ at one number.
use Rattle.std.proofs.Common.{◌≡◌, ℕ, ◌+◌, List, [], ◌∷◌, ◌++◌, arith, refl, ap, Bool, true, false, cond, filter}
use Rattle.std.specs.Prelude.{not, ◌&&◌, if◌then◌else◌}
use Rattle.line_words.specs.Table.{same_number}
use Rattle.lobby_model.proofs.Delivered.{same_itself}
use Rattle.lobby_post.specs.Dirty.{times}
use Rattle.lobby_post.specs.Crowd.{all_but_client}

pub times-append : (c : ℕ) (xs ys : List ℕ) → times c (xs ++ ys) ≡ times c xs + times c ys
times-append c [] ys = omega arith
times-append c (x ∷ xs) ys = let h = times-append c xs ys in omega (arith, h)

pub times-first : (c : ℕ) (xs : List ℕ) → times c (c ∷ xs) ≡ 1 + times c xs
times-first c xs = ap (λ b. (if b then 1 else 0) + times c xs) (same_itself c)

pub times-past : (c d : ℕ) (xs : List ℕ) → same_number c d ≡ false → times c (d ∷ xs) ≡ times c xs
times-past c d xs other =
    let none : ◌≡◌ {A = ℕ} (if same_number c d then 1 else 0) 0 = ap (λ b. if b then 1 else 0) other in
    omega (arith, none)

-- one number more, at the end
pub times-last : (c : ℕ) (xs : List ℕ) → times c (xs ++ c ∷ []) ≡ times c xs + 1
times-last c xs =
    let a = times-append c xs (c ∷ []) in
    let b = times-first c [] in
    omega (arith, a, b)

pub times-other : (c d : ℕ) (xs : List ℕ) → same_number c d ≡ false → times c (xs ++ d ∷ []) ≡ times c xs
times-other c d xs other =
    let a = times-append c xs (d ∷ []) in
    let b = times-past c d [] other in
    omega (arith, a, b)

-- two tests that agree but at a number which does not stand in the list
pub filter_absent : (p q : ℕ → Bool) (c : ℕ) → ((d : ℕ) → same_number c d ≡ false → p d ≡ q d) → (xs : List ℕ) → times c xs ≡ 0
    → filter p xs ≡ filter q xs
filter_absent p q c same [] none = refl
filter_absent p q c same (d ∷ xs) none =
    elim (same_number c d) as (λ b. same_number c d ≡ b → (if b then 1 else 0) + times c xs ≡ 0
    → cond (p d) (d ∷ filter p xs) (filter p xs) ≡ cond (q d) (d ∷ filter q xs) (filter q xs)) [
      | true ↦ λ t n. absurd (omega (arith, n))
      | false ↦ λ t n.
          let rest : filter p xs ≡ filter q xs = filter_absent p q c same xs (omega (arith, n)) in
          λ i. cond (same d t i) (d ∷ rest i) (rest i)
    ] refl none

-- a test that one number fails besides
pub filter_but : (p : ℕ → Bool) (c : ℕ) (xs : List ℕ) → filter (λ d. not (same_number c d) && p d) xs ≡ all_but_client c (filter p xs)
filter_but p c [] = refl
filter_but p c (d ∷ xs) =
    let rest = filter_but p c xs in
    elim (same_number c d) as (λ s. same_number c d ≡ s → cond (not s && p d) (d ∷ filter (λ e. not (same_number c e) && p e) xs) (filter (λ e. not (same_number c e) && p e) xs)
    ≡ all_but_client c (cond (p d) (d ∷ filter p xs) (filter p xs))) [
      | true ↦ λ t. elim (p d) as (λ b. filter (λ e. not (same_number c e) && p e) xs ≡ all_but_client c (cond b (d ∷ filter p xs) (filter p xs))) [
        | true ↦ rw t rest
        | false ↦ rest
      ]
      | false ↦ λ t. elim (p d) as (λ b. cond b (d ∷ filter (λ e. not (same_number c e) && p e) xs) (filter (λ e. not (same_number c e) && p e) xs)
          ≡ all_but_client c (cond b (d ∷ filter p xs) (filter p xs))) [
            | true ↦ rw t (ap (λ ys. d ∷ ys) rest)
            | false ↦ rest
          ]
    ] refl

pub filter_none : (xs : List ℕ) → filter (λ d. false) xs ≡ []
filter_none [] = refl
filter_none (x ∷ xs) = filter_none xs

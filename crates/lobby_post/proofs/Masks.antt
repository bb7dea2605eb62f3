-- Masks of homes.
use Rattle.lobby_post.specs.Mask.{has_home}
use Rattle.std.proofs.Common.{◌≡◌, ℕ, zero, suc, ◌*◌, ◌^◌, ◌%◌, ◌<◌, refl, sym, ap, subst, ◌∙◌, true, false, T, bit_or, w64, arith}
use Rattle.std.specs.Prelude.{◌||◌, ◌==◌, max}
use Rattle.std.proofs.lemmas.Nat.Bits.{bit_at_or, bit_at_set_same, bit_at_set_other, bit_at-zero, bit_at-lt}
use Rattle.line_words.specs.Table.{same_number}
use Rattle.lobby_model.proofs.Delivered.{same_number_is, same_itself}

pub home_bit : (n home : ℕ) → n < 64 → has_home (1 * 2 ^ n % 18446744073709551616) home ≡ same_number n home
home_bit n home h =
    elim (same_number n home) as (λ b. same_number n home ≡ b → has_home (1 * 2 ^ n % 18446744073709551616) home ≡ b) [
      | true ↦ λ t. subst (λ k. has_home (1 * 2 ^ n % 18446744073709551616) k ≡ true) (same_number_is n home t)
          (ap (λ bit. bit == 1) (bit_at_set_same w64 0 n h))
      | false ↦ λ t. ap (λ bit. bit == 1) (bit_at_set_other w64 0 n h home
          (λ e. subst T (sym (ap (same_number n) e) ∙ t) (subst T (sym (same_itself n)) tt)) ∙ bit_at-zero home)
    ] refl

one_of_max : (x y : ℕ) → x < 2 → y < 2 → (max x y == 1) ≡ (x == 1 || y == 1)
one_of_max zero zero p q = refl
one_of_max zero (suc zero) p q = refl
one_of_max zero (suc (suc y)) p q = absurd (omega arith)
one_of_max (suc zero) zero p q = refl
one_of_max (suc zero) (suc zero) p q = refl
one_of_max (suc zero) (suc (suc y)) p q = absurd (omega arith)
one_of_max (suc (suc x)) y p q = absurd (omega arith)

pub has_home_or : (a b home : ℕ) → has_home (bit_or a b) home ≡ (has_home a home || has_home b home)
has_home_or a b home = ap (λ bit. bit == 1) (bit_at_or a b home) ∙ one_of_max _ _ (bit_at-lt a home) (bit_at-lt b home)

pub no_home : (home : ℕ) → has_home 0 home ≡ false
no_home home = ap (λ bit. bit == 1) (bit_at-zero home)

-- Cases on whether a number is that of client c.
use Rattle.std.proofs.Common.{◌≡◌, ◌≢◌, ℕ, refl, sym, ap, subst, ◌∙◌, true, false}
use Rattle.line_words.specs.Table.{same_number}
use Rattle.lobby_model.proofs.Delivered.{same_number_is, same_itself}

pub not_same : (q c : ℕ) → q ≢ c → same_number q c ≡ false
not_same q c ne = elim (same_number q c) as (λ b. same_number q c ≡ b → b ≡ false) [ true ↦ λ e. absurd (ne (same_number_is q c e)) | false ↦ λ e. refl ] refl

pub at_each : (P : ℕ → Type 0) (c : ℕ) → P c → ((q : ℕ) → q ≢ c → P q) → (q : ℕ) → P q
at_each P c here others q =
    elim (same_number q c) as (λ b. same_number q c ≡ b → P q) [
      | true ↦ λ e. subst P (sym (same_number_is q c e)) here
      | false ↦ λ e. others q (λ k. let no : true ≡ false = sym (ap (λ d. same_number d c) k ∙ same_itself c) ∙ e in absurd (cc))
    ] refl

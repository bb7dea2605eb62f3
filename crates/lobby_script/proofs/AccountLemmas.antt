-- A line writes one account alone.
use Rattle.std.proofs.Common.{◌≡◌, ◌≢◌, ℕ, ◌<◌, ◌^◌, Bool, true, false, List, Option, Some, None, Result, Ok, Err, inl, inr, refl, sym, ap, ◌∙◌, subst, arith, codes, decimal}
use Rattle.std.specs.Prelude.{◌↔◌, IfErr, IsSomeAnd, MatchOption, unwrap_or}
use Rattle.std.specs.Borrow.{Bor}
use Rattle.account_book.specs.Account.{Account}
use Rattle.account_book.specs.declared.error.AccountsError.{AccountsError}
use Rattle.account_book.specs.declared.error.AccountsError.TheVariants.{BadField, Memory}
use Rattle.line_words.specs.Bytes.{has_byte}
use Rattle.proxy_line.specs.Words.{PartedAt, LeadsWith}
use Rattle.lobby_script.specs.Accounts.{HasFields, IsRankAndCountry}
use Rattle.proxy_line.proofs.Parts.{parted_once, never_parted, lacks_digits}

-- the part before the first space, if there is one
pub none_parted : (separator : ℕ) (text front behind : List ℕ) → has_byte separator text ≡ false → PartedAt separator text front behind → ⊥
none_parted separator text front behind none parts = never_parted separator text front behind none parts.whole

pub same_parts : (separator : ℕ) (text f₁ b₁ f₂ b₂ : List ℕ) → PartedAt separator text f₁ b₁ → PartedAt separator text f₂ b₂ → (f₁ ≡ f₂) × (b₁ ≡ b₂)
same_parts separator text f₁ b₁ f₂ b₂ p q = parted_once separator f₁ f₂ p.first q.first (sym p.whole ∙ q.whole)

-- what is found, and what is not
pub no_some : {X : Type 0} (P : X → Type 0) (o : Option X) → o ≡ None → IsSomeAnd o P → ⊥
no_some P o e h = subst (λ o. IsSomeAnd o P) e h

pub the_some : {X : Type 0} (P : X → Type 0) (o : Option X) (x : X) → o ≡ Some x → IsSomeAnd o P → P x
the_some P o x e h = subst (λ o. IsSomeAnd o P) e h

-- a rank, with a country behind it or without one
pub digits_lack_space : (rank : ℕ) → rank < 2 ^ 8 → has_byte 32 (decimal rank) ≡ false
digits_lack_space rank small = lacks_digits 32 rank (omega arith) (omega (arith, small))

pub ends_with_country : (text digits behind : List ℕ) (rank : ℕ) (country : List ℕ) → PartedAt 32 text digits behind → IsRankAndCountry text rank country → (digits ≡ decimal rank) × (behind ≡ country)
ends_with_country text digits behind rank country parts (small, inl (whole, none)) =
    absurd (never_parted 32 (decimal rank) digits behind (digits_lack_space rank small) (sym whole ∙ parts.whole))
ends_with_country text digits behind rank country parts (small, inr whole) =
    parted_once 32 digits (decimal rank) parts.first (digits_lack_space rank small) (sym parts.whole ∙ whole)

pub ends_without_country : (text : List ℕ) (rank : ℕ) (country : List ℕ) → has_byte 32 text ≡ false → IsRankAndCountry text rank country → (text ≡ decimal rank) × (codes "??" ≡ country)
ends_without_country text rank country none (small, inl (whole, unknown)) = (whole, sym unknown)
ends_without_country text rank country none (small, inr whole) = absurd (never_parted 32 text (decimal rank) country none whole)

-- the parts, or all of the text and no country
pub country_parts : (text : List ℕ) (o : Option (Bor (List ℕ) × Bor (List ℕ))) (other p : Bor (List ℕ) × Bor (List ℕ)) (rank : ℕ) (country : List ℕ) → p ≡ unwrap_or o other
    → MatchOption o (has_byte 32 text ≡ false) (λ parts. PartedAt 32 text parts.0.now parts.1.now) → other.0.now ≡ text → other.1.now ≡ codes "??" → IsRankAndCountry text rank country
    → (p.0.now ≡ decimal rank) × (p.1.now ≡ country)
country_parts text None other p rank country is none first second ends =
    let both = ends_without_country text rank country none ends in
    (ap (λ (q : Bor (List ℕ) × Bor (List ℕ)). q.0.now) is ∙ first ∙ both.0, ap (λ (q : Bor (List ℕ) × Bor (List ℕ)). q.1.now) is ∙ second ∙ both.1)
country_parts text (Some q) other p rank country is parts first second ends =
    let both = ends_with_country text q.0.now q.1.now rank country parts ends in
    (ap (λ (q : Bor (List ℕ) × Bor (List ℕ)). q.0.now) is ∙ both.0, ap (λ (q : Bor (List ℕ) × Bor (List ℕ)). q.1.now) is ∙ both.1)

-- the fields that are found are those of the account
module _ (text name rest : List ℕ) (account : Account) (h : HasFields text account) (at : PartedAt 32 text name rest) where
  pub same_name : name ≡ account.name
  same_name = (same_parts 32 text name rest account.name h.behind_name at h.name).0

  after_name : PartedAt 32 rest account.password h.behind_password
  after_name = subst (λ l. PartedAt 32 l account.password h.behind_password) (sym (same_parts 32 text name rest account.name h.behind_name at h.name).1) h.password

  pub no_password : has_byte 32 rest ≡ false → ⊥
  no_password none = never_parted 32 rest account.password h.behind_password none after_name.whole

  module _ (password more : List ℕ) (next : PartedAt 32 rest password more) where
    pub same_password : password ≡ account.password
    same_password = (same_parts 32 rest password more account.password h.behind_password next after_name).0

    pub then_number : LeadsWith 32 more account.id h.behind_number
    then_number = subst (λ l. LeadsWith 32 l account.id h.behind_number) (sym (same_parts 32 rest password more account.password h.behind_password next after_name).1) h.number

-- an account is made where each field keeps its rule
abbrev TellsSound : Result Account AccountsError → Bool → Type 0
TellsSound r sound = (r ≡ Err (BadField 0)) ↔ (sound ≡ false)

pub made_is_sound : (r : Result Account AccountsError) (account : Account) (sound : Bool) → TellsSound r sound → r ≡ Ok account → sound ≡ true
made_is_sound r account sound tells is =
    elim sound as (λ b. TellsSound r b → b ≡ true) [ true ↦ λ t. refl | false ↦ λ t. absurd (let refused : r ≡ Err (BadField 0) = t.1 refl in cc) ] tells

pub refused_is_unsound : (r : Result Account AccountsError) (e : AccountsError) (place : ℕ) (sound : Bool) → IfErr r (λ e. e ≢ Memory → e ≡ BadField 0) → TellsSound r sound → r ≡ Err e → e ≡ BadField place → sound ≡ false
refused_is_unsound r e place sound only tells is bad =
    let other : e ≢ Memory = λ m. absurd (cc) in
    let one : e ≡ BadField 0 = subst (λ x. IfErr x (λ e. e ≢ Memory → e ≡ BadField 0)) is only other in
    tells.0 (is ∙ ap Err one)

-- All users but those of two names.
use Rattle.std.proofs.Common.{◌≡◌, ℕ, List, [], ◌∷◌, ◌++◌, refl, sym, ap, ◌∙◌, Bool, true, false}
use Rattle.std.specs.Prelude.{Option, Some, None, filter, not, ◌||◌, if◌then◌else◌, ◌&&◌, IfSome, is_some}
use Rattle.std.proofs.lemmas.List.Folds.{list_any-append}
use Rattle.std.specs.Ordering.{nat_cmp}
use Rattle.line_words.specs.Table.{ByName, ByNumber, at_name, is_among, same_name, same_number}
use Rattle.line_words.proofs.Once.{same_name_equiv}
use Rattle.std.specs.List.Sorted.{IsStrictlySortedBy}
use Rattle.lobby_model.specs.State.{Client, State, name_at}
use Rattle.lobby_model.specs.Outcome.{is_named, everyone_but}
use Rattle.lobby_model.proofs.Delivered.{same_number_is}
use Rattle.lobby_post.proofs.Sums.{apart_rising}
use Rattle.lobby_post.specs.Posted.{has_number, AreApart, Reaches}
use Rattle.lobby_battles.specs.declared.online_users.OnlineUser.{OnlineUser}
use Rattle.lobby_battles.specs.OnlineUsers.{Agree, IsListed, client_in}
use Rattle.lobby_maps.specs.Fit.{is_some_number, numbers_but}

-- numbers that are neither of two that there may be
pub none_of_two : (first second : Option ℕ) (these those : List ℕ) → ((c : ℕ) → is_some_number first c ≡ has_number these c)
    → ((c : ℕ) → is_some_number second c ≡ has_number those c) → (numbers : List ℕ)
    → filter (λ c. not (is_some_number first c || is_some_number second c)) numbers ≡ numbers_but (these ++ those) numbers
none_of_two first second these those one two numbers =
    (λ i. filter (λ c. not (one c i || two c i)) numbers)
    ∙ (λ i. filter (λ c. not (sym (list_any-append (same_number c) these those) i)) numbers)

-- numbers that pass a test
has_filter : (p : ℕ → Bool) (d : ℕ) (cs : List ℕ) → has_number (filter p cs) d ≡ (has_number cs d && p d)
has_filter p d [] = refl
has_filter p d (c ∷ cs) =
    elim (p c) as (λ b. p c ≡ b → has_number (if b then c ∷ filter p cs else filter p cs) d ≡ ((same_number d c || has_number cs d) && p d)) [
      | true ↦ λ t. elim (same_number d c) as (λ b. same_number d c ≡ b
          → (b || has_number (filter p cs) d) ≡ ((b || has_number cs d) && p d)) [
            | true ↦ λ u. sym (ap p (same_number_is d c u) ∙ t)
            | false ↦ λ u. has_filter p d cs
          ] refl
      | false ↦ λ t. elim (same_number d c) as (λ b. same_number d c ≡ b → has_number (filter p cs) d ≡ ((b || has_number cs d) && p d)) [
        | true ↦ λ u.
            let fails : p d ≡ false = ap p (same_number_is d c u) ∙ t in
            has_filter p d cs ∙ ap (λ b. has_number cs d && b) fails
            ∙ elim (has_number cs d) as (λ b. (b && false) ≡ false) [ true ↦ refl | false ↦ refl ] ∙ sym fails
        | false ↦ λ u. has_filter p d cs
      ] refl
    ] refl

apart_filter : (p : ℕ → Bool) (cs : List ℕ) → AreApart cs → AreApart (filter p cs)
apart_filter p [] apart = tt
apart_filter p (c ∷ cs) apart =
    elim (p c) as (λ b. AreApart (if b then c ∷ filter p cs else filter p cs)) [
      | true ↦ (has_filter p c cs ∙ ap (λ b. b && p c) apart.0, apart_filter p cs apart.1)
      | false ↦ apart_filter p cs apart.1
    ]

-- their clients
pub reaches_all_but : (s : State) (issuer : ℕ) (online : ByName OnlineUser) (numbers : List ℕ) (first second : List ℕ)
    → IsStrictlySortedBy nat_cmp numbers → IsListed numbers s.clients → Agree s.clients online
    → Reaches s issuer (numbers_but (client_in (at_name online first) ++ client_in (at_name online second)) numbers) (everyone_but (first ∷ second ∷ []))
reaches_all_but s issuer online numbers first second rising listed agree = record {
  once = apart_filter (λ c. not (has_number (client_in (at_name online first) ++ client_in (at_name online second)) c)) numbers
      (apart_rising numbers rising);
  exact = λ d.
      has_filter (λ c. not (has_number (client_in (at_name online first) ++ client_in (at_name online second)) c)) d numbers
      ∙ (λ i. listed d i && not (list_any-append (same_number d) (client_in (at_name online first)) (client_in (at_name online second)) i))
      ∙ (λ i. is_some (name_at s.clients d) && not (agree first d i || agree second d i))
      ∙ elim (name_at s.clients d) as (λ o. (is_some o && not (is_named (same_name first) o || is_named (same_name second) o))
      ≡ is_named (λ n. not (is_among n (first ∷ second ∷ []))) o) [
        | None ↦ refl
        | Some n ↦ (λ i. not (same_name_equiv.symm first n i || same_name_equiv.symm second n i))
            ∙ elim (same_name n second) as (λ b. not (same_name n first || b) ≡ not (same_name n first || (b || false))) [ true ↦ refl | false ↦ refl ]
      ];
}

-- where the numbers of a user's client are those of who bears its name, it is at that client alone
pub sole_of : (clients : ByNumber Client) (number : Option ℕ) (name : List ℕ)
    → ((d : ℕ) → is_some_number number d ≡ is_named (same_name name) (name_at clients d))
    → IfSome number (λ c. (d : ℕ) → same_number d c ≡ is_named (same_name name) (name_at clients d))
sole_of clients None name exact = tt
sole_of clients (Some c) name exact = exact

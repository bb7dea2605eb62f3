-- The lists of changed clients, and what an event makes of them.
use Rattle.std.proofs.Common.{◌≡◌, ℕ, ◌+◌, ◌≤◌, List, [], ◌∷◌, slice_index_or, refl, sym, ap, subst, ◌∙◌, Bool, true, false, cond, filter, arith}
use Rattle.std.specs.Prelude.{Option, Some, None, is_some, not, ◌&&◌, ◌||◌, if◌then◌else◌}
use Rattle.std.specs.Option.{option_map}
use Rattle.std.specs.Ordering.{nat_cmp}
use Rattle.std.specs.BTreeMap.{is_at}
use Rattle.std.specs.Map.{lookup}
use Rattle.std.proofs.lemmas.Map.Made.{lookup-map_values}
use Rattle.std.proofs.lemmas.Map.Views.{any-filter_same}
use Rattle.std.specs.Cmp.{nat_cmp_total}
use Rattle.line_words.specs.Table.{ByNumber, at_number, same_number}
use Rattle.line_words.proofs.Tables.{at-without}
use Rattle.lobby_model.specs.State.{Client}
use Rattle.lobby_model.proofs.Delivered.{same_number_is}
use Rattle.lobby_post.specs.Mail.{Mailbox, Line, parted, plain}
use Rattle.lobby_post.specs.Crowd.{Crowd, Known, all_but_client, for_homes, line_at, waits}
use Rattle.lobby_post.specs.Posted.{has_number}
use Rattle.lobby_post.specs.Dirty.{Listing, AreKnown, is_of, listing_of, listings_of, stands, times}
use Rattle.lobby_post.proofs.Crowds.{plain-is_some}
use Rattle.lobby_post.proofs.Homes.{at_home}
use Rattle.lobby_post.proofs.Counts.{filter_none}
use Rattle.lobby_maps.specs.Dirty.{lists_of, those_there}

-- the list of a worker
pub list_at : (clients : Crowd) (home : ℕ) → home ≤ 63 → slice_index_or (lists_of clients) home [] ≡ waits clients home
unfolding lists_of
list_at clients home within = at_home (waits clients) [] 64 home (omega (arith, within))

-- what relates who waits relates the lists
pub listed_as : (P : List ℕ → List ℕ → Type 0) (es fs : Crowd) (home : ℕ) → home ≤ 63 → P (waits es home) (waits fs home)
    → P (slice_index_or (lists_of es) home []) (slice_index_or (lists_of fs) home [])
listed_as P es fs home within holds =
    subst (λ old. P old (slice_index_or (lists_of fs) home [])) (sym (list_at es home within))
    (subst (λ new. P (waits es home) new) (sym (list_at fs home within)) holds)

-- clients whose listings and lines are as they were
module _ (es fs : Crowd) (listings : listings_of fs.slots ≡ listings_of es.slots) (lines : fs.lines ≡ es.lines) where
  pub waits_same : (home : ℕ) → waits fs home ≡ waits es home
  waits_same home = λ i. filter (stands (listings i) home) (line_at (lines i) home).waiting

  pub lists_same : lists_of fs ≡ lists_of es
  unfolding lists_of
  lists_same = λ i. for_homes 64 (λ home. filter (stands (listings i) home) (line_at (lines i) home).waiting)

  pub known_same : (last : ℕ) → Known es last → Known fs last
  known_same last known =
      subst (λ (m : ByNumber Listing). AreKnown m (line_at fs.lines) last) (sym listings)
      (subst (λ (ls : List Line). AreKnown (listings_of es.slots) (line_at ls) last) (sym lines) known)

-- filters
filter_passed : (p q : ℕ → Bool) → ((c : ℕ) → p c ≡ true → q c ≡ true) → (xs : List ℕ) → filter q (filter p xs) ≡ filter p xs
filter_passed p q passes [] = refl
filter_passed p q passes (c ∷ xs) =
    elim (p c) as (λ b. p c ≡ b → filter q (cond b (c ∷ filter p xs) (filter p xs)) ≡ cond b (c ∷ filter p xs) (filter p xs)) [
      | true ↦ λ t. ap (λ b. cond b (c ∷ filter q (filter p xs)) (filter q (filter p xs))) (passes c t) ∙ ap (λ ys. c ∷ ys) (filter_passed p q passes xs)
      | false ↦ λ t. filter_passed p q passes xs
    ] refl

pub filter_alike : (p q : ℕ → Bool) → ((c : ℕ) → p c ≡ q c) → (xs : List ℕ) → filter p xs ≡ filter q xs
filter_alike p q same [] = refl
filter_alike p q same (c ∷ xs) = λ i. cond (same c i) (c ∷ filter_alike p q same xs i) (filter_alike p q same xs i)

pub filter_both : (p q : ℕ → Bool) (xs : List ℕ) → filter (λ c. p c && q c) xs ≡ filter p (filter q xs)
filter_both p q [] = refl
filter_both p q (c ∷ xs) =
    elim (q c) as (λ b. cond (p c && b) (c ∷ filter (λ d. p d && q d) xs) (filter (λ d. p d && q d) xs)
    ≡ filter p (cond b (c ∷ filter q xs) (filter q xs))) [
      | true ↦ elim (p c) as (λ a. cond (a && true) (c ∷ filter (λ d. p d && q d) xs) (filter (λ d. p d && q d) xs)
          ≡ cond a (c ∷ filter p (filter q xs)) (filter p (filter q xs))) [
            | true ↦ ap (λ ys. c ∷ ys) (filter_both p q xs)
            | false ↦ filter_both p q xs
          ]
      | false ↦ elim (p c) as (λ a. cond (a && false) (c ∷ filter (λ d. p d && q d) xs) (filter (λ d. p d && q d) xs)
          ≡ filter p (filter q xs)) [ true ↦ filter_both p q xs | false ↦ filter_both p q xs ]
    ]

-- whether a number stands in a list
pub has_kept : (p : ℕ → Bool) (c : ℕ) (xs : List ℕ) → p c ≡ true → has_number (filter p xs) c ≡ has_number xs c
has_kept p c xs passes = any-filter_same (same_number c) p true (λ k t. ap p (sym (same_number_is c k t)) ∙ passes) xs

pub has_times : (b : Bool) (c : ℕ) (xs : List ℕ) → times c xs ≡ (if b then 1 else 0) → has_number xs c ≡ b
has_times true c [] is = absurd (omega (arith, is))
has_times false c [] is = refl
has_times b c (d ∷ xs) is =
    elim (same_number c d) as (λ s. (if s then 1 else 0) + times c xs ≡ (if b then 1 else 0) → (s || has_number xs c) ≡ b) [
      | true ↦ λ e. elim b as (λ v. 1 + times c xs ≡ (if v then 1 else 0) → true ≡ v) [
        | true ↦ λ f. refl
        | false ↦ λ f. absurd (omega (arith, f))
      ] e
      | false ↦ λ e. has_times b c xs (omega (arith, e))
    ] is

-- those who wait are there
module _ (clients : Crowd) where
  listing_at : (c : ℕ) → lookup (is_at (nat_cmp c)) (listings_of clients.slots) ≡ option_map listing_of (lookup (is_at (nat_cmp c)) clients.slots)
  listing_at c = lookup-map_values listing_of (is_at (nat_cmp c)) clients.slots

  stands_there : (home c : ℕ) → stands (listings_of clients.slots) home c ≡ true → is_some (at_number (plain clients.slots) c) ≡ true
  stands_there home c passes =
      sym (plain-is_some c clients.slots)
      ∙ elim (lookup (is_at (nat_cmp c)) clients.slots) as (λ o. is_of home (option_map listing_of o) ≡ true → is_some o ≡ true) [
        | None ↦ λ e. e
        | Some held ↦ λ e. refl
      ] (ap (is_of home) (sym (listing_at c)) ∙ passes)

  pub waits_there : (home : ℕ) → those_there (plain clients.slots) (waits clients home) ≡ waits clients home
  waits_there home = filter_passed _ _ (stands_there home) (line_at clients.lines home).waiting

  -- whether a client that is there waits is what its listing says
  pub waits_placed : (last home c : ℕ) (held : Mailbox) → Known clients last → lookup (is_at (nat_cmp c)) clients.slots ≡ Some held
      → same_number held.client.home home ≡ true → has_number (waits clients home) c ≡ held.listed
  waits_placed last home c held known found here =
      let listing : lookup (is_at (nat_cmp c)) (listings_of clients.slots) ≡ Some (listing_of held) = listing_at c ∙ ap (option_map listing_of) found in
      has_kept (stands (listings_of clients.slots) home) c (line_at clients.lines home).waiting (ap (is_of home) listing ∙ here)
      ∙ ap (λ k. has_number (line_at clients.lines k).waiting c) (sym (same_number_is held.client.home home here))
      ∙ has_times held.listed c (line_at clients.lines held.client.home).waiting (known.placed c (listing_of held) listing)

  -- of those who waited, those wait that are still there
  pub left_same : (home : ℕ) (old : List ℕ) → waits clients home ≡ old → waits clients home ≡ those_there (plain clients.slots) old
  left_same home old same = sym (waits_there home) ∙ ap (those_there (plain clients.slots)) same

  pub left_parted : (was : ByNumber Client) (client : ℕ) (stays : Bool) (home : ℕ) (old : List ℕ) → plain clients.slots ≡ parted was client stays
      → waits clients home ≡ (if stays then old else all_but_client client old) → waits clients home ≡ those_there (plain clients.slots) old
  left_parted was client true home old is left = left_same home old left
  left_parted was client false home old is left =
      let gone : (c : ℕ) → (is_some (at_number (plain clients.slots) c) && not (same_number client c)) ≡ is_some (at_number (plain clients.slots) c) = λ c.
      ap (λ (m : ByNumber Client). is_some (at_number m c) && not (same_number client c)) is
      ∙ ap (λ (o : Option Client). is_some o && not (same_number client c)) (at-without nat_cmp nat_cmp_total was client c)
      ∙ elim (same_number client c) as (λ b. (is_some (cond (not b) (at_number was c) None) && not b) ≡ is_some (cond (not b) (at_number was c) None)) [
        | true ↦ refl
        | false ↦ elim (is_some (at_number was c)) as (λ b. (b && true) ≡ b) [ true ↦ refl | false ↦ refl ]
      ]
      ∙ ap (λ (o : Option Client). is_some o) (sym (at-without nat_cmp nat_cmp_total was client c))
      ∙ ap (λ (m : ByNumber Client). is_some (at_number m c)) (sym is) in
      left_same home (all_but_client client old) left
      ∙ sym (filter_both (λ c. is_some (at_number (plain clients.slots) c)) (λ c. not (same_number client c)) old)
      ∙ filter_alike _ _ gone old

  pub none_wait : (home : ℕ) → clients.slots ≡ [] → waits clients home ≡ []
  none_wait home nobody = ap (λ (m : ByNumber Mailbox). filter (stands (listings_of m) home) (line_at clients.lines home).waiting) nobody
      ∙ filter_none (line_at clients.lines home).waiting

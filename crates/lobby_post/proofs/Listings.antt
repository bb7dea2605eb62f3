-- The listings of all clients, before and after one of them is written or removed, and a look-up among them.
use Rattle.std.proofs.Common.{◌≡◌, ℕ, List, ◌++◌, [], refl, sym, ap, ◌∙◌, true, false, cond}
use Rattle.std.specs.Prelude.{Some, if◌then◌else◌, None, not, ◌&&◌}
use Rattle.std.specs.Option.{option_map}
use Rattle.std.specs.Ordering.{nat_cmp}
use Rattle.std.specs.BTreeMap.{is_at}
use Rattle.std.specs.Map.{lookup}
use Rattle.std.proofs.lemmas.Map.Made.{lookup-map_values}
use Rattle.line_words.specs.Table.{ByNumber, same_number}
use Rattle.lobby_model.proofs.Delivered.{same_number_is}
use Rattle.lobby_model.specs.State.{Client, is_live}
use Rattle.lobby_model.specs.Next.{with_batch, has_room_for}
use Rattle.lobby_post.specs.Mail.{Mailbox}
use Rattle.lobby_post.specs.Dirty.{Listing, is_of, listing_of, listings_of, stands}
use Rattle.lobby_post.proofs.Crowds.{IsWritten}

-- what look-ups say of listings where one was put at c
abbrev pub IsPut : ℕ → Listing → ByNumber Listing → ByNumber Listing → Type 0
IsPut c listing old new = (q : ℕ) → lookup (is_at (nat_cmp q)) new ≡ cond (same_number c q) (Some listing) (lookup (is_at (nat_cmp q)) old)

pub listings_put : (c : ℕ) (w : Mailbox) (es fs : ByNumber Mailbox) → IsWritten c w es fs → IsPut c (listing_of w) (listings_of es) (listings_of fs)
listings_put c w es fs written = λ q.
    lookup-map_values listing_of (is_at (nat_cmp q)) fs ∙ ap (option_map listing_of) (written q)
    ∙ elim (same_number c q) as (λ b. option_map listing_of (cond b (Some w) (lookup (is_at (nat_cmp q)) es))
    ≡ cond b (Some (listing_of w)) (lookup (is_at (nat_cmp q)) (listings_of es))) [
      | true ↦ refl
      | false ↦ sym (lookup-map_values listing_of (is_at (nat_cmp q)) es)
    ]

-- bytes that are put leave the worker as it was
pub with_batch-home : (limit : ℕ) (bytes : List ℕ) (client : Client) → (with_batch limit bytes client).home ≡ client.home
with_batch-home limit bytes client =
    elim (is_live client) as (λ b.
    (if b then (if has_room_for limit client bytes then record client { unread = client.unread ++ bytes } else record client { cut = true; unread = [] }) else client).home ≡ client.home) [
      | true ↦ elim (has_room_for limit client bytes) as (λ b.
          (if b then record client { unread = client.unread ++ bytes } else record client { cut = true; unread = [] }).home ≡ client.home) [ true ↦ refl | false ↦ refl ]
      | false ↦ refl
    ]

module _ (c : ℕ) (old new : ByNumber Listing) (h : ℕ) where
  pub stands_put : (listing : Listing) → IsPut c listing old new → (q : ℕ) → stands new h q ≡ cond (same_number c q) (same_number listing.home h) (stands old h q)
  stands_put listing put q =
      ap (is_of h) (put q)
      ∙ elim (same_number c q) as (λ b. is_of h (cond b (Some listing) (lookup (is_at (nat_cmp q)) old))
      ≡ cond b (same_number listing.home h) (is_of h (lookup (is_at (nat_cmp q)) old))) [ true ↦ refl | false ↦ refl ]

  -- a listing put in place of one of the same worker
  pub stands_same : (listing put : Listing) → lookup (is_at (nat_cmp c)) old ≡ Some listing → put.home ≡ listing.home → IsPut c put old new
      → (q : ℕ) → stands new h q ≡ stands old h q
  stands_same listing put found same is q =
      stands_put put is q
      ∙ elim (same_number c q) as (λ b. same_number c q ≡ b → cond b (same_number put.home h) (stands old h q) ≡ stands old h q) [
        | true ↦ λ t. ap (λ k. same_number k h) same ∙ ap (is_of h) (sym found) ∙ ap (stands old h) (same_number_is c q t)
        | false ↦ λ t. refl
      ] refl

-- what look-ups say of listings where the one at c was taken
abbrev pub IsTaken : ℕ → ByNumber Listing → ByNumber Listing → Type 0
IsTaken c old new = (q : ℕ) → lookup (is_at (nat_cmp q)) new ≡ cond (same_number c q) None (lookup (is_at (nat_cmp q)) old)

pub listings_taken : (c : ℕ) (es fs : ByNumber Mailbox)
    → ((q : ℕ) → lookup (is_at (nat_cmp q)) fs ≡ cond (is_at (nat_cmp c) q) None (lookup (is_at (nat_cmp q)) es))
    → IsTaken c (listings_of es) (listings_of fs)
listings_taken c es fs removed = λ q.
    lookup-map_values listing_of (is_at (nat_cmp q)) fs ∙ ap (option_map listing_of) (removed q)
    ∙ elim (same_number c q) as (λ b. option_map listing_of (cond b None (lookup (is_at (nat_cmp q)) es))
    ≡ cond b None (lookup (is_at (nat_cmp q)) (listings_of es))) [
      | true ↦ refl
      | false ↦ sym (lookup-map_values listing_of (is_at (nat_cmp q)) es)
    ]

-- a look-up among the slots, by one among the listings
pub unmarked : (c : ℕ) (es : ByNumber Mailbox) → lookup (is_at (nat_cmp c)) (listings_of es) ≡ None → lookup (is_at (nat_cmp c)) es ≡ None
unmarked c es none =
    elim (lookup (is_at (nat_cmp c)) es) as (λ o. option_map listing_of o ≡ None → o ≡ None) [
      | None ↦ λ n. refl
      | Some x ↦ λ n. absurd (cc)
    ] (sym (lookup-map_values listing_of (is_at (nat_cmp c)) es) ∙ none)

pub placed : (c : ℕ) (es : ByNumber Mailbox) (x : Mailbox) → lookup (is_at (nat_cmp c)) es ≡ Some x → lookup (is_at (nat_cmp c)) (listings_of es) ≡ Some (listing_of x)
placed c es x found = lookup-map_values listing_of (is_at (nat_cmp c)) es ∙ ap (option_map listing_of) found

-- the slot of a client that is there and this worker's
pub stands_slot : (home c : ℕ) (es : ByNumber Mailbox) → stands (listings_of es) home c ≡ true → (x : Mailbox) × (lookup (is_at (nat_cmp c)) es ≡ Some x)
stands_slot home c es passes =
    elim (lookup (is_at (nat_cmp c)) es) as (λ o. is_of home (option_map listing_of o) ≡ true → (x : Mailbox) × (o ≡ Some x)) [
      | None ↦ λ t. absurd (cc)
      | Some x ↦ λ t. (x, refl)
    ] (sym (ap (is_of home) (lookup-map_values listing_of (is_at (nat_cmp c)) es)) ∙ passes)

module _ (c : ℕ) (old new : ByNumber Listing) (h : ℕ) where
  pub stands_taken : IsTaken c old new → (q : ℕ) → stands new h q ≡ (not (same_number c q) && stands old h q)
  stands_taken taken q =
      ap (is_of h) (taken q)
      ∙ elim (same_number c q) as (λ b. is_of h (cond b None (lookup (is_at (nat_cmp q)) old))
      ≡ (not b && is_of h (lookup (is_at (nat_cmp q)) old))) [ true ↦ refl | false ↦ refl ]

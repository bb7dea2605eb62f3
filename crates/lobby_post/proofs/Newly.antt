-- What a round of delivery makes of the lists of changed clients.
use Rattle.std.proofs.Common.{◌≡◌, ℕ, ◌+◌, ◌-◌, ◌≤◌, List, [], ◌∷◌, ◌++◌, refl, sym, ap, subst, ◌∙◌, Bool, true, false, not, cond, arith}
use Rattle.std.specs.Prelude.{Option, Some, None, ◌&&◌, ◌||◌, nat_le, if◌then◌else◌}
use Rattle.std.specs.Ordering.{nat_cmp}
use Rattle.std.specs.List.Sorted.{IsPermutation}
use Rattle.std.specs.List.{sum_by}
use Rattle.std.specs.BTreeMap.{is_at}
use Rattle.std.specs.Map.{lookup}
use Rattle.std.proofs.lemmas.Bool.{le-leb}
use Rattle.std.proofs.lemmas.List.Sorted.{sum_by-IsPermutation}
use Rattle.std.proofs.lemmas.List.Sums.{sum_by-cons}
use Rattle.line_words.specs.Table.{ByNumber, same_number}
use Rattle.lobby_model.proofs.Delivered.{same_number_is}
use Rattle.lobby_model.proofs.Splits.{same_either_way}
use Rattle.lobby_model.specs.Touched.{is_touched}
use Rattle.lobby_post.specs.Mail.{Mailbox, Line}
use Rattle.lobby_post.specs.Dirty.{AllListings, Listing, news, news_of, pushed, times}
use Rattle.lobby_post.proofs.Counts.{times-append}
use Rattle.lobby_post.proofs.Listings.{IsPut}
use Rattle.lobby_post.proofs.Parcels.{other_piece}

-- how often a number stands in a list that is ordered otherwise
times_sum : (c : ℕ) (xs : List ℕ) → times c xs ≡ sum_by (λ d. if same_number c d then 1 else 0) xs
times_sum c [] = refl
times_sum c (d ∷ xs) =
    let h = times_sum c xs in
    let k = sum_by-cons (λ d. if same_number c d then 1 else 0) d xs in
    omega (arith, h, k)

pub times_ordered : (c : ℕ) (xs ys : List ℕ) → IsPermutation xs ys → times c ys ≡ times c xs
times_ordered c xs ys same = times_sum c ys ∙ sum_by-IsPermutation _ xs ys same ∙ sym (times_sum c xs)

-- what holds of each listing, where one was put in place of another
pub listings_next : (P Q : ℕ → Listing → Type 0) (c : ℕ) (old new : Listing) (m n : ByNumber Listing) → lookup (is_at (nat_cmp c)) m ≡ Some old → IsPut c new m n
    → ((q : ℕ) (listing : Listing) → same_number q c ≡ false → P q listing → Q q listing) → (P c old → Q c new) → AllListings P m → AllListings Q n
listings_next P Q c old new m n found put others own all = λ q listing f.
    elim (same_number c q) as (λ b. same_number c q ≡ b → cond b (Some new) (lookup (is_at (nat_cmp q)) m) ≡ Some listing → Q q listing) [
      | true ↦ λ t g.
          let is : new ≡ listing = cc in
          subst (λ k. Q k listing) (same_number_is c q t) (subst (λ (k : Listing). Q c k) is (own (all c old found)))
      | false ↦ λ t g. others q listing (same_either_way q c ∙ t) (all q listing g)
    ] refl (sym (put q) ∙ f)

-- One piece put is counted once: now, or with the rest
pub once : (s l t u r w : Bool) → ((s && t) || (u && r)) ≡ (s && w)
    → (if s && (not l && t) then 1 else 0) + (if u && (not (l || t) && r) then 1 else 0) ≡ (if s && (not l && w) then 1 else 0)
once true true t true r w e = refl
once true true t false r w e = refl
once false true t true r w e = refl
once false true t false r w e = refl
once true false true true r w e = ap (λ b. if b then 1 else 0) e
once true false true false r w e = ap (λ b. if b then 1 else 0) e
once true false false true true w e = ap (λ b. if b then 1 else 0) e
once true false false true false w e = ap (λ b. if b then 1 else 0) e
once true false false false r w e = ap (λ b. if b then 1 else 0) e
once false false true true r w e = refl
once false false true false r w e = refl
once false false false true true w e = ap (λ b. if b then 1 else 0) e
once false false false true false w e = refl
once false false false false r w e = refl

-- a client that is listed is idle no more
pub less_idle : (s l t : Bool) → (if s && not l then 1 else 0) ≡ (if s && not (l || t) then 1 else 0) + (if s && (not l && t) then 1 else 0)
less_idle true true t = refl
less_idle true false true = refl
less_idle true false false = refl
less_idle false true t = refl
less_idle false false true = refl
less_idle false false false = refl

pub more_listed : (l t : Bool) → (if l || t then 1 else 0) ≡ (if l then 1 else 0) + (if not l && t then 1 else 0)
more_listed true t = refl
more_listed false true = refl
more_listed false false = refl

pub never_both : (s b : Bool) → b ≡ false → ◌≡◌ {A = ℕ} (if b && s then 1 else 0) 0
never_both s b e = ap {B = ℕ} (λ b. if b && s then 1 else 0) e

pub no_news : (s l v : Bool) → ◌≡◌ {A = ℕ} (if s && (not l && (v && false)) then 1 else 0) 0
no_news true true v = refl
no_news true false true = refl
no_news true false false = refl
no_news false l v = refl

-- a line to which a client is pushed, or not
pub record IsNext (fresh_now : Bool) (c : ℕ) (old new : Line) : Type 0 where
  pub waiting : new.waiting ≡ old.waiting
  pub fresh : (q : ℕ) → times q new.fresh ≡ times q old.fresh + (if same_number q c && fresh_now then 1 else 0)
  pub idle : new.idle + (if fresh_now then 1 else 0) ≡ old.idle

and_never : (b : Bool) → ◌≡◌ {A = ℕ} (if b && false then 1 else 0) 0
and_never true = refl
and_never false = refl

and_always : (b : Bool) → ◌≡◌ {A = ℕ} (if b && true then 1 else 0) (if b then 1 else 0)
and_always true = refl
and_always false = refl

pub next_line : (fresh_now : Bool) (c : ℕ) (old : Line) → (fresh_now ≡ true → 1 ≤ old.idle) → IsNext fresh_now c old (if fresh_now then pushed c old else old)
next_line true c old room =
    let more : 1 ≤ old.idle = room refl in
    let open_now : nat_le 1 old.idle ≡ true = le-leb 1 old.idle more in
    subst (IsNext true c old) (ap (λ b. if b then record old { fresh = old.fresh ++ c ∷ []; idle = old.idle - 1 } else old) (sym open_now)) (record {
      waiting = refl;
      fresh = λ q. let a = times-append q old.fresh (c ∷ []) in let b = and_always (same_number q c) in omega (arith, a, b);
      idle = omega (arith, more);
    })
next_line false c old room = record {
  waiting = refl;
  fresh = λ q. let b = and_never (same_number q c) in omega (arith, b);
  idle = omega arith;
}

-- a piece for another client leaves the news of this one
module _ (c : ℕ) (bytes : List ℕ) (rest : ByNumber (List ℕ)) where
  pub news_other : (home q : ℕ) → same_number q c ≡ false → (o : Option Mailbox) → news_of rest home q o ≡ news_of ((c, bytes) ∷ rest) home q o
  news_other home q e None = refl
  news_other home q e (Some held) =
      ap (λ b. if same_number held.client.home home && (not held.listed && is_touched held.limit b held.client) then 1 else 0) (other_piece c bytes rest q e)

  pub news_past : (es : ByNumber Mailbox) → lookup (is_at (nat_cmp c)) es ≡ None → (home q : ℕ) → news rest es home q ≡ news ((c, bytes) ∷ rest) es home q
  news_past es none home q =
      elim (same_number q c) as (λ b. same_number q c ≡ b → news rest es home q ≡ news ((c, bytes) ∷ rest) es home q) [
        | true ↦ λ t. subst (λ k. news rest es home k ≡ news ((c, bytes) ∷ rest) es home k) (sym (same_number_is q c t))
            (ap (news_of rest home c) none ∙ sym (ap (news_of ((c, bytes) ∷ rest) home c) none))
        | false ↦ λ t. news_other home q t (lookup (is_at (nat_cmp q)) es)
      ] refl

-- Delivery under way: those that it has touched stand apart, and the others are still to come.
use Rattle.std.proofs.Common.{◌≡◌, ℕ, zero, suc, ◌+◌, ◌<◌, ◌≤◌, List, [], ◌∷◌, ◌++◌, refl, sym, ap, subst, ◌∙◌, Bool, true, false, not, cond, arith}
use Rattle.std.specs.Prelude.{Some, None, ◌&&◌, ◌||◌, if◌then◌else◌}
use Rattle.std.specs.Ordering.{nat_cmp}
use Rattle.std.specs.BTreeMap.{is_at}
use Rattle.std.specs.Map.{lookup, set_value}
use Rattle.std.proofs.lemmas.Bool.{and_parts}
use Rattle.line_words.specs.Table.{ByNumber, same_number}
use Rattle.lobby_model.specs.State.{is_live}
use Rattle.lobby_model.proofs.Delivered.{same_number_is, same_itself}
use Rattle.lobby_model.proofs.Splits.{same_either_way, lookup-values}
use Rattle.lobby_model.specs.Touched.{is_touched}
use Rattle.lobby_model.proofs.Quiet.{touched_is}
use Rattle.lobby_post.specs.Mail.{Mailbox, Line, PutsFirst, bytes_for}
use Rattle.lobby_post.specs.Dirty.{AllListings, AreKnown, IsNewly, IsSettled, idle_of, listing_of, listings_of, news, news_of, pushed, stands, times}
use Rattle.lobby_post.proofs.Counts.{times-append}
use Rattle.lobby_post.proofs.Crowds.{IsWritten, written_through}
use Rattle.lobby_post.proofs.Idle.{idle_one, idle_written}
use Rattle.lobby_post.proofs.Listings.{IsPut, listings_put, stands_same}
use Rattle.lobby_post.proofs.Parcels.{own_piece, touched_alike, wake_first}
use Rattle.lobby_post.proofs.Newly.{IsNext, less_idle, listings_next, more_listed, never_both, news_other, news_past, next_line, no_news, once, times_ordered}

-- what holds between two pieces: all that are told, and those that are left
pub record IsUnderway (whole rest : ByNumber (List ℕ)) (first slots : ByNumber Mailbox) (before lines : ℕ → Line) (last : ℕ) : Type 0 where
  pub homes : AllListings (λ c listing. listing.home < 64) (listings_of slots)
  pub placed : AllListings (λ c listing. times c (lines listing.home).waiting + times c (lines listing.home).fresh ≡ (if listing.listed then 1 else 0)) (listings_of slots)
  pub counted : (home : ℕ) → home < 64 → (lines home).idle ≡ idle_of home (listings_of slots)
  pub waiting : (home : ℕ) → home < 64 → (lines home).waiting ≡ (before home).waiting
  pub exact : (home c : ℕ) → home < 64 → times c (lines home).fresh + news rest slots home c ≡ news whole first home c
  pub numbered : AllListings (λ c listing. c ≤ last) (listings_of slots)

-- before the first piece
pub underway_first : (whole : ByNumber (List ℕ)) (first : ByNumber Mailbox) (before : ℕ → Line) (last : ℕ) → AreKnown (listings_of first) before last
    → IsUnderway whole whole first first before before last
underway_first whole first before last known = record {
  homes = known.homes;
  placed = λ c listing found.
      let none = ap (times c) (known.settled listing.home (known.homes c listing found)) in
      let one = known.placed c listing found in
      omega (arith, none, one);
  counted = known.counted;
  waiting = λ home small. refl;
  exact = λ home c small. let none = ap (times c) (known.settled home small) in omega (arith, none);
  numbered = known.numbered;
}

-- one piece put to its client
module _ (c : ℕ) (bytes : List ℕ) (x w : Mailbox) (es : ByNumber Mailbox) (found : Some x ≡ lookup (is_at (nat_cmp c)) es)
    (made : PutsFirst x.limit x.due.bytes bytes x.client w.client) (listed : w.listed ≡ (x.listed || is_touched x.limit bytes x.client)) where
  abbrev es_next : ByNumber Mailbox
  es_next = set_value (is_at (nat_cmp c)) es w

  abbrev now_fresh : ℕ → Bool
  now_fresh home = same_number x.client.home home && (not x.listed && is_touched x.limit bytes x.client)

  same_home : w.client.home ≡ x.client.home
  same_home = made.home

  listing_found : lookup (is_at (nat_cmp c)) (listings_of es) ≡ Some (listing_of x)
  listing_found = lookup-values listing_of (is_at (nat_cmp c)) x es (sym found)

  written : IsWritten c w es es_next
  written = written_through c x w es found

  put_listing : IsPut c (listing_of w) (listings_of es) (listings_of es_next)
  put_listing = listings_put c w es es_next written

  -- each client stays at its worker
  pub stands_next : (home q : ℕ) → stands (listings_of es_next) home q ≡ stands (listings_of es) home q
  stands_next home q = stands_same c (listings_of es) (listings_of es_next) home (listing_of x) (listing_of w) listing_found same_home put_listing q

  module _ (rest : ByNumber (List ℕ)) where
    -- the news of the piece's own client
    news_own : (home : ℕ) → (if now_fresh home then 1 else 0) + news_of rest home c (Some w) ≡ news_of ((c, bytes) ∷ rest) home c (Some x)
    news_own home =
        let both = wake_first x.limit x.due.bytes home bytes (bytes_for rest c) x.client w.client made in
        (λ i. (if now_fresh home then 1 else 0)
        + (if same_number w.client.home home && (not (listed i) && touched_alike w.limit x.limit (bytes_for rest c) w.client i) then 1 else 0))
        ∙ once (same_number x.client.home home) x.listed (is_touched x.limit bytes x.client) (same_number w.client.home home)
        (is_touched x.limit (bytes_for rest c) w.client) (is_touched x.limit (bytes ++ bytes_for rest c) x.client) both
        ∙ ap (λ b. if same_number x.client.home home && (not x.listed && is_touched x.limit b x.client) then 1 else 0) (sym (own_piece c bytes rest))

    news_next : (home q : ℕ) → (if same_number q c && now_fresh home then 1 else 0) + news rest es_next home q ≡ news ((c, bytes) ∷ rest) es home q
    news_next home q =
        elim (same_number c q) as (λ b. same_number c q ≡ b → (if same_number q c && now_fresh home then 1 else 0) + news rest es_next home q
        ≡ news ((c, bytes) ∷ rest) es home q) [
          | true ↦ λ t. subst (λ k. (if same_number k c && now_fresh home then 1 else 0) + news rest es_next home k ≡ news ((c, bytes) ∷ rest) es home k)
              (same_number_is c q t)
              ((λ i. (if same_itself c i && now_fresh home then 1 else 0)
              + news_of rest home c ((written c ∙ ap (λ b. cond b (Some w) (lookup (is_at (nat_cmp c)) es)) (same_itself c)) i))
              ∙ news_own home ∙ ap (news_of ((c, bytes) ∷ rest) home c) found)
          | false ↦ λ t.
              let apart : same_number q c ≡ false = same_either_way q c ∙ t in
              let none = never_both (now_fresh home) (same_number q c) apart in
              let same = ap (news_of rest home q) (written q ∙ ap (λ b. cond b (Some w) (lookup (is_at (nat_cmp q)) es)) t)
              ∙ news_other c bytes rest home q apart (lookup (is_at (nat_cmp q)) es) in
              omega (arith, none, same)
        ] refl

    module _ (whole : ByNumber (List ℕ)) (first : ByNumber Mailbox) (before lines lines_next : ℕ → Line) (last : ℕ)
        (put : (h : ℕ) → lines_next h ≡ (if now_fresh h then pushed c (lines h) else lines h))
        (now : IsUnderway whole ((c, bytes) ∷ rest) first es before lines last) where
      idle_next : (home : ℕ) → idle_of home (listings_of es_next) + (if now_fresh home then 1 else 0) ≡ idle_of home (listings_of es)
      idle_next home =
          let both = idle_written home c es es_next x w refl (sym found) in
          let own : idle_one home w ≡ (if same_number x.client.home home && not (x.listed || is_touched x.limit bytes x.client) then 1 else 0) =
          λ i. if same_number (same_home i) home && not (listed i) then 1 else 0 in
          let less = less_idle (same_number x.client.home home) x.listed (is_touched x.limit bytes x.client) in
          omega (arith, both, own, less)

      small_home : x.client.home < 64
      small_home = now.homes c (listing_of x) listing_found

      has_idle : (home : ℕ) → now_fresh home ≡ true → 1 ≤ (lines home).idle
      has_idle home t =
          let same : x.client.home ≡ home = same_number_is x.client.home home (and_parts (same_number x.client.home home) _ t).0 in
          let small : home < 64 = subst (λ h. h < 64) same small_home in
          let more = idle_next home in
          let one : ◌≡◌ {A = ℕ} (if now_fresh home then 1 else 0) 1 = ap (λ b. if b then 1 else 0) t in
          let all = now.counted home small in
          omega (arith, more, one, all)

      next : (home : ℕ) → IsNext (now_fresh home) c (lines home) (lines_next home)
      next home = subst (IsNext (now_fresh home) c (lines home)) (sym (put home)) (next_line (now_fresh home) c (lines home) (has_idle home))

      pub underway_next : IsUnderway whole rest first es_next before lines_next last
      underway_next = record {
        homes = listings_next (λ q listing. listing.home < 64) (λ q listing. listing.home < 64) c (listing_of x) (listing_of w) (listings_of es) (listings_of es_next) listing_found put_listing
            (λ q listing apart h. h) (λ h. subst (λ n. n < 64) (sym same_home) h) now.homes;
        placed = listings_next (λ q listing. times q (lines listing.home).waiting + times q (lines listing.home).fresh ≡ (if listing.listed then 1 else 0))
            (λ q listing. times q (lines_next listing.home).waiting + times q (lines_next listing.home).fresh ≡ (if listing.listed then 1 else 0))
            c (listing_of x) (listing_of w) (listings_of es) (listings_of es_next) listing_found put_listing
            (λ q listing apart h.
            let n = next listing.home in
            let a = ap (times q) n.waiting in
            let b = n.fresh q in
            let none = never_both (now_fresh listing.home) (same_number q c) apart in
            omega (arith, h, a, b, none))
            (λ h.
            let n = next x.client.home in
            let a = ap (times c) n.waiting in
            let b = n.fresh c in
            let own : ◌≡◌ {A = ℕ} (if same_number c c && now_fresh x.client.home then 1 else 0) (if not x.listed && is_touched x.limit bytes x.client then 1 else 0) =
            λ i. if same_itself c i && (same_itself x.client.home i && (not x.listed && is_touched x.limit bytes x.client)) then 1 else 0 in
            let more = more_listed x.listed (is_touched x.limit bytes x.client) in
            let all : times c (lines_next x.client.home).waiting + times c (lines_next x.client.home).fresh
            ≡ (if x.listed || is_touched x.limit bytes x.client then 1 else 0) = omega (arith, h, a, b, own, more) in
            ap (λ k. times c (lines_next k).waiting + times c (lines_next k).fresh) same_home ∙ all ∙ ap (λ l. if l then 1 else 0) (sym listed))
            now.placed;
        counted = λ home small.
            let n = (next home).idle in
            let i = idle_next home in
            let all = now.counted home small in
            omega (arith, n, i, all);
        waiting = λ home small. (next home).waiting ∙ now.waiting home small;
        exact = λ home q small.
            let n = (next home).fresh q in
            let k = news_next home q in
            let e = now.exact home q small in
            omega (arith, n, k, e);
        numbered = listings_next (λ q listing. q ≤ last) (λ q listing. q ≤ last) c (listing_of x) (listing_of w) (listings_of es) (listings_of es_next) listing_found put_listing
            (λ q listing apart h. h) (λ h. h) now.numbered;
      }

-- a piece for nobody
pub underway_past : (c : ℕ) (bytes : List ℕ) (rest whole : ByNumber (List ℕ)) (first es : ByNumber Mailbox) (before lines : ℕ → Line) (last : ℕ)
    → lookup (is_at (nat_cmp c)) es ≡ None → IsUnderway whole ((c, bytes) ∷ rest) first es before lines last → IsUnderway whole rest first es before lines last
underway_past c bytes rest whole first es before lines last none now = record {
  homes = now.homes;
  placed = now.placed;
  counted = now.counted;
  waiting = now.waiting;
  exact = λ home q small. ap (λ n. times q (lines home).fresh + n) (news_past c bytes rest es none home q) ∙ now.exact home q small;
  numbered = now.numbered;
}

-- at the end
nothing_new : (es : ByNumber Mailbox) (home q : ℕ) → news [] es home q ≡ 0
nothing_new es home q = elim (lookup (is_at (nat_cmp q)) es) as (λ o. news_of [] home q o ≡ 0) [
  | None ↦ refl
  | Some held ↦ ap (λ t. if same_number held.client.home home && (not held.listed && t) then 1 else 0) (touched_is held.limit [] held.client)
      ∙ no_news (same_number held.client.home home) held.listed (is_live held.client)
]

news_numbered : (pieces : ByNumber (List ℕ)) (es : ByNumber Mailbox) (last home q : ℕ) → AllListings (λ c listing. c ≤ last) (listings_of es) → 0 < news pieces es home q → q ≤ last
news_numbered pieces es last home q all more =
    elim (lookup (is_at (nat_cmp q)) es) as (λ o. lookup (is_at (nat_cmp q)) es ≡ o → 0 < news_of pieces home q o → q ≤ last) [
      | None ↦ λ e m. absurd (omega (arith, m))
      | Some held ↦ λ e m. all q (listing_of held) (lookup-values listing_of (is_at (nat_cmp q)) held es e)
    ] refl more

module _ (whole : ByNumber (List ℕ)) (first es : ByNumber Mailbox) (before lines settled : ℕ → Line) (last : ℕ) (known : AreKnown (listings_of first) before last)
    (now : IsUnderway whole [] first es before lines last) (ends : (h : ℕ) → IsSettled (lines h) (settled h)) where
  exact_end : (home q : ℕ) → home < 64 → times q (ends home).behind ≡ news whole first home q
  exact_end home q small =
      let a = times_ordered q (lines home).fresh (ends home).behind (ends home).same in
      let b = now.exact home q small in
      let c = nothing_new es home q in
      omega (arith, a, b, c)

  all_waiting : (home q : ℕ) → times q (settled home).waiting ≡ times q (lines home).waiting + times q (ends home).behind
  all_waiting home q = ap (times q) (ends home).waiting ∙ times-append q (lines home).waiting (ends home).behind

  pub newly_end : (home : ℕ) → home < 64 → IsNewly whole first home (before home).waiting (settled home).waiting
  newly_end home small = record {
    behind = (ends home).behind;
    waiting = (ends home).waiting ∙ ap (λ ws. ws ++ (ends home).behind) (now.waiting home small);
    rising = (ends home).rising;
    exact = λ q. exact_end home q small;
  }

  pub known_end : AreKnown (listings_of es) settled last
  known_end = record {
    homes = now.homes;
    placed = λ q listing found.
        let a = all_waiting listing.home q in
        let b = times_ordered q (lines listing.home).fresh (ends listing.home).behind (ends listing.home).same in
        let c = now.placed q listing found in
        omega (arith, a, b, c);
    counted = λ home small. (ends home).idle ∙ now.counted home small;
    settled = λ home small. (ends home).fresh;
    numbered = now.numbered;
    past = λ home q small more.
        let a = all_waiting home q in
        let b = ap (times q) (now.waiting home small) in
        let e = exact_end home q small in
        elim (times q (before home).waiting) as (λ n. times q (before home).waiting ≡ n → q ≤ last) [
          | zero ↦ λ t. news_numbered whole first last home q known.numbered (omega (arith, more, a, b, e, t))
          | suc n ↦ λ t. known.past home q small (omega (arith, t))
        ] refl;
  }

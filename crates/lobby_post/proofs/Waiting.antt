-- What is known of the clients that wait, before and after one comes, goes or is taken out.
use Rattle.std.proofs.Common.{◌≡◌, ℕ, ◌+◌, ◌-◌, ◌<◌, ◌≤◌, List, [], ◌∷◌, ◌++◌, refl, sym, ap, subst, ◌∙◌, inl, inr, true, false, cond, filter, arith}
use Rattle.std.specs.Prelude.{Some, None, not, ◌&&◌, if◌then◌else◌}
use Rattle.std.specs.Ordering.{nat_cmp}
use Rattle.std.specs.BTreeMap.{is_at}
use Rattle.std.specs.Map.{lookup}
use Rattle.std.proofs.Math.Nat.{eq-or-lt_of_le}
use Rattle.std.proofs.lemmas.List.{append-nil}
use Rattle.std.proofs.lemmas.List.Elements.{filter-append}
use Rattle.line_words.specs.Table.{ByNumber, same_number}
use Rattle.lobby_model.proofs.Delivered.{same_number_is, same_itself}
use Rattle.lobby_model.proofs.Splits.{same_either_way}
use Rattle.lobby_post.specs.Mail.{Line}
use Rattle.lobby_post.specs.Dirty.{AreKnown, IsLeft, IsServed, Listing, added, idle_of, is_idle, is_of, stands, times}
use Rattle.lobby_post.specs.Crowd.{all_but_client}
use Rattle.lobby_post.proofs.Counts.{filter_absent, filter_but, times-first, times-last, times-other, times-past}
use Rattle.lobby_post.proofs.Listings.{IsPut, stands_put, stands_same, IsTaken, stands_taken}

-- a number above the last is no client's, and stands in no line
module _ (c : ℕ) (listings : ByNumber Listing) (lines : ℕ → Line) (last : ℕ) (above : last < c) (known : AreKnown listings lines last) where
  pub absent : lookup (is_at (nat_cmp c)) listings ≡ None
  absent =
      elim (lookup (is_at (nat_cmp c)) listings) as (λ o. lookup (is_at (nat_cmp c)) listings ≡ o → o ≡ None) [
        | None ↦ λ t. refl
        | Some listing ↦ λ t. let n = known.numbered c listing t in absurd (omega (arith, n, above))
      ] refl

  pub never : (h : ℕ) → h < 64 → times c (lines h).waiting ≡ 0
  never h within =
      let least : 0 ≤ times c (lines h).waiting = omega arith in
      elim (eq-or-lt_of_le least) as (λ o. times c (lines h).waiting ≡ 0) [
        | inl none ↦ sym none
        | inr some ↦ let n = known.past h c within some in absurd (omega (arith, n, above))
      ]

-- a client comes, and waits behind the others
module _ (c home : ℕ) (old new : ByNumber Listing) (lines others : ℕ → Line) (last : ℕ) (above : last < c) (known : AreKnown old lines last)
    (put : IsPut c (record { home = home; listed = true }) old new)
    (behind : (h : ℕ) → others h ≡ (if same_number home h then added c (lines h) else lines h)) where
  times_came : home < 64 → times c (others home).waiting ≡ 1
  times_came within =
      let none = never c old lines last above known home within in
      let one = times-last c (lines home).waiting in
      let is : times c (others home).waiting ≡ times c ((lines home).waiting ++ c ∷ []) =
      ap (λ (l : Line). times c l.waiting) (behind home)
      ∙ ap (λ b. times c (if b then added c (lines home) else lines home).waiting) (same_itself home) in
      omega (arith, none, one, is)

  times_others : (q h : ℕ) → same_number c q ≡ false → times q (others h).waiting ≡ times q (lines h).waiting
  times_others q h other =
      ap (λ (l : Line). times q l.waiting) (behind h)
      ∙ elim (same_number home h) as (λ b. times q (if b then added c (lines h) else lines h).waiting ≡ times q (lines h).waiting) [
        | true ↦ times-other q c (lines h).waiting (same_either_way q c ∙ other)
        | false ↦ refl
      ]

  same_idle : (h : ℕ) → (others h).idle ≡ (lines h).idle
  same_idle h = ap (λ (l : Line). l.idle) (behind h)
      ∙ elim (same_number home h) as (λ b. (if b then added c (lines h) else lines h).idle ≡ (lines h).idle) [ true ↦ refl | false ↦ refl ]

  same_fresh : (h : ℕ) → (others h).fresh ≡ (lines h).fresh
  same_fresh h = ap (λ (l : Line). l.fresh) (behind h)
      ∙ elim (same_number home h) as (λ b. (if b then added c (lines h) else lines h).fresh ≡ (lines h).fresh) [ true ↦ refl | false ↦ refl ]

  pub known_come : home < 64 → ((h : ℕ) → idle_of h new ≡ idle_of h old) → AreKnown new others c
  known_come within idle = record {
    homes = λ q listing found.
        elim (same_number c q) as (λ b. cond b (Some (record { home = home; listed = true })) (lookup (is_at (nat_cmp q)) old) ≡ Some listing → listing.home < 64) [
          | true ↦ λ t.
              let is : ◌≡◌ {A = Listing} (record { home = home; listed = true }) listing = cc in
              subst (λ (m : Listing). m.home < 64) is within
          | false ↦ λ t. known.homes q listing t
        ] (sym (put q) ∙ found);
    placed = λ q listing found.
        elim (same_number c q) as (λ b. same_number c q ≡ b → cond b (Some (record { home = home; listed = true })) (lookup (is_at (nat_cmp q)) old) ≡ Some listing
        → times q (others listing.home).waiting ≡ (if listing.listed then 1 else 0)) [
          | true ↦ λ t f.
              let is : ◌≡◌ {A = Listing} (record { home = home; listed = true }) listing = cc in
              subst (λ (m : Listing). times q (others m.home).waiting ≡ (if m.listed then 1 else 0)) is
              (subst (λ k. times k (others home).waiting ≡ 1) (same_number_is c q t) (times_came within))
          | false ↦ λ t f. times_others q listing.home t ∙ known.placed q listing f
        ] refl (sym (put q) ∙ found);
    counted = λ h inside. same_idle h ∙ known.counted h inside ∙ sym (idle h);
    settled = λ h inside. same_fresh h ∙ known.settled h inside;
    numbered = λ q listing found.
        elim (same_number c q) as (λ b. same_number c q ≡ b → cond b (Some (record { home = home; listed = true })) (lookup (is_at (nat_cmp q)) old) ≡ Some listing → q ≤ c) [
          | true ↦ λ t f. let same = same_number_is c q t in omega (arith, same)
          | false ↦ λ t f. let n = known.numbered q listing f in omega (arith, n, above)
        ] refl (sym (put q) ∙ found);
    past = λ h q inside stood.
        elim (same_number c q) as (λ b. same_number c q ≡ b → q ≤ c) [
          | true ↦ λ t. let same = same_number_is c q t in omega (arith, same)
          | false ↦ λ t.
              let stands_before : 0 < times q (lines h).waiting = let e = times_others q h t in omega (arith, e, stood) in
              let n = known.past h q inside stands_before in
              omega (arith, n, above)
        ] refl;
  }

  pub waits_come : (h : ℕ) → h < 64
      → filter (stands new h) (others h).waiting ≡ filter (stands old h) (lines h).waiting ++ (if same_number home h then c ∷ [] else [])
  waits_come h within =
      let kept : filter (stands new h) (lines h).waiting ≡ filter (stands old h) (lines h).waiting =
      filter_absent (stands new h) (stands old h) c
      (λ d t. stands_put c old new h (record { home = home; listed = true }) put d ∙ ap (λ b. cond b (same_number home h) (stands old h d)) t)
      (lines h).waiting (never c old lines last above known h within) in
      ap (λ (l : Line). filter (stands new h) l.waiting) (behind h)
      ∙ elim (same_number home h) as (λ b. same_number home h ≡ b → filter (stands new h) (if b then added c (lines h) else lines h).waiting
      ≡ filter (stands old h) (lines h).waiting ++ (if b then c ∷ [] else [])) [
        | true ↦ λ t.
            let passes : stands new h c ≡ true =
            stands_put c old new h (record { home = home; listed = true }) put c
            ∙ ap (λ b. cond b (same_number home h) (stands old h c)) (same_itself c) ∙ t in
            let one : filter (stands new h) (c ∷ []) ≡ c ∷ [] = ap (λ b. cond b (c ∷ []) []) passes in
            filter-append (stands new h) (lines h).waiting (c ∷ []) ∙ (λ i. kept i ++ one i)
        | false ↦ λ t. kept ∙ sym (append-nil (filter (stands old h) (lines h).waiting))
      ] refl

-- a client goes
module _ (c : ℕ) (old new : ByNumber Listing) (taken : IsTaken c old new) where
  pub waits_without : (h : ℕ) (xs : List ℕ) → filter (stands new h) xs ≡ all_but_client c (filter (stands old h) xs)
  waits_without h xs = ap (λ p. filter p xs) (λ i q. stands_taken c old new h taken q i) ∙ filter_but (stands old h) c xs

  -- a listing that is left was there before
  left : (q : ℕ) (listing : Listing) → lookup (is_at (nat_cmp q)) new ≡ Some listing → lookup (is_at (nat_cmp q)) old ≡ Some listing
  left q listing found =
      elim (same_number c q) as (λ b. cond b None (lookup (is_at (nat_cmp q)) old) ≡ Some listing → lookup (is_at (nat_cmp q)) old ≡ Some listing) [
        | true ↦ λ t. absurd (cc)
        | false ↦ λ t. t
      ] (sym (taken q) ∙ found)

  -- one that was not there
  pub known_unmoved : (lines : ℕ → Line) (last : ℕ) → ((h : ℕ) → idle_of h new ≡ idle_of h old) → AreKnown old lines last → AreKnown new lines last
  known_unmoved lines last idle known = record {
    homes = λ q listing found. known.homes q listing (left q listing found);
    placed = λ q listing found. known.placed q listing (left q listing found);
    counted = λ h inside. known.counted h inside ∙ sym (idle h);
    settled = known.settled;
    numbered = λ q listing found. known.numbered q listing (left q listing found);
    past = known.past;
  }

  module _ (gone : Listing) (lines others : ℕ → Line) (own : IsLeft gone.listed (stands new gone.home) (lines gone.home) (others gone.home))
      (rest : (h : ℕ) → same_number gone.home h ≡ false → others h ≡ lines h) where
    -- what holds of the own line and of lines that are the same holds of each
    each : (P : ℕ → Line → Line → Type 0) → P gone.home (lines gone.home) (others gone.home) → ((h : ℕ) → P h (lines h) (lines h)) → (h : ℕ) → P h (lines h) (others h)
    each P here same h =
        elim (same_number gone.home h) as (λ b. same_number gone.home h ≡ b → P h (lines h) (others h)) [
          | true ↦ λ t. subst (λ k. P k (lines k) (others k)) (same_number_is gone.home h t) here
          | false ↦ λ t. subst (λ (l : Line). P h (lines h) l) (sym (rest h t)) (same h)
        ] refl

    pub waits_gone : (h : ℕ) → filter (stands new h) (others h).waiting ≡ all_but_client c (filter (stands old h) (lines h).waiting)
    waits_gone h =
        each (λ k l m. filter (stands new k) m.waiting ≡ filter (stands new k) l.waiting) own.waiting.kept (λ k. refl) h
        ∙ waits_without h (lines h).waiting

    module _ (last : ℕ) (idle : (h : ℕ) → idle_of h new + (if is_idle h gone then 1 else 0) ≡ idle_of h old) (known : AreKnown old lines last) where
      idle_own : gone.home < 64 → (others gone.home).idle ≡ idle_of gone.home new
      idle_own inside =
          let k = known.counted gone.home inside in
          let one : ◌≡◌ {A = ℕ} (if is_idle gone.home gone then 1 else 0) (if not gone.listed then 1 else 0) =
          ap (λ b. if b && not gone.listed then 1 else 0) (same_itself gone.home) in
          let i = idle gone.home in
          own.idle
          ∙ elim gone.listed as (λ b. idle_of gone.home new + (if not b then 1 else 0) ≡ idle_of gone.home old
          → (if b then (lines gone.home).idle else (lines gone.home).idle - 1) ≡ idle_of gone.home new) [
            | true ↦ λ j. omega (arith, j, k)
            | false ↦ λ j. omega (arith, j, k)
          ] (omega (arith, i, one))

      pub known_gone : AreKnown new others last
      known_gone = record {
        homes = λ q listing found. known.homes q listing (left q listing found);
        placed = λ q listing found.
            let there : stands new listing.home q ≡ true = ap (is_of listing.home) found ∙ same_itself listing.home in
            each (λ k l m. stands new k q ≡ true → times q m.waiting ≡ times q l.waiting) (λ t. own.waiting.counted q t) (λ k t. refl) listing.home there
            ∙ known.placed q listing (left q listing found);
        counted = λ h inside.
            elim (same_number gone.home h) as (λ b. same_number gone.home h ≡ b → (others h).idle ≡ idle_of h new) [
              | true ↦ λ t. subst (λ k. k < 64 → (others k).idle ≡ idle_of k new) (same_number_is gone.home h t) idle_own inside
              | false ↦ λ t.
                  let none : ◌≡◌ {A = ℕ} (if is_idle h gone then 1 else 0) 0 = ap (λ b. if b && not gone.listed then 1 else 0) t in
                  let i = idle h in
                  let k = known.counted h inside in
                  let e = ap (λ (l : Line). l.idle) (rest h t) in
                  omega (arith, none, i, k, e)
            ] refl;
        settled = λ h inside. each (λ k l m. m.fresh ≡ l.fresh) own.fresh (λ k. refl) h ∙ known.settled h inside;
        numbered = λ q listing found. known.numbered q listing (left q listing found);
        past = λ h q inside stood.
            let fewer = each (λ k l m. times q m.waiting ≤ times q l.waiting) (own.waiting.fewer q) (λ k. omega arith) h in
            known.past h q inside (omega (arith, fewer, stood));
      }

-- the first of a worker's line is taken out
module _ (home : ℕ) (old : ByNumber Listing) (lines others : ℕ → Line) (rest : (h : ℕ) → same_number home h ≡ false → others h ≡ lines h) where
  unserved : (P : ℕ → Line → Line → Type 0) → P home (lines home) (others home) → ((h : ℕ) → P h (lines h) (lines h)) → (h : ℕ) → P h (lines h) (others h)
  unserved P here same h =
      elim (same_number home h) as (λ b. same_number home h ≡ b → P h (lines h) (others h)) [
        | true ↦ λ t. subst (λ k. P k (lines k) (others k)) (same_number_is home h t) here
        | false ↦ λ t. subst (λ (l : Line). P h (lines h) l) (sym (rest h t)) (same h)
      ] refl

  -- there was none
  module _ (own : IsServed (stands old home) None (lines home) (others home)) where
    pub waits_nobody : filter (stands old home) (lines home).waiting ≡ filter (stands old home) (others home).waiting
    waits_nobody = sym own.first.kept

    pub none_waits : filter (stands old home) (lines home).waiting ≡ []
    none_waits = waits_nobody ∙ ap (filter (stands old home)) own.nobody

    pub known_nobody : (last : ℕ) → AreKnown old lines last → AreKnown old others last
    known_nobody last known = record {
      homes = known.homes;
      placed = λ q listing found.
          let there : stands old listing.home q ≡ true = ap (is_of listing.home) found ∙ same_itself listing.home in
          unserved (λ k l m. stands old k q ≡ true → times q m.waiting ≡ times q l.waiting) (λ t. own.first.counted q t) (λ k t. refl) listing.home there
          ∙ known.placed q listing found;
      counted = λ h inside.
          unserved (λ k l m. m.idle ≡ l.idle) (let i = own.idle in omega (arith, i)) (λ k. refl) h ∙ known.counted h inside;
      settled = λ h inside. unserved (λ k l m. m.fresh ≡ l.fresh) own.fresh (λ k. refl) h ∙ known.settled h inside;
      numbered = known.numbered;
      past = λ h q inside stood.
          let fewer = unserved (λ k l m. times q m.waiting ≤ times q l.waiting) (own.first.fewer q) (λ k. omega arith) h in
          known.past h q inside (omega (arith, fewer, stood));
    }

  -- it is c
  module _ (c : ℕ) (listing : Listing) (new : ByNumber Listing) (own : IsServed (stands old home) (Some c) (lines home) (others home))
      (found : lookup (is_at (nat_cmp c)) old ≡ Some listing) (put : IsPut c (record { home = listing.home; listed = false }) old new) where
    same_stands : (h : ℕ) → stands new h ≡ stands old h
    same_stands h = λ i q. stands_same c old new h listing (record { home = listing.home; listed = false }) found refl put q i

    pub waits_first : filter (stands old home) (lines home).waiting ≡ c ∷ filter (stands new home) (others home).waiting
    waits_first =
        sym own.first.kept
        ∙ ap (λ b. cond b (c ∷ filter (stands old home) (others home).waiting) (filter (stands old home) (others home).waiting)) own.passes
        ∙ ap (λ p. c ∷ filter p (others home).waiting) (sym (same_stands home))

    pub waits_others : (h : ℕ) → same_number home h ≡ false → filter (stands new h) (others h).waiting ≡ filter (stands old h) (lines h).waiting
    waits_others h other = λ i. filter (same_stands h i) (rest h other i).waiting

    here : listing.home ≡ home
    here = same_number_is listing.home home (sym (ap (is_of home) found) ∙ own.passes)

    taken_out : (last : ℕ) → AreKnown old lines last → home < 64 → (listing.listed ≡ true) × (times c (others home).waiting ≡ 0)
    taken_out last known inside =
        let placed = known.placed c listing found in
        let there = ap (λ h. times c (lines h).waiting) here in
        let counted = own.first.counted c own.passes in
        let one = times-first c (others home).waiting in
        elim listing.listed as (λ b. times c (lines listing.home).waiting ≡ (if b then 1 else 0) → (b ≡ true) × (times c (others home).waiting ≡ 0)) [
          | true ↦ λ m. (refl, omega (arith, m, there, counted, one))
          | false ↦ λ m. absurd (omega (arith, m, there, counted, one))
        ] placed

    module _ (last : ℕ) (inside : home < 64) (known : AreKnown old lines last)
        (idle : (h : ℕ) → idle_of h new + (if is_idle h listing then 1 else 0) ≡ idle_of h old + (if is_idle h (record { home = listing.home; listed = false }) then 1 else 0)) where
      busy : (h : ℕ) → ◌≡◌ {A = ℕ} (if is_idle h listing then 1 else 0) 0
      busy h =
          ap (λ b. if same_number listing.home h && not b then 1 else 0) (taken_out last known inside).0
          ∙ elim (same_number listing.home h) as (λ b. ◌≡◌ {A = ℕ} (if b && false then 1 else 0) 0) [ true ↦ refl | false ↦ refl ]

      idle_served : home < 64 → (others home).idle ≡ idle_of home new
      idle_served within =
          let i = idle home in
          let k = known.counted home within in
          let b = busy home in
          let one : ◌≡◌ {A = ℕ} (if is_idle home (record { home = listing.home; listed = false }) then 1 else 0) 1 =
          ap (λ s. if s && true then 1 else 0) (ap (λ m. same_number m home) here ∙ same_itself home) in
          let o = own.idle in
          omega (arith, i, k, b, one, o)

      idle_unserved : (h : ℕ) → same_number home h ≡ false → h < 64 → (others h).idle ≡ idle_of h new
      idle_unserved h other within =
          let i = idle h in
          let k = known.counted h within in
          let b = busy h in
          let none : ◌≡◌ {A = ℕ} (if is_idle h (record { home = listing.home; listed = false }) then 1 else 0) 0 =
          ap (λ s. if s && true then 1 else 0) (ap (λ m. same_number m h) here ∙ other) in
          let e = ap (λ (l : Line). l.idle) (rest h other) in
          omega (arith, i, k, b, none, e)

      pub known_first : AreKnown new others last
      known_first = record {
        homes = λ q m at.
            elim (same_number c q) as (λ b. cond b (Some (record { home = listing.home; listed = false })) (lookup (is_at (nat_cmp q)) old) ≡ Some m → m.home < 64) [
              | true ↦ λ t.
                  let is : ◌≡◌ {A = Listing} (record { home = listing.home; listed = false }) m = cc in
                  subst (λ (k : Listing). k.home < 64) is (known.homes c listing found)
              | false ↦ λ t. known.homes q m t
            ] (sym (put q) ∙ at);
        placed = λ q m at.
            elim (same_number c q) as (λ b. same_number c q ≡ b → cond b (Some (record { home = listing.home; listed = false })) (lookup (is_at (nat_cmp q)) old) ≡ Some m
            → times q (others m.home).waiting ≡ (if m.listed then 1 else 0)) [
              | true ↦ λ t f.
                  let is : ◌≡◌ {A = Listing} (record { home = listing.home; listed = false }) m = cc in
                  subst (λ (k : Listing). times q (others k.home).waiting ≡ (if k.listed then 1 else 0)) is
                  (subst (λ k. times k (others listing.home).waiting ≡ 0) (same_number_is c q t)
                  (ap (λ h. times c (others h).waiting) here ∙ (taken_out last known inside).1))
              | false ↦ λ t f.
                  let there : stands old m.home q ≡ true = ap (is_of m.home) f ∙ same_itself m.home in
                  unserved (λ k l n. stands old k q ≡ true → times q n.waiting ≡ times q l.waiting)
                  (λ passes. sym (times-past q c (others home).waiting (same_either_way q c ∙ t)) ∙ own.first.counted q passes) (λ k passes. refl) m.home there
                  ∙ known.placed q m f
            ] refl (sym (put q) ∙ at);
        counted = λ h within.
            elim (same_number home h) as (λ b. same_number home h ≡ b → (others h).idle ≡ idle_of h new) [
              | true ↦ λ t. subst (λ k. k < 64 → (others k).idle ≡ idle_of k new) (same_number_is home h t) idle_served within
              | false ↦ λ t. idle_unserved h t within
            ] refl;
        settled = λ h within. unserved (λ k l m. m.fresh ≡ l.fresh) own.fresh (λ k. refl) h ∙ known.settled h within;
        numbered = λ q m at.
            elim (same_number c q) as (λ b. same_number c q ≡ b → cond b (Some (record { home = listing.home; listed = false })) (lookup (is_at (nat_cmp q)) old) ≡ Some m → q ≤ last) [
              | true ↦ λ t f. subst (λ k. k ≤ last) (same_number_is c q t) (known.numbered c listing found)
              | false ↦ λ t f. known.numbered q m f
            ] refl (sym (put q) ∙ at);
        past = λ h q within stood.
            let fewer = unserved (λ k l m. times q m.waiting ≤ times q l.waiting) (let f = own.first.fewer q in omega (arith, f)) (λ k. omega arith) h in
            known.past h q within (omega (arith, fewer, stood));
      }

-- Who stands in line, as a round begins and as keys come and go.
use Rattle.std.proofs.Common.{◌≡◌, ◌⊎◌, ℕ, ◌+◌, ◌<◌, ◌≤◌, Bool, true, false, List, [], ◌∷◌, ◌++◌, refl, sym, ap, subst, ◌∙◌, inl, inr, ⊎_elim, arith}
use Rattle.std.specs.Prelude.{slice_index_or, Option, Some, None}
use Rattle.std.specs.List.{Contains}
use Rattle.std.specs.Option.{option_to_list}
use Rattle.std.proofs.lemmas.List.{get_or_default}
use Rattle.std.proofs.lemmas.Bool.{cases_eq, cases_lt}
use Rattle.std.proofs.lemmas.List.Elements.{Contains-append_cases, Contains-append_left, Contains-append_right, Contains-push}
use Rattle.lobby_connections.specs.Attended.{AllBut, InLine, IsAttended, IsDue, IsTable, IsThere, KeepsClaims, NobodyIsForgotten, Owes, WakesNobody, key_at}
use Rattle.lobby_connections.specs.Claims.{Changes, called_up, come, gone, had_turn, left_over, note_at, noted, owing}
use Rattle.lobby_connections.specs.Table.{IsIdle, Leaves, LinesUp, Stays, Table, due_count, next_key, stayed, touched, with_left}
use Rattle.lobby_connections.specs.Timeouts.{StaysAwake, shorter}
use Rattle.lobby_connections.specs.declared.poll_timeout.PollTimeout.{PollTimeout}
use Rattle.lobby_connections.specs.declared.poll_timeout.PollTimeout.TheVariants.{Zero, Short, Endless}
use Rattle.lobby_connections.specs.declared.seat.Claim.{Claim}

-- nobody is in an empty list
pub nobody_in : (key : ℕ) → Contains [] key → ⊥
nobody_in key h = omega (arith, h.1)

pub among_first : (key other : ℕ) (rest : List ℕ) → other ≡ key → Contains (key ∷ rest) other
among_first key other rest e = (0, omega arith, sym e)

pub among_rest : (key other : ℕ) (rest : List ℕ) → Contains rest other → Contains (key ∷ rest) other
among_rest key other rest h = Contains-append_right (key ∷ []) rest other h

pub among_cases : (key other : ℕ) (rest : List ℕ) → Contains (key ∷ rest) other → (other ≡ key) ⊎ Contains rest other
among_cases key other rest h = ⊎_elim (λ (h : Contains (key ∷ []) other). inl (one h)) (λ h. inr h) (Contains-append_cases (key ∷ []) rest other h)
  where
    one : Contains (key ∷ []) other → other ≡ key
    one h = let z : h.0 ≡ 0 = omega (arith, h.1) in sym (sym (ap (λ k. slice_index_or (key ∷ []) k other) z) ∙ h.2)

--- What is noted

pub noted_some : (f : Claim → Claim) (o : Option Claim) (c : Claim) → noted f o ≡ Some c → (b : Claim) × (o ≡ Some b) × (c ≡ f b)
noted_some f None c h = absurd (cc h)
noted_some f (Some b) c h = (b, refl, cc h)

-- what a note was before
pub note_back : (old new : List (Option Claim)) (key : ℕ) (f : Claim → Claim) → Changes old new key (noted f) → (k : ℕ) (c : Claim) → note_at new k ≡ Some c → (b : Claim) × (note_at old k ≡ Some b) × (((k ≡ key) × (c ≡ f b)) ⊎ (c ≡ b))
note_back old new key f h k c g =
    elim (cases_eq k key) [
      | inl e ↦
          let r = noted_some f (note_at old key) c (sym h.changed ∙ (ap (note_at new) (sym e) ∙ g)) in
          (r.0, ap (note_at old) e ∙ r.1, inl (e, r.2))
      | inr n ↦ (c, sym (h.others k n) ∙ g, inr refl)
    ]

-- who is to get a turn is so still
pub claims_keep : (t u : Table) (key : ℕ) (f : Claim → Claim) → ((c : Claim) → c.owes ≡ true → (f c).owes ≡ true) → Changes t.claims u.claims key (noted f) → KeepsClaims t u
claims_keep t u key f keep h = record {
  owes = λ k o. elim (cases_eq k key) [
    | inl e ↦ (f o.0, ap (note_at u.claims) e ∙ (h.changed ∙ ap (noted f) (sym (ap (note_at t.claims) e) ∙ o.1)), keep o.0 o.2)
    | inr n ↦ (o.0, h.others k n ∙ o.1, o.2)
  ];
  there = λ k w. let b = note_back t.claims u.claims key f h k w.0 w.1 in (b.0, b.1);
}

pub claims_then : (t u v : Table) → KeepsClaims t u → KeepsClaims u v → KeepsClaims t v
claims_then t u v a b = record { owes = λ k o. b.owes k (a.owes k o); there = λ k w. a.there k (b.there k w) }

pub claims_same : (t u : Table) → u.claims ≡ t.claims → KeepsClaims t u
claims_same t u e = record { owes = λ k o. (o.0, ap (λ cs. note_at cs k) e ∙ o.1, o.2); there = λ k w. (w.0, sym (ap (λ cs. note_at cs k) e) ∙ w.1) }

-- its note is set
pub is_claimed : (t u : Table) (key : ℕ) (f : Claim → Claim) → ((c : Claim) → (f c).owes ≡ true) → Changes t.claims u.claims key (noted f) → IsThere u key → Owes u key
is_claimed t u key f sets h w =
    let r = noted_some f (note_at t.claims key) w.0 (sym h.changed ∙ w.1) in
    (w.0, w.1, ap (λ (c : Claim). c.owes) r.2 ∙ sets r.0)

-- it owes none where its turn just ended, or where it has gone
pub has_quit : (t u : Table) (key : ℕ) → Changes t.claims u.claims key (noted had_turn) → Owes u key → ⊥
has_quit t u key h o =
    let r = noted_some had_turn (note_at t.claims key) o.0 (sym h.changed ∙ o.1) in
    let no : o.0.owes ≡ false = ap (λ (c : Claim). c.owes) r.2 in
    let yes : o.0.owes ≡ true = o.2 in
    cc (no, yes)

pub has_gone : (t u : Table) (key : ℕ) → Changes t.claims u.claims key gone → Owes u key → ⊥
has_gone t u key h o = nobody (sym h.changed ∙ o.1)
  where
    nobody : {c : Claim} → None ≡ Some c → ⊥
    nobody e = cc e

--- Lines

-- whoever stands in line or is named does so still
pub record KeepsLines (t u : Table) : Type 0 where
  pub line : (other : ℕ) → InLine t other → InLine u other
  pub named : (other : ℕ) → Contains t.named other → Contains u.named other

-- there is room for as many keys, or for more
pub wider_line : (t u : Table) → u.due ≡ t.due → u.is_each_due ≡ t.is_each_due → u.served ≡ t.served → u.left ≡ t.left → u.is_each_left ≡ t.is_each_left → t.key_bound ≤ u.key_bound → (other : ℕ) → InLine t other → InLine u other
wider_line t u d e s l el b other (inr h) = inr (rw (el, l) h)
wider_line t u d e s l el b other (inl h) = inl (h.0, rw s h.1, wider t.is_each_due refl h.2, rw (e, d) h.3)
  where
    wider : (each : Bool) → t.is_each_due ≡ each → h.0 < due_count t → h.0 < due_count u
    wider true is lt = let i : u.is_each_due ≡ true = e ∙ is in rw i (let lt : h.0 < t.key_bound = rw is at lt in omega (arith, lt, b))
    wider false is lt = let i : u.is_each_due ≡ false = e ∙ is in rw (i, d) (rw is at lt)

-- where one note changes, one key more may have to be told apart
pub but_one : (t u : Table) (key : ℕ) → KeepsLines t u → ((other : ℕ) → (other ≡ key → ⊥) → note_at u.claims other ≡ note_at t.claims other) → (rest : List ℕ) → AllBut t rest → AllBut u (key ∷ rest)
but_one t u key lines others rest all other o =
    elim (cases_eq other key) [
      | inl e ↦ inr (inr (among_first key other rest e))
      | inr n ↦ elim (all other (o.0, sym (others other n) ∙ o.1, o.2)) [
        | inl h ↦ inl (lines.line other h)
        | inr (inl h) ↦ inr (inl (lines.named other h))
        | inr (inr h) ↦ inr (inr (among_rest key other rest h))
      ]
    ]

pub all_same : (t u : Table) → KeepsLines t u → u.claims ≡ t.claims → (rest : List ℕ) → AllBut t rest → AllBut u rest
all_same t u lines same rest all other o =
    elim (all other (o.0, sym (ap (λ cs. note_at cs other) same) ∙ o.1, o.2)) [
      | inl h ↦ inl (lines.line other h)
      | inr (inl h) ↦ inr (inl (lines.named other h))
      | inr (inr h) ↦ inr (inr h)
    ]

-- a key that stands in line, is named, is among the others or owes no turn need not be told apart
pub in_line : (t : Table) (key : ℕ) → InLine t key → (rest : List ℕ) → AllBut t (key ∷ rest) → AllBut t rest
in_line t key l rest all other o =
    elim (all other o) [
      | inl h ↦ inl h
      | inr (inl h) ↦ inr (inl h)
      | inr (inr h) ↦ ⊎_elim (λ e. inl (subst (InLine t) (sym e) l)) (λ m. inr (inr m)) (among_cases key other rest h)
    ]

pub is_named : (t : Table) (key : ℕ) → Contains t.named key → (rest : List ℕ) → AllBut t (key ∷ rest) → AllBut t rest
is_named t key l rest all other o =
    elim (all other o) [
      | inl h ↦ inl h
      | inr (inl h) ↦ inr (inl h)
      | inr (inr h) ↦ ⊎_elim (λ e. inr (inl (subst (Contains t.named) (sym e) l))) (λ m. inr (inr m)) (among_cases key other rest h)
    ]

pub is_among : (t : Table) (key : ℕ) (rest : List ℕ) → Contains rest key → AllBut t (key ∷ rest) → AllBut t rest
is_among t key rest l all other o =
    elim (all other o) [
      | inl h ↦ inl h
      | inr (inl h) ↦ inr (inl h)
      | inr (inr h) ↦ ⊎_elim (λ e. inr (inr (subst (Contains rest) (sym e) l))) (λ m. inr (inr m)) (among_cases key other rest h)
    ]

pub owes_none : (t : Table) (key : ℕ) → (Owes t key → ⊥) → (rest : List ℕ) → AllBut t (key ∷ rest) → AllBut t rest
owes_none t key n rest all other o =
    elim (all other o) [
      | inl h ↦ inl h
      | inr (inl h) ↦ inr (inl h)
      | inr (inr h) ↦ ⊎_elim (λ e. absurd (n (subst (Owes t) e o))) (λ m. inr (inr m)) (among_cases key other rest h)
    ]

pub more_rest : (t : Table) (key : ℕ) (rest : List ℕ) → AllBut t rest → AllBut t (key ∷ rest)
more_rest t key rest all other o = elim (all other o) [ inl h ↦ inl h | inr (inl h) ↦ inr (inl h) | inr (inr h) ↦ inr (inr (among_rest key other rest h)) ]

pub more_all : (t : Table) (rest : List ℕ) → AllBut t [] → AllBut t rest
more_all t rest all other o = elim (all other o) [ inl h ↦ inl h | inr (inl h) ↦ inr (inl h) | inr (inr h) ↦ absurd (nobody_in other h) ]

-- one note changes, and its key is told apart before and after
pub still_one : (t u : Table) (key : ℕ) → KeepsLines t u → ((other : ℕ) → (other ≡ key → ⊥) → note_at u.claims other ≡ note_at t.claims other) → (rest : List ℕ) → AllBut t (key ∷ rest) → AllBut u (key ∷ rest)
still_one t u key lines others rest all = is_among u key (key ∷ rest) (among_first key key rest refl) (but_one t u key lines others (key ∷ rest) all)

-- a turn ended, or its connection went
pub one_less : (t u : Table) (key : ℕ) → KeepsLines t u → ((other : ℕ) → (other ≡ key → ⊥) → note_at u.claims other ≡ note_at t.claims other) → (Owes u key → ⊥) → (rest : List ℕ) → AllBut t (key ∷ rest) → AllBut u rest
one_less t u key lines others n rest all = owes_none u key n rest (still_one t u key lines others rest all)

-- a name is taken
pub popped : (t u : Table) (r : Option ℕ) → t.named ≡ u.named ++ option_to_list r → ((other : ℕ) → InLine t other → InLine u other) → u.claims ≡ t.claims → (rest : List ℕ) → AllBut t rest → AllBut u (option_to_list r ++ rest)
popped t u r e lines same rest all other o =
    elim (all other (o.0, sym (ap (λ cs. note_at cs other) same) ∙ o.1, o.2)) [
      | inl h ↦ inl (lines other h)
      | inr (inl h) ↦ ⊎_elim (λ h. inr (inl h)) (λ h. inr (inr (Contains-append_left (option_to_list r) rest other h))) (Contains-append_cases u.named (option_to_list r) other (subst (λ xs. Contains xs other) e h))
      | inr (inr h) ↦ inr (inr (Contains-append_right (option_to_list r) rest other h))
    ]

--- A key joins those who are left over

pub lines_keep : (t u : Table) (key : ℕ) (timeout : PollTimeout) → LinesUp t u key timeout → KeepsLines t u
lines_keep t u key timeout (inl e) = rw e (record {
  line = λ other h. elim h [ inl h ↦ inl h | inr (inl h) ↦ inr (inl h) | inr (inr h) ↦ inr (inr (Contains-append_left t.left (key ∷ []) other h)) ];
  named = λ other h. h;
})
lines_keep t u key timeout (inr e) = rw e (record {
  line = λ other h. elim h [ inl h ↦ inl h | inr (inl h) ↦ inr (inl refl) | inr (inr h) ↦ inr (inr h) ];
  named = λ other h. h;
})

pub lined_up : (t u : Table) (key : ℕ) (timeout : PollTimeout) → LinesUp t u key timeout → InLine u key
lined_up t u key timeout (inl e) = rw e (inr (inr (Contains-push t.left key)))
lined_up t u key timeout (inr e) = rw e (inr (inl refl))

pub lines_claims : (t u : Table) (key : ℕ) (timeout : PollTimeout) → LinesUp t u key timeout → u.claims ≡ t.claims
lines_claims t u key timeout (inl e) = ap (λ (t : Table). t.claims) e
lines_claims t u key timeout (inr e) = ap (λ (t : Table). t.claims) e

-- the notes change behind that
pub lines_leave : (t u v : Table) (key : ℕ) (timeout : PollTimeout) → LinesUp t u key timeout → v ≡ record u { claims = v.claims } → Leaves t v key timeout
lines_leave t u v key timeout (inl e) f = inl (f ∙ ap (λ (w : Table). record w { claims = v.claims }) e)
lines_leave t u v key timeout (inr e) f = inr (f ∙ ap (λ (w : Table). record w { claims = v.claims }) e)

-- only the notes change
pub claims_lines : (t u : Table) → u ≡ record t { claims = u.claims } → KeepsLines t u
claims_lines t u e = subst (λ w. KeepsLines t w) (sym e) (record { line = λ other h. h; named = λ other h. h })

-- connections come and go
pub stays_lines : (t u : Table) → Stays t u → t.key_bound ≤ u.key_bound → KeepsLines t u
stays_lines t u e b = subst (λ w. KeepsLines t w) (sym e) (record { line = wider_line t (stayed t u) refl refl refl refl refl b; named = λ other h. h })

-- a connection is left over
pub left_all : (t u v : Table) (key : ℕ) (timeout : PollTimeout) → LinesUp t u key timeout → v ≡ record u { claims = v.claims } → Changes u.claims v.claims key (noted left_over) → (rest : List ℕ) → AllBut t (key ∷ rest) → AllBut v rest
left_all t u v key timeout up e h rest all =
    let lines = claims_lines u v e in
    in_line v key (lines.line key (lined_up t u key timeout up)) rest
    (still_one u v key lines h.others rest (all_same t u (lines_keep t u key timeout up) (lines_claims t u key timeout up) (key ∷ rest) all))

-- a connection comes, and stands in line
pub came_all : (t u v : Table) (key : ℕ) (timeout : PollTimeout) → Stays t u → u.key_bound ≡ t.key_bound → Changes t.claims u.claims key come → LinesUp u v key timeout → (rest : List ℕ) → AllBut t rest → AllBut v rest
came_all t u v key timeout e b h up rest all =
    in_line v key (lined_up u v key timeout up) rest
    (all_same u v (lines_keep u v key timeout up) (lines_claims u v key timeout up) (key ∷ rest)
    (but_one t u key (stays_lines t u e (omega (arith, b))) h.others rest all))

pub came_owes : (t u v : Table) (key : ℕ) (timeout : PollTimeout) → Changes t.claims u.claims key come → LinesUp u v key timeout → Owes v key
came_owes t u v key timeout h up = (record { owes = true; is_left = false }, ap (λ cs. note_at cs key) (lines_claims u v key timeout up) ∙ h.changed, refl)

pub lines_stay : (t u v : Table) (key : ℕ) (timeout : PollTimeout) → Stays t u → LinesUp u v key timeout → LinesUp (stayed t v) v key timeout
lines_stay t u v key timeout s (inl e) =
    subst (λ w. LinesUp (stayed t w) w key timeout) (sym e) (inl (ap (λ (w : Table). record w { left = w.left ++ key ∷ []; timeout = shorter w.timeout timeout }) s))
lines_stay t u v key timeout s (inr e) =
    subst (λ w. LinesUp (stayed t w) w key timeout) (sym e) (inr (ap (λ (w : Table). record w { is_each_left = true; timeout = shorter w.timeout timeout }) s))

-- a connection goes
pub gone_all : (t u : Table) (key : ℕ) → Stays t u → u.key_bound ≡ t.key_bound → Changes t.claims u.claims key gone → (rest : List ℕ) → AllBut t rest → AllBut u rest
gone_all t u key e b h rest all =
    one_less t u key (stays_lines t u e (omega (arith, b))) h.others (has_gone t u key h) rest (more_rest t key rest all)

-- a turn ended
pub finished_all : (t u : Table) (key : ℕ) → u ≡ record (touched t u) { claims = u.claims } → Changes t.claims u.claims key (noted had_turn) → (rest : List ℕ) → AllBut t (key ∷ rest) → AllBut u rest
finished_all t u key e h rest all =
    one_less t u key (subst (λ w. KeepsLines t w) (sym e) (record { line = λ other h. h; named = λ other h. h })) h.others (has_quit t u key h) rest all

-- a connection is named, and stands in line or among those who are named
pub claimed_on : (t u w : Table) (key : ℕ) → Changes t.claims u.claims key (noted owing) → w.claims ≡ u.claims → KeepsClaims t w × (IsThere w key → Owes w key)
claimed_on t u w key h same =
    let g = subst (λ cs. Changes t.claims cs key (noted owing)) (sym same) h in
    (claims_keep t w key owing (λ c o. refl) g, is_claimed t w key owing (λ c. refl) g)

pub named_off : (t u w : Table) (key : ℕ) (timeout : PollTimeout) → u ≡ record t { claims = u.claims } → Changes t.claims u.claims key (noted owing) → LinesUp u w key timeout → (rest : List ℕ) → AllBut t rest → AllBut w rest
named_off t u w key timeout e h up rest all =
    in_line w key (lined_up u w key timeout up) rest
    (all_same u w (lines_keep u w key timeout up) (lines_claims u w key timeout up) (key ∷ rest) (but_one t u key (claims_lines t u e) h.others rest all))

pub named_on : (t u w : Table) (key : ℕ) → u ≡ record t { claims = u.claims } → Changes t.claims u.claims key (noted owing) → w ≡ record u { named = u.named ++ key ∷ [] } → (rest : List ℕ) → AllBut t rest → AllBut w rest
named_on t u w key e h n rest all =
    let lines : KeepsLines u w = subst (λ v. KeepsLines u v) (sym n) (record { line = λ other h. h; named = λ other h. Contains-append_left u.named (key ∷ []) other h }) in
    let here : Contains w.named key = subst (λ ns. Contains ns key) (sym (ap (λ (v : Table). v.named) n)) (Contains-push u.named key) in
    is_named w key here rest (all_same u w lines (ap (λ (v : Table). v.claims) n) (key ∷ rest) (but_one t u key (claims_lines t u e) h.others rest all))

pub not_endless : (a b : PollTimeout) → (b ≡ Endless → ⊥) → shorter a b ≡ Endless → ⊥
not_endless Zero b n e = cc e
not_endless Short Zero n e = cc e
not_endless Short Short n e = cc e
not_endless Short Endless n e = cc e
not_endless Endless b n e = n e

--- Rounds

-- nobody is due where each had its turn
pub nobody_due : (t : Table) (key : ℕ) → due_count t ≤ t.served → IsDue t key → ⊥
nobody_due t key d h = omega (arith, h.1, h.2, d)

-- who was left over is due in the next round
left_is_due : (t : Table) (key : ℕ) → key < t.key_bound → (each : Bool) → t.is_each_left ≡ each → (each ≡ true) ⊎ Contains t.left key → IsDue (with_left t) key
left_is_due t key r true e h = (key, omega arith, rw e r, rw e refl)
left_is_due t key r false e (inl h) = absurd (cc h)
left_is_due t key r false e (inr h) = (h.0, omega arith, rw e h.1, rw e (subst (λ x. slice_index_or t.left h.0 0 ≡ x) h.2 (get_or_default t.left h.0 0 key h.1)))

pub goes_over : (t : Table) (key : ℕ) → key < t.key_bound → due_count t ≤ t.served → InLine t key → InLine (with_left t) key
goes_over t key r d (inl h) = absurd (nobody_due t key d h)
goes_over t key r d (inr h) = inl (left_is_due t key r t.is_each_left refl h)

-- a round that begins where each had its turn
abbrev pub over : Table → List ℕ → List ℕ → Table
over t due left = record t {
  due = due;
  is_each_due = t.is_each_left;
  served = 0;
  left = left;
  is_each_left = false;
  timeout = Endless;
}

pub over_line : (t : Table) (due left : List ℕ) (key : ℕ) → key < t.key_bound → due_count t ≤ t.served → due ≡ t.left → left ≡ [] → InLine t key → InLine (over t due left) key
over_line t due left key r d dl ll h = rw (dl, ll) (goes_over t key r d h)

pub over_table : (t : Table) (due left : List ℕ) → IsTable t → due_count t ≤ t.served → due ≡ t.left → left ≡ [] → IsTable (over t due left)
over_table t due left i d dl ll = record {
  in_range = i.in_range;
  stands = λ key c g l. over_line t due left key (i.in_range key c g) d dl ll (i.stands key c g l);
  awake = λ e. (ll, refl);
}

pub over_all : (t : Table) (due left : List ℕ) → IsTable t → due_count t ≤ t.served → due ≡ t.left → left ≡ [] → (rest : List ℕ) → AllBut t rest → AllBut (over t due left) rest
over_all t due left i d dl ll rest all key o =
    ⊎_elim (λ h. inl (over_line t due left key (i.in_range key o.0 o.1) d dl ll h)) (λ h. inr h) (all key o)

-- the key that comes next goes, and whoever else stood in line does so still
pub next_line : (t u : Table) (key other : ℕ) → key_at t t.served ≡ key → u.key_bound ≡ t.key_bound → u.due ≡ t.due → u.is_each_due ≡ t.is_each_due → u.served ≡ t.served + 1 → u.left ≡ t.left → u.is_each_left ≡ t.is_each_left → InLine t other → InLine u other ⊎ (other ≡ key)
next_line t u key other k c d e s l el (inr h) = inl (inr (rw (el, l) h))
next_line t u key other k c d e s l el (inl h) =
    elim (cases_lt t.served h.0) [
      | inl more ↦ inl (inl (h.0, rw s (omega (arith, more)), rw (e, c, d) h.2, rw (e, d) h.3))
      | inr same ↦ inr (sym h.3 ∙ (ap (key_at t) (omega (arith, same, h.1)) ∙ k))
    ]

-- the next one who is due goes
abbrev pub passed : Table → List (Option Claim) → Table
passed t claims = record t { served = t.served + 1; claims = claims }

-- what it may owe was owed before
called_owes : (old new : List (Option Claim)) (key : ℕ) → Changes old new key (noted called_up) → (k : ℕ) → (c : Claim) × (note_at new k ≡ Some c) × (c.owes ≡ true) → (c : Claim) × (note_at old k ≡ Some c) × (c.owes ≡ true)
called_owes old new key h k o =
    let r = note_back old new key called_up h k o.0 o.1 in
    (r.0, r.1, elim (r.2) [ inl e ↦ sym (ap (λ (c : Claim). c.owes) e.1) ∙ o.2 | inr e ↦ sym (ap (λ (c : Claim). c.owes) e) ∙ o.2 ])

pub passed_all : (t : Table) (claims : List (Option Claim)) (key : ℕ) → key ≡ next_key t → Changes t.claims claims key (noted called_up) → (rest : List ℕ) → AllBut t rest → AllBut (passed t claims) (key ∷ rest)
passed_all t claims key k f rest all other o =
    elim (all other (called_owes t.claims claims key f other o)) [
      | inl h ↦ ⊎_elim (λ h. inl h) (λ e. inr (inr (among_first key other rest e))) (next_line t (passed t claims) key other (sym k) refl refl refl refl refl refl h)
      | inr (inl h) ↦ inr (inl h)
      | inr (inr h) ↦ inr (inr (among_rest key other rest h))
    ]

-- one who is called up waits no more
called_waits : (t : Table) (claims : List (Option Claim)) (key : ℕ) → Changes t.claims claims key (noted called_up) → (c : Claim) → note_at claims key ≡ Some c → c.is_left ≡ true → ⊥
called_waits t claims key h c g l =
    let r = noted_some called_up (note_at t.claims key) c (sym h.changed ∙ g) in
    let no : c.is_left ≡ false = ap (λ (c : Claim). c.is_left) r.2 in
    let yes : c.is_left ≡ true = l in
    cc (no, yes)

pub passed_table : (t : Table) (claims : List (Option Claim)) (key : ℕ) → IsTable t → key ≡ next_key t → Changes t.claims claims key (noted called_up) → IsTable (passed t claims)
passed_table t claims key i k f = record {
  in_range = λ other c g. let b = note_back t.claims claims key called_up f other c g in i.in_range other b.0 b.1;
  stands = λ other c g l. elim (cases_eq other key) [
    | inl e ↦ absurd (called_waits t claims key f c (ap (note_at claims) (sym e) ∙ g) l)
    | inr n ↦ ⊎_elim (λ h. h) (λ e. absurd (n e)) (next_line t (passed t claims) key other (sym k) refl refl refl refl refl refl (i.stands other c (sym (f.others other n) ∙ g) l))
  ];
  awake = i.awake;
}

--- What is always true

-- one note changes, but not whether its connection waits
pub noted_table : (t : Table) (claims : List (Option Claim)) (key : ℕ) (f : Claim → Claim) → ((c : Claim) → (f c).is_left ≡ c.is_left) → IsTable t → Changes t.claims claims key (noted f) → IsTable (record t { claims = claims })
noted_table t claims key f same i h = record {
  in_range = λ other c g. let b = note_back t.claims claims key f h other c g in i.in_range other b.0 b.1;
  stands = λ other c g l.
      let b = note_back t.claims claims key f h other c g in
      i.stands other b.0 b.1 (elim (b.2) [ inl e ↦ sym (ap (λ (c : Claim). c.is_left) e.1 ∙ same b.0) ∙ l | inr e ↦ sym (ap (λ (c : Claim). c.is_left) e) ∙ l ]);
  awake = i.awake;
}

-- one that stands in line is noted as waiting
pub marked_table : (t : Table) (claims : List (Option Claim)) (key : ℕ) → InLine t key → IsTable t → Changes t.claims claims key (noted left_over) → IsTable (record t { claims = claims })
marked_table t claims key line i h = record {
  in_range = λ other c g. let b = note_back t.claims claims key left_over h other c g in i.in_range other b.0 b.1;
  stands = λ other c g l. elim (cases_eq other key) [
    | inl e ↦ subst (InLine t) (sym e) line
    | inr n ↦ i.stands other c (sym (h.others other n) ∙ g) l
  ];
  awake = i.awake;
}

-- a connection comes, under a key within bounds, or goes
pub seated_table : (t u : Table) (key : ℕ) (f : Option Claim → Option Claim) → ((o : Option Claim) (c : Claim) → f o ≡ Some c → c.is_left ≡ false) → ((c : Claim) → f (note_at t.claims key) ≡ Some c → key < u.key_bound) → IsTable t → Changes t.claims u.claims key f → t.key_bound ≤ u.key_bound → ((other : ℕ) → InLine t other → InLine u other) → StaysAwake u.left u.is_each_left u.timeout → IsTable u
seated_table t u key f fresh within i h bound lines awake = record {
  in_range = λ other c g. elim (cases_eq other key) [
    | inl e ↦ subst (λ k. k < u.key_bound) (sym e) (within c (sym h.changed ∙ (ap (note_at u.claims) (sym e) ∙ g)))
    | inr n ↦ let lt = i.in_range other c (sym (h.others other n) ∙ g) in omega (arith, lt, bound)
  ];
  stands = λ other c g l. elim (cases_eq other key) [
    | inl e ↦ absurd (clash c (fresh (note_at t.claims key) c (sym h.changed ∙ (ap (note_at u.claims) (sym e) ∙ g))) l)
    | inr n ↦ lines other (i.stands other c (sym (h.others other n) ∙ g) l)
  ];
  awake = awake;
}
  where
    clash : (c : Claim) → c.is_left ≡ false → c.is_left ≡ true → ⊥
    clash c n y = cc (n, y)

pub come_fresh : (o : Option Claim) (c : Claim) → come o ≡ Some c → c.is_left ≡ false
come_fresh o c e = let s : record { owes = true; is_left = false } ≡ c = cc e in sym (ap (λ (c : Claim). c.is_left) s)

pub gone_fresh : (o : Option Claim) (c : Claim) → gone o ≡ Some c → c.is_left ≡ false
gone_fresh o c e = absurd (cc e)

-- there is room for more keys
pub wider_table : (t u : Table) → IsTable t → u.claims ≡ t.claims → t.key_bound ≤ u.key_bound → ((other : ℕ) → InLine t other → InLine u other) → StaysAwake u.left u.is_each_left u.timeout → IsTable u
wider_table t u i same bound lines awake = record {
  in_range = λ key c g. let lt = i.in_range key c (sym (ap (λ cs. note_at cs key) same) ∙ g) in omega (arith, lt, bound);
  stands = λ key c g l. lines key (i.stands key c (sym (ap (λ cs. note_at cs key) same) ∙ g) l);
  awake = awake;
}

-- who is told apart changes, and nobody is called who was not
pub stays_attended : (t u : Table) (rest rest' : List ℕ) → IsAttended t rest → u.called ≡ t.called → AllBut u rest' → IsAttended u rest'
stays_attended t u rest rest' a c all = record { all = all; called = c ∙ a.called }

pub lines_called : (t u : Table) (key : ℕ) (timeout : PollTimeout) → LinesUp t u key timeout → u.called ≡ t.called
lines_called t u key timeout (inl e) = ap (λ (t : Table). t.called) e
lines_called t u key timeout (inr e) = ap (λ (t : Table). t.called) e

pub lines_count : (t u : Table) (key : ℕ) (timeout : PollTimeout) → LinesUp t u key timeout → u.count ≡ t.count
lines_count t u key timeout (inl e) = ap (λ (t : Table). t.count) e
lines_count t u key timeout (inr e) = ap (λ (t : Table). t.count) e

pub lines_keys : (t u : Table) (key : ℕ) (timeout : PollTimeout) → LinesUp t u key timeout → u.keys ≡ t.keys
lines_keys t u key timeout (inl e) = ap (λ (t : Table). t.keys) e
lines_keys t u key timeout (inr e) = ap (λ (t : Table). t.keys) e

pub lines_pending : (t u : Table) (key : ℕ) (timeout : PollTimeout) → LinesUp t u key timeout → u.is_pending ≡ t.is_pending
lines_pending t u key timeout (inl e) = ap (λ (t : Table). t.is_pending) e
lines_pending t u key timeout (inr e) = ap (λ (t : Table). t.is_pending) e

-- a key that owes no turn need not be told apart
pub attends_none : (t : Table) (key : ℕ) → (Owes t key → ⊥) → (rest : List ℕ) → IsAttended t (key ∷ rest) → IsAttended t rest
attends_none t key n rest a = stays_attended t t (key ∷ rest) rest a refl (owes_none t key n rest a.all)

-- whoever comes is attended to
pub came_attended : (t u v : Table) (key : ℕ) (timeout : PollTimeout) → Stays t u → u.key_bound ≡ t.key_bound → Changes t.claims u.claims key come → LinesUp u v key timeout → (rest : List ℕ) → IsAttended t rest → IsAttended v rest
came_attended t u v key timeout e b h up rest a =
    stays_attended t v rest rest a (lines_called u v key timeout up ∙ ap (λ (w : Table). w.called) e) (came_all t u v key timeout e b h up rest a.all)

-- so is whoever is left over, and there is room for more
pub left_attended : (t u : Table) (key : ℕ) (timeout : PollTimeout) → Leaves t u key timeout → (rest : List ℕ) → IsAttended t (key ∷ rest) → (AllBut t (key ∷ rest) → AllBut u rest) → IsAttended u rest
left_attended t u key timeout e rest a all =
    stays_attended t u (key ∷ rest) rest a (lines_called (record t { claims = u.claims }) u key timeout e) (all a.all)

pub room_attended : (t u : Table) → Stays t u → u.claims ≡ t.claims → t.key_bound ≤ u.key_bound → (rest : List ℕ) → IsAttended t rest → IsAttended u rest
room_attended t u e same b rest a =
    stays_attended t u rest rest a (ap (λ (w : Table). w.called) e) (all_same t u (stays_lines t u e b) same rest a.all)

--- The law

-- where nobody is due, is named or left over, nobody owes a turn
pub nobody_owes : (t : Table) → AllBut t [] → due_count t ≤ t.served → t.named ≡ [] → t.left ≡ [] → t.is_each_left ≡ false → (key : ℕ) → Owes t key → ⊥
nobody_owes t all d n l e key o =
    elim (all key o) [
      | inl (inl h) ↦ nobody_due t key d h
      | inl (inr (inl h)) ↦ cc (h, e)
      | inl (inr (inr h)) ↦ nobody_in key (subst (λ xs. Contains xs key) l h)
      | inr (inl h) ↦ nobody_in key (subst (λ xs. Contains xs key) n h)
      | inr (inr h) ↦ nobody_in key h
    ]

never_endless : Zero ≡ Endless → ⊥
never_endless h = cc h

pub is_lawful : (t : Table) (timeout : PollTimeout) → IsAttended t [] → IsIdle t ⊎ (timeout ≡ Zero) → StaysAwake t.left t.is_each_left timeout → ((timeout ≡ Zero → ⊥) → WakesNobody t) → timeout ≡ Endless → NobodyIsForgotten t
is_lawful t timeout a (inr z) awake woken e = absurd (never_endless (sym z ∙ e))
is_lawful t timeout a (inl idle) awake woken e = record {
  attended = nobody_owes t a.all idle.0 idle.1 (awake e).0 (awake e).1;
  asked = idle.2;
  called = a.called;
  woken = woken (λ z. never_endless (sym z ∙ e));
}

-- who is woken is no matter of the law else, and a shorter time-out keeps it
pub is_lawful_then : (t u : Table) (most timeout : PollTimeout) → IsAttended t [] → IsIdle t ⊎ (most ≡ Zero) → StaysAwake t.left t.is_each_left most → u ≡ record t { to_wake = u.to_wake } → ((most ≡ Zero → ⊥) → WakesNobody u) → (timeout ≡ most) ⊎ (timeout ≡ Zero) → timeout ≡ Endless → NobodyIsForgotten u
is_lawful_then t u most timeout a idle awake same woken (inr z) e = absurd (never_endless (sym z ∙ e))
is_lawful_then t u most timeout a idle awake same woken (inl is) e =
    let law = is_lawful (record t { to_wake = u.to_wake }) most (record { all = a.all; called = a.called }) idle awake (λ n. subst WakesNobody same (woken n)) (sym is ∙ e) in
    subst NobodyIsForgotten (sym same) law

pub wakes_then : (t : Table) (most timeout : PollTimeout) → ((most ≡ Zero → ⊥) → WakesNobody t) → (timeout ≡ most) ⊎ (timeout ≡ Zero) → (timeout ≡ Zero → ⊥) → WakesNobody t
wakes_then t most timeout woken (inr z) n = absurd (n z)
wakes_then t most timeout woken (inl is) n = woken (λ z. n (is ∙ z))

-- Logs that follow a lobby, event by event.
use Rattle.std.proofs.Common.{◌≡◌, ◌≢◌, ℕ, zero, suc, ◌+◌, ◌-◌, ◌≤◌, ◌<◌, List, [], ◌∷◌, ◌++◌, length, take, filter, min, refl, sym, ap, subst, ◌∙◌, Bool, true, false, cond, not, inl, inr, arith, length-append, length-drop, length-take, append-nil}
use Rattle.std.specs.Prelude.{Option, Some, None, IfSome, is_some, slice_get, slice_index_or, ◌&&◌, ◌||◌, ◌⊎◌, if◌then◌else◌}
use Rattle.std.specs.List.{AllByRecursion}
use Rattle.std.specs.Option.{option_map}
use Rattle.std.specs.Ordering.{nat_cmp}
use Rattle.std.specs.Cmp.{nat_cmp_total}
use Rattle.std.specs.FinMap.{nat_cmp-IsAntisymmetric}
use Rattle.std.proofs.lemmas.List.{drop_all}
use Rattle.std.proofs.lemmas.Option.{same_Some}
use Rattle.command_grammar.specs.declared.command.Request.{Request}
use Rattle.account_book.specs.Account.{Account}
use Rattle.line_words.specs.Table.{ByNumber, at_number, same_number}
use Rattle.line_words.proofs.Tables.{at-put, at-without, at-change}
use Rattle.lobby_model.specs.declared.event.Event.{Event}
use Rattle.lobby_model.specs.declared.event.Event.TheVariants as event
use Rattle.lobby_model.specs.declared.event.Phase.{Phase}
use Rattle.lobby_model.specs.Configuration.{Configuration}
use Rattle.lobby_model.specs.State.{State, Client, empty_lobby, is_live, in_phase, set_phase, name_of}
use Rattle.lobby_model.specs.Sessions.{has_place, disconnects, drained, greeted}
use Rattle.lobby_model.specs.Events.{effect}
use Rattle.lobby_model.specs.Next.{next, batch, with_batch, is_empty}
use Rattle.lobby_model.specs.Touched.{is_touched}
use Rattle.lobby_model.specs.Outcome.{state_after}
use Rattle.lobby_model.proofs.Decided.{given_place}
use Rattle.lobby_model.proofs.Delivered.{dead, with_batch_nil, same_number_is, same_itself, delivered_at}
use Rattle.lobby_model.proofs.Inside.{departed}
use Rattle.lobby_model.proofs.Origins.{says, undelivered, last_after}
use Rattle.lobby_model.proofs.Quiet.{touched_is, greeted_at}
use Rattle.lobby_post.specs.Posted.{has_number}
use Rattle.lobby_post.specs.Dirty.{times}
use Rattle.lobby_machine.specs.Dirty.{DirtyAfter, is_changed, changes}
use Rattle.lobby_machine.specs.Shown.{Shown, dirty_at, unread_of}
use Rattle.lobby_hall.specs.ByClient.{of_client}
use Rattle.lobby_hall.specs.Record.{Log}
use Rattle.lobby_hall.specs.Copied.{lacking, completed_log, completed_from, completed, no_log, IsWithin, changed, changed_at, caught_up, read_on}
use Rattle.lobby_hall.specs.Following.{IsFull, IsUnlisted, Follows, StillFollows}
use Rattle.lobby_hall.proofs.Each.{at_each, not_same}
use Rattle.lobby_hall.proofs.Unread.{unread_nobody, unread_there, unread_same}
use Rattle.lobby_hall.proofs.Changed.{of-changed_same, of-changed_other, length-changed_at}
use Rattle.lobby_hall.proofs.Logs.{lacking-completed, completed_twice}
use Rattle.lobby_hall.proofs.Recorded.{of-within}
use Rattle.lobby_hall.proofs.Kept.{open_gives}
use Rattle.lobby_hall.proofs.Drained.{drained_at, drained_other, drained_same}
use Rattle.lobby_hall.proofs.Opened.{of-append_some, of-append_past}
use Rattle.lobby_post.proofs.Listings.{with_batch-home}
use Rattle.std.proofs.lemmas.Bool.{or_parts}

-- Lists of numbers.

has-append : (xs ys : List ℕ) (c : ℕ) → has_number (xs ++ ys) c ≡ (has_number xs c || has_number ys c)
has-append [] ys c = refl
has-append (x ∷ xs) ys c = elim (same_number c x) as (λ b. (b || has_number (xs ++ ys) c) ≡ ((b || has_number xs c) || has_number ys c)) [
  | true ↦ refl
  | false ↦ has-append xs ys c
]

has-filter : (p : ℕ → Bool) (xs : List ℕ) (c : ℕ) → p c ≡ true → has_number xs c ≡ true → has_number (filter p xs) c ≡ true
has-filter p [] c passes has = absurd (cc)
has-filter p (x ∷ xs) c passes has =
    elim (same_number c x) as (λ b. same_number c x ≡ b → (b || has_number xs c) ≡ true → has_number (cond (p x) (x ∷ filter p xs) (filter p xs)) c ≡ true) [
      | true ↦ λ t h.
          let px : p x ≡ true = ap p (sym (same_number_is c x t)) ∙ passes in
          ap (λ b. has_number (cond b (x ∷ filter p xs) (filter p xs)) c) px ∙ ap (λ b. b || has_number (filter p xs) c) t
      | false ↦ λ t h. elim (p x) as (λ b. has_number (cond b (x ∷ filter p xs) (filter p xs)) c ≡ true) [
        | true ↦ ap (λ b. b || has_number (filter p xs) c) t ∙ has-filter p xs c passes h
        | false ↦ has-filter p xs c passes h
      ]
    ] refl has

has-times : (xs : List ℕ) (c : ℕ) → 0 < times c xs → has_number xs c ≡ true
has-times [] c more = absurd (omega (arith, more))
has-times (x ∷ xs) c more =
    elim (same_number c x) as (λ b. 0 < (if b then 1 else 0) + times c xs → (b || has_number xs c) ≡ true) [
      | true ↦ λ h. refl
      | false ↦ λ h. has-times xs c (omega (arith, h))
    ] more

abbrev is_there : State → ℕ → Bool
is_there s c = is_some (at_number s.clients c)

-- a client that an event touched stands in its worker's list
stands : (s : State) (e : Event) (home c : ℕ) (old new : List ℕ) → DirtyAfter s e home old new → changes s e home c ≡ true → is_there (next s e) c ≡ true → has_number new c ≡ true
stands s e home c old new after touched there =
    ap (λ xs. has_number xs c) after.is ∙ has-append (filter (is_there (next s e)) old) after.behind c
    ∙ elim (has_number old c) as (λ b. has_number old c ≡ b → (has_number (filter (is_there (next s e)) old) c || has_number after.behind c) ≡ true) [
      | true ↦ λ has. ap (λ b. b || has_number after.behind c) (has-filter (is_there (next s e)) old c there has)
      | false ↦ λ has.
          let once : times c after.behind ≡ 1 = after.exact c ∙ (λ i. if touched i && not (has i) then 1 else 0) in
          ap (λ b. has_number (filter (is_there (next s e)) old) c || b) (has-times after.behind c (omega (arith, once)))
          ∙ elim (has_number (filter (is_there (next s e)) old) c) as (λ b. (b || true) ≡ true) [ true ↦ refl | false ↦ refl ]
    ] refl

-- What an event makes of a client.

-- the client was there before, with the same worker and the same unread bytes
abbrev Came : Option Client → Client → Type 0
Came before y = (x : Client) × (before ≡ Some x) × (y.home ≡ x.home) × (y.unread ≡ x.unread)

came_itself : (before : Option Client) (y : Client) → before ≡ Some y → Came before y
came_itself before y f = (y, f, refl, refl)

phase_came : (d : ℕ) (m : ByNumber Client) (phase : Phase) (c : ℕ) (y : Client) → at_number (set_phase m d phase) c ≡ Some y → Came (at_number m c) y
phase_came d m phase c y f =
    elim (at_number m c) as (λ o. at_number m c ≡ o → option_map (λ x. if same_number d c then in_phase phase x else x) o ≡ Some y → Came (at_number m c) y) [
      | None ↦ λ g e. absurd (cc)
      | Some x ↦ λ g e.
          let is : (if same_number d c then in_phase phase x else x) ≡ y = same_Some _ y e in (
            x,
            g,
            ap (λ (z : Client). z.home) (sym is) ∙ elim (same_number d c) as (λ b. (if b then in_phase phase x else x).home ≡ x.home) [ true ↦ refl | false ↦ refl ],
            ap (λ (z : Client). z.unread) (sym is) ∙ elim (same_number d c) as (λ b. (if b then in_phase phase x else x).unread ≡ x.unread) [ true ↦ refl | false ↦ refl ],
          )
    ] refl (sym (at-change nat_cmp nat_cmp-IsAntisymmetric (in_phase phase) m d c) ∙ f)

-- an event whose effect keeps the workers and the unread bytes of all clients
abbrev Keeps : State → Event → Type 0
Keeps s e = (c : ℕ) (y : Client) → at_number (effect s e).clients c ≡ Some y → Came (at_number s.clients c) y

say_came : (s : State) (d : ℕ) (request : Request) → Keeps s (event.Say d request)
say_came s d request c y f =
    elim ((says s d request).clients) as (λ way. Came (at_number s.clients c) y) [
      | inl same ↦ came_itself _ y (ap (λ m. at_number m c) (sym same) ∙ f)
      | inr change ↦ phase_came d s.clients change.0 c y (ap (λ m. at_number m c) (sym change.1) ∙ f)
    ]

shut_came : (s : State) (d : ℕ) → Keeps s (event.Shut d)
shut_came s d c y f =
    elim (not (same_number d c)) as (λ b. cond b (at_number s.clients c) None ≡ Some y → Came (at_number s.clients c) y) [
      | true ↦ λ g. came_itself _ y g
      | false ↦ λ g. absurd (cc)
    ] (sym (at-without nat_cmp nat_cmp_total s.clients d c)
    ∙ ap (λ (t : State). at_number t.clients c) (sym (departed s (name_of s d) (disconnects d))) ∙ f)

nothing : (bytes : List ℕ) → is_empty bytes ≡ true → bytes ≡ []
nothing [] e = refl
nothing (b ∷ bytes) e = absurd (cc)

second : (a b : Bool) → (a && not b) ≡ false → a ≡ true → b ≡ true
second true true e t = refl
second true false e t = absurd (cc)
second false b e t = absurd (cc)

-- a client that is not touched has the same unread bytes
untouched : (limit : ℕ) (bytes : List ℕ) (y : Client) → is_touched limit bytes y ≡ false → with_batch limit bytes y ≡ y
untouched limit bytes y e =
    elim (is_live y) as (λ l. is_live y ≡ l → with_batch limit bytes y ≡ y) [
      | true ↦ λ live. ap (λ b. with_batch limit b y) (nothing bytes (second (is_live y) (is_empty bytes) (sym (touched_is limit bytes y) ∙ e) live)) ∙ with_batch_nil limit y
      | false ↦ λ gone. dead limit bytes y gone
    ] refl

-- Logs that lack nothing.

full_empty : (logs : List Log) (s : State) (c : ℕ) → unread_of s c ≡ [] → IsFull logs s c
full_empty logs s c none = elim (of_client logs c) as (λ o. IfSome o (λ log. lacking log (unread_of s c) ≡ [])) [
  | None ↦ tt
  | Some log ↦ ap (lacking log) none ∙ drop_all (length log.put - length log.read) [] (omega arith)
]

full_same : (logs : List Log) (s t : State) (c : ℕ) → unread_of t c ≡ unread_of s c → IsFull logs s c → IsFull logs t c
full_same logs s t c same full = subst (λ u. IfSome (of_client logs c) (λ log. lacking log u ≡ [])) (sym same) full

full_get : (c : ℕ) (logs : List Log) (s : State) → ((k : ℕ) → IfSome (slice_get logs k) (λ log. lacking log (unread_of s (k + c)) ≡ [])) → completed_from c logs s ≡ logs
full_get c [] s full = refl
full_get c (log ∷ logs) s full =
    let here : lacking log (unread_of s c) ≡ [] = subst (λ n. lacking log (unread_of s n) ≡ []) (let e : 0 + c ≡ c = omega arith in e) (full 0) in
    let first : completed_log log (unread_of s c) ≡ log = ap (λ (more : List ℕ). record { put = log.put ++ more; read = log.read }) here ∙ ap (λ (put : List ℕ). record { put = put; read = log.read }) (append-nil log.put) in
    let rest : completed_from (suc c) logs s ≡ logs = full_get (suc c) logs s (λ k. subst (λ n. IfSome (slice_get logs k) (λ log. lacking log (unread_of s n) ≡ [])) (let e : suc k + c ≡ k + suc c = omega arith in e) (full (suc k))) in
    λ i. first i ∷ rest i

-- where no log lacks anything, the record is complete
pub full_record : (logs : List Log) (s : State) → ((c : ℕ) → IsFull logs s c) → completed logs s ≡ logs
full_record logs s full = full_get 1 logs s (λ k. subst (λ n. IfSome (slice_get logs k) (λ log. lacking log (unread_of s n) ≡ [])) (let e : suc k ≡ k + 1 = omega arith in e) (full (suc k)))

-- One client is caught up with.

completed-changed : (c k : ℕ) (logs : List Log) (s : State) → AllByRecursion IsWithin logs → completed_from c (changed (λ log. completed_log log (unread_of s (k + c))) logs k) s ≡ completed_from c logs s
completed-changed c k [] s within = refl
completed-changed c zero (log ∷ logs) s within =
    let same : 0 + c ≡ c = omega arith in
    ap (λ l. l ∷ completed_from (suc c) logs s) (ap (λ n. completed_log (completed_log log (unread_of s n)) (unread_of s c)) same ∙ completed_twice log (unread_of s c) within.0)
completed-changed c (suc k) (log ∷ logs) s within =
    let same : suc k + c ≡ k + suc c = omega arith in
    ap (λ ls. completed_log log (unread_of s c) ∷ ls) (ap (λ n. completed_from (suc c) (changed (λ log. completed_log log (unread_of s n)) logs k) s) same ∙ completed-changed (suc c) k logs s within.1)

-- the record that it makes complete stays the same
pub completed-caught_up : (logs : List Log) (s : State) (c : ℕ) → AllByRecursion IsWithin logs → completed (caught_up logs s c) s ≡ completed logs s
completed-caught_up logs s zero within = refl
completed-caught_up logs s (suc k) within =
    let same : suc k ≡ k + 1 = omega arith in
    ap (λ n. completed_from 1 (changed (λ log. completed_log log (unread_of s n)) logs k) s) same ∙ completed-changed 1 k logs s within

within-changed : (f : Log → Log) → ((log : Log) → IsWithin log → IsWithin (f log)) → (logs : List Log) (k : ℕ) → AllByRecursion IsWithin logs → AllByRecursion IsWithin (changed f logs k)
within-changed f keeps [] k within = tt
within-changed f keeps (log ∷ logs) zero within = (keeps log within.0, within.1)
within-changed f keeps (log ∷ logs) (suc k) within = (within.0, within-changed f keeps logs k within.1)

within-changed_at : (f : Log → Log) → ((log : Log) → IsWithin log → IsWithin (f log)) → (logs : List Log) (c : ℕ) → AllByRecursion IsWithin logs → AllByRecursion IsWithin (changed_at f logs c)
within-changed_at f keeps logs zero within = within
within-changed_at f keeps logs (suc k) within = within-changed f keeps logs k within

completed_log_within : (unread : List ℕ) (log : Log) → IsWithin log → IsWithin (completed_log log unread)
completed_log_within unread log within = omega (arith, within, length-append log.put (lacking log unread))

full_caught : (logs : List Log) (s : State) (c : ℕ) → AllByRecursion IsWithin logs → IsFull (caught_up logs s c) s c
full_caught logs s c within =
    subst (λ o. IfSome o (λ log. lacking log (unread_of s c) ≡ [])) (sym (of-changed_same (λ log. completed_log log (unread_of s c)) logs c))
    (elim (of_client logs c) as (λ o. IfSome o IsWithin → IfSome (option_map (λ log. completed_log log (unread_of s c)) o) (λ log. lacking log (unread_of s c) ≡ [])) [
      | None ↦ λ w. tt
      | Some log ↦ λ w. lacking-completed log (unread_of s c) w
    ] (of-within IsWithin logs c within))

module _ (homes : ℕ) (lobby : Shown) (logs : List Log) (c : ℕ) where
  -- it is not behind any more
  pub follows_caught : Follows homes lobby (Some c) logs → Follows homes lobby None (caught_up logs lobby.plain c)
  follows_caught f = record {
    few = f.few;
    homed = f.homed;
    one_log_each = length-changed_at (λ log. completed_log log (unread_of lobby.plain c)) logs c ∙ f.one_log_each;
    within = within-changed_at _ (completed_log_within (unread_of lobby.plain c)) logs c f.within;
    full = λ q unlisted _. at_each (λ q. IsUnlisted homes lobby q → IsFull (caught_up logs lobby.plain c) lobby.plain q) c
        (λ u. full_caught logs lobby.plain c f.within)
        (λ q ne u. subst (λ o. IfSome o (λ log. lacking log (unread_of lobby.plain q) ≡ [])) (sym (of-changed_other (λ log. completed_log log (unread_of lobby.plain c)) logs c q ne))
        (f.full q u (λ e. ne (sym (same_Some c q e)))))
        q unlisted;
  }

  -- it is taken out of its list, and is behind
  pub follows_taken : (home : ℕ) (new : Shown) → Follows homes lobby None logs → new.plain ≡ lobby.plain → dirty_at lobby home ≡ c ∷ dirty_at new home
      → ((worker : ℕ) → worker ≤ 63 → same_number home worker ≡ false → dirty_at new worker ≡ dirty_at lobby worker) → Follows homes new (Some c) logs
  follows_taken home new f same taken others = record {
    few = f.few;
    homed = λ q x found. f.homed q x (ap (λ (s : State). at_number s.clients q) (sym same) ∙ found);
    one_log_each = f.one_log_each ∙ ap (λ (s : State). s.last_client) (sym same);
    within = f.within;
    full = λ q unlisted ne. subst (λ s. IsFull logs s q) (sym same) (f.full q
        (λ worker small. elim (same_number home worker) as (λ b. same_number home worker ≡ b → has_number (dirty_at lobby worker) q ≡ false) [
          | true ↦ λ t.
              let is : home ≡ worker = same_number_is home worker t in
              ap (λ w. has_number (dirty_at lobby w) q) (sym is) ∙ ap (λ xs. has_number xs q) taken
              ∙ ap (λ b. b || has_number (dirty_at new home) q) (not_same q c (λ e. ne (ap (λ n. Some n) (sym e))))
              ∙ ap (λ w. has_number (dirty_at new w) q) is ∙ unlisted worker small
          | false ↦ λ t. ap (λ xs. has_number xs q) (sym (others worker (omega (arith, small, f.few)) t)) ∙ unlisted worker small
        ] refl)
        (λ e. absurd (cc)));
  }

-- Logs that follow still, where one more client of a worker's list is taken out and caught up with, or the list is empty.
module _ (lobby mid new : Shown) (behind now : Option ℕ) (logs ls : List Log) (home : ℕ) (still : StillFollows lobby behind logs mid now ls)
    (same : new.plain ≡ mid.plain) (others : (worker : ℕ) → worker ≤ 63 → same_number home worker ≡ false → dirty_at new worker ≡ dirty_at mid worker) where
  pub still_taken : (c : ℕ) (later : Option ℕ) (more : List Log) → mid.plain ≡ lobby.plain → now ≡ None → dirty_at mid home ≡ c ∷ dirty_at new home
      → StillFollows new (Some c) ls new later more → StillFollows lobby behind logs new later more
  still_taken c later more plain none taken next =
      λ homes f.
      let one = still homes f in
      let two = next homes (follows_taken homes mid ls c home new (subst (λ b. Follows homes mid b ls) none one.0) same taken others) in
      (two.0, subst (λ s. completed more s ≡ completed ls s) (same ∙ plain) two.1 ∙ one.1)

  pub still_nobody : dirty_at mid home ≡ dirty_at new home → StillFollows lobby behind logs new now ls
  still_nobody first =
      λ homes f.
      let one = still homes f in (
        record {
          few = one.0.few;
          homed = λ q x found. one.0.homed q x (ap (λ (s : State). at_number s.clients q) (sym same) ∙ found);
          one_log_each = one.0.one_log_each ∙ ap (λ (s : State). s.last_client) (sym same);
          within = one.0.within;
          full = λ q unlisted ne. subst (λ s. IsFull ls s q) (sym same) (one.0.full q
              (λ worker small. ap (λ xs. has_number xs q) (elim (same_number home worker) as (λ b. same_number home worker ≡ b → dirty_at mid worker ≡ dirty_at new worker) [
                | true ↦ λ t. subst (λ w. dirty_at mid w ≡ dirty_at new w) (same_number_is home worker t) first
                | false ↦ λ t. sym (others worker (omega (arith, small, one.0.few)) t)
              ] refl) ∙ unlisted worker small)
              ne);
        },
        one.1,
      )

-- Where all lists are empty and nobody is behind, the record is complete.
pub all_full : (homes : ℕ) (lobby : Shown) (logs : List Log) → Follows homes lobby None logs → ((home : ℕ) → home < homes → dirty_at lobby home ≡ []) → (c : ℕ) → IsFull logs lobby.plain c
all_full homes lobby logs f served c = f.full c (λ home small. ap (λ xs. has_number xs c) (served home small)) (λ e. absurd (cc))

-- Events.

pub follows_new : (lobby : Shown) (settings : Configuration) (accounts : List Account) → lobby.plain ≡ empty_lobby settings accounts → Follows 0 lobby None []
follows_new lobby settings accounts is = record {
  few = omega arith;
  homed = λ c x found. absurd (let e : None ≡ Some x = ap (λ (s : State). at_number s.clients c) (sym is) ∙ found in cc);
  one_log_each = sym (ap (λ (s : State). s.last_client) is);
  within = tt;
  full = λ c unlisted ne. full_empty [] lobby.plain c (ap (λ s. unread_of s c) is);
}

module _ (homes : ℕ) (lobby : Shown) (behind : Option ℕ) (logs : List Log) (f : Follows homes lobby behind logs) where
  module _ (e : Event) (new : Shown) (keeps : Keeps lobby.plain e) (is : new.plain ≡ next lobby.plain e) where
    -- a client that is there afterwards was there before
    before : (c : ℕ) (z : Client) → at_number (next lobby.plain e).clients c ≡ Some z
        → (y : Client) × (at_number (effect lobby.plain e).clients c ≡ Some y) × (with_batch lobby.plain.settings.outbox_limit (batch lobby.plain e c) y ≡ z) × Came (at_number lobby.plain.clients c) y
    before c z found =
        let got = undelivered lobby.plain e c z found in
        (got.0, got.1, got.2, keeps c got.0 got.1)

    home_before : (c : ℕ) (z : Client) (found : at_number (next lobby.plain e).clients c ≡ Some z) → (before c z found).0.home < homes
    home_before c z found =
        let b = before c z found in
        subst (λ h. h < homes) (sym b.3.2) (f.homed c b.3.0 b.3.1)

    homed_after : (c : ℕ) (z : Client) → at_number (next lobby.plain e).clients c ≡ Some z → z.home < homes
    homed_after c z found =
        let b = before c z found in
        subst (λ h. h < homes) (sym (with_batch-home lobby.plain.settings.outbox_limit (batch lobby.plain e c) b.0) ∙ ap (λ (x : Client). x.home) b.2) (home_before c z found)

    unread_after : ((home : ℕ) → home ≤ 63 → DirtyAfter lobby.plain e home (dirty_at lobby home) (dirty_at new home)) → (c : ℕ) → IsUnlisted homes new c
        → (unread_of (next lobby.plain e) c ≡ []) ⊎ (unread_of (next lobby.plain e) c ≡ unread_of lobby.plain c)
    unread_after dirty c unlisted =
        elim (at_number (next lobby.plain e).clients c) as (λ o. at_number (next lobby.plain e).clients c ≡ o → (unread_of (next lobby.plain e) c ≡ []) ⊎ (unread_of (next lobby.plain e) c ≡ unread_of lobby.plain c)) [
          | None ↦ λ found. inl (unread_nobody (next lobby.plain e) c found)
          | Some z ↦ λ found.
              let limit = lobby.plain.settings.outbox_limit in
              let b = before c z found in
              let small : b.0.home < homes = home_before c z found in
              inr (elim (is_touched limit (batch lobby.plain e c) b.0) as (λ t. is_touched limit (batch lobby.plain e c) b.0 ≡ t → unread_of (next lobby.plain e) c ≡ unread_of lobby.plain c) [
                | true ↦ λ touched.
                    let here : changes lobby.plain e b.0.home c ≡ true =
                    ap (is_changed limit (batch lobby.plain e c) b.0.home) b.1 ∙ (λ i. same_itself b.0.home i && touched i) in
                    absurd (let no : true ≡ false = sym (stands lobby.plain e b.0.home c _ _ (dirty b.0.home (omega (arith, small, f.few))) here (ap is_some found)) ∙ unlisted b.0.home small in cc)
                | false ↦ λ quiet.
                    unread_there (next lobby.plain e) c z found ∙ ap (λ (x : Client). x.unread) (sym b.2 ∙ untouched limit (batch lobby.plain e c) b.0 quiet)
                    ∙ b.3.3 ∙ sym (unread_there lobby.plain c b.3.0 b.3.1)
              ] refl)
        ] refl

    -- a command or the end of a connection, where the record was complete before it
    follows_event : ((c : ℕ) → IsFull logs lobby.plain c) → ((home : ℕ) → home ≤ 63 → DirtyAfter lobby.plain e home (dirty_at lobby home) (dirty_at new home))
        → (next lobby.plain e).last_client ≡ lobby.plain.last_client → Follows homes new behind logs
    follows_event all dirty last = record {
      few = f.few;
      homed = λ c z found. homed_after c z (ap (λ (s : State). at_number s.clients c) (sym is) ∙ found);
      one_log_each = f.one_log_each ∙ sym last ∙ ap (λ (s : State). s.last_client) (sym is);
      within = f.within;
      full = λ c unlisted ne. subst (λ s. IsFull logs s c) (sym is)
          (elim (unread_after dirty c unlisted) as (λ way. IsFull logs (next lobby.plain e) c) [
            | inl none ↦ full_empty logs (next lobby.plain e) c none
            | inr same ↦ full_same logs lobby.plain (next lobby.plain e) c same (all c)
          ]);
    }

  pub follows_say : (d : ℕ) (request : Request) (new : Shown) → ((c : ℕ) → IsFull logs lobby.plain c) → new.plain ≡ next lobby.plain (event.Say d request)
      → ((home : ℕ) → home ≤ 63 → DirtyAfter lobby.plain (event.Say d request) home (dirty_at lobby home) (dirty_at new home)) → Follows homes new behind logs
  follows_say d request new all is dirty = follows_event (event.Say d request) new (say_came lobby.plain d request) is all dirty (last_after lobby.plain (event.Say d request))

  pub follows_shut : (d : ℕ) (new : Shown) → ((c : ℕ) → IsFull logs lobby.plain c) → new.plain ≡ next lobby.plain (event.Shut d)
      → ((home : ℕ) → home ≤ 63 → DirtyAfter lobby.plain (event.Shut d) home (dirty_at lobby home) (dirty_at new home)) → Follows homes new behind logs
  follows_shut d new all is dirty = follows_event (event.Shut d) new (shut_came lobby.plain d) is all dirty (last_after lobby.plain (event.Shut d))

-- An open.

within-append : (logs : List Log) (log : Log) → AllByRecursion IsWithin logs → IsWithin log → AllByRecursion IsWithin (logs ++ log ∷ [])
within-append [] log within here = (here, tt)
within-append (first ∷ logs) log within here = (within.0, within-append logs log within.1 here)

full-append : (logs : List Log) (s t : State) (c : ℕ) → c ≢ suc (length logs) → unread_of t c ≡ unread_of s c → IsFull logs s c → IsFull (logs ++ no_log ∷ []) t c
full-append logs s t c ne same full =
    elim (of_client logs c) as (λ o. of_client logs c ≡ o → IfSome o (λ log. lacking log (unread_of s c) ≡ []) → IsFull (logs ++ no_log ∷ []) t c) [
      | None ↦ λ none f. subst (λ o. IfSome o (λ log. lacking log (unread_of t c) ≡ [])) (sym (of-append_past logs no_log c none ne)) tt
      | Some log ↦ λ found f. subst (λ o. IfSome o (λ log. lacking log (unread_of t c) ≡ [])) (sym (of-append_some logs (no_log ∷ []) c log found))
          (subst (λ u. lacking log u ≡ []) (sym same) f)
    ] refl full

module _ (s : State) (ip : List ℕ) (home : ℕ) (place : has_place s ≡ true) where
  opened_at : (c : ℕ) → at_number (next s (event.Open ip home)).clients c
      ≡ option_map (with_batch s.settings.outbox_limit (batch s (event.Open ip home) c)) (cond (same_number c (s.last_client + 1)) (Some (greeted ip home)) (at_number s.clients c))
  opened_at c =
      delivered_at s (event.Open ip home) c
      ∙ ap (option_map (with_batch s.settings.outbox_limit (batch s (event.Open ip home) c)))
      (ap (λ o. at_number (state_after s o).clients c) (given_place s ip home place) ∙ at-put nat_cmp nat_cmp_total s.clients (s.last_client + 1) (greeted ip home) c)

  -- who was there is as it was
  opened_other : (c : ℕ) → same_number c (s.last_client + 1) ≡ false → at_number (next s (event.Open ip home)).clients c ≡ at_number s.clients c
  opened_other c other =
      opened_at c
      ∙ (λ i. option_map (with_batch s.settings.outbox_limit (greeted_at s ip home place c false other i)) (cond (other i) (Some (greeted ip home)) (at_number s.clients c)))
      ∙ elim (at_number s.clients c) as (λ o. option_map (with_batch s.settings.outbox_limit []) o ≡ o) [
        | None ↦ refl
        | Some x ↦ ap (λ y. Some y) (with_batch_nil s.settings.outbox_limit x)
      ]

  -- and the next client is of this worker
  opened_home : (c : ℕ) (z : Client) → same_number c (s.last_client + 1) ≡ true → at_number (next s (event.Open ip home)).clients c ≡ Some z → z.home ≡ home
  opened_home c z here found =
      let limit = s.settings.outbox_limit in
      let bytes = batch s (event.Open ip home) c in
      let is : with_batch limit bytes (greeted ip home) ≡ z =
      same_Some _ z (sym (opened_at c ∙ ap (λ b. option_map (with_batch limit bytes) (cond b (Some (greeted ip home)) (at_number s.clients c))) here) ∙ found) in
      ap (λ (x : Client). x.home) (sym is) ∙ with_batch-home limit bytes (greeted ip home)

module _ (homes : ℕ) (lobby : Shown) (behind : Option ℕ) (logs : List Log) (f : Follows homes lobby behind logs) where
  -- a client of a worker is let in, and is the last in that worker's list
  pub follows_open : (ip : List ℕ) (home more number : ℕ) (new : Shown) → has_place lobby.plain ≡ true → new.plain ≡ next lobby.plain (event.Open ip home)
      → homes ≤ more → home < more → more ≤ 64 → number ≡ lobby.plain.last_client + 1
      → ((worker : ℕ) → worker ≤ 63 → dirty_at new worker ≡ dirty_at lobby worker ++ (if same_number home worker then number ∷ [] else []))
      → Follows more new behind (logs ++ no_log ∷ [])
  follows_open ip home more number new place is wide here few numbered dirty =
      let s = lobby.plain in
      let later : State = next s (event.Open ip home) in
      record {
        few = few;
        homed = λ c z found.
            let there : at_number later.clients c ≡ Some z = ap (λ (t : State). at_number t.clients c) (sym is) ∙ found in
            elim (same_number c (s.last_client + 1)) as (λ b. same_number c (s.last_client + 1) ≡ b → z.home < more) [
              | true ↦ λ t. omega (arith, here, opened_home s ip home place c z t there)
              | false ↦ λ t. omega (arith, wide, f.homed c z (sym (opened_other s ip home place c t) ∙ there))
            ] refl;
        one_log_each = length-append logs (no_log ∷ []) ∙ ap (λ n. n + 1) f.one_log_each ∙ sym (open_gives s ip home place) ∙ ap (λ (t : State). t.last_client) (sym is);
        within = within-append logs no_log f.within (omega arith);
        full = λ c unlisted ne.
            elim (same_number c (s.last_client + 1)) as (λ b. same_number c (s.last_client + 1) ≡ b → IsFull (logs ++ no_log ∷ []) new.plain c) [
              | true ↦ λ t. absurd (
                  let stands_there : has_number (dirty_at new home) c ≡ true =
                  ap (λ xs. has_number xs c) (dirty home (omega (arith, here, few))) ∙ ap (λ b. has_number (dirty_at lobby home ++ (if b then number ∷ [] else [])) c) (same_itself home)
                  ∙ has-append (dirty_at lobby home) (number ∷ []) c ∙ ap (λ n. has_number (dirty_at lobby home) c || (same_number c n || false)) numbered
                  ∙ ap (λ b. has_number (dirty_at lobby home) c || (b || false)) t
                  ∙ elim (has_number (dirty_at lobby home) c) as (λ b. (b || true) ≡ true) [ true ↦ refl | false ↦ refl ] in
                  let no : true ≡ false = sym stands_there ∙ unlisted home here in
                  cc)
              | false ↦ λ t. subst (λ t. IsFull (logs ++ no_log ∷ []) t c) (sym is)
                  (full-append logs s later c
                  (λ e. let no : true ≡ false = sym (same_itself c) ∙ ap (same_number c) (let k : c ≡ s.last_client + 1 = omega (arith, e, f.one_log_each) in k) ∙ t in absurd (cc))
                  (unread_same s later c (opened_other s ip home place c t))
                  (f.full c
                  (λ worker small. (or_parts _ _ (sym (has-append (dirty_at lobby worker) (if same_number home worker then number ∷ [] else []) c)
                  ∙ ap (λ xs. has_number xs c) (sym (dirty worker (omega (arith, small, f.few)))) ∙ unlisted worker (omega (arith, small, wide)))).0)
                  ne))
            ] refl;
      }

  -- a client reads, whose log lacks nothing
  pub follows_drain : (c room got : ℕ) (new : Shown) (ls : List Log) → new.plain ≡ next lobby.plain (event.Drain c room) → new.dirty ≡ lobby.dirty
      → got ≡ min (length (unread_of lobby.plain c)) room → ls ≡ changed_at (read_on got) (caught_up logs lobby.plain c) c → Follows homes new behind ls
  follows_drain c room got new ls is same got_is read =
      let s = lobby.plain in
      let later : State = next s (event.Drain c room) in
      let caught : List Log = caught_up logs s c in
      subst (Follows homes new behind) (sym read) (record {
        few = f.few;
        homed = λ q z found.
            let there : option_map (λ x. if same_number c q then drained room x else x) (at_number s.clients q) ≡ Some z =
            sym (drained_at s c room q) ∙ ap (λ (t : State). at_number t.clients q) (sym is) ∙ found in
            elim (at_number s.clients q) as (λ o. at_number s.clients q ≡ o → option_map (λ x. if same_number c q then drained room x else x) o ≡ Some z → z.home < homes) [
              | None ↦ λ none e. absurd (cc)
              | Some x ↦ λ was e. subst (λ h. h < homes)
                  (elim (same_number c q) as (λ b. x.home ≡ (if b then drained room x else x).home) [ true ↦ refl | false ↦ refl ]
                  ∙ ap (λ (y : Client). y.home) (same_Some _ z e)) (f.homed q x was)
            ] refl there;
        one_log_each = length-changed_at (read_on got) caught c ∙ length-changed_at (λ log. completed_log log (unread_of s c)) logs c ∙ f.one_log_each
            ∙ sym (last_after s (event.Drain c room)) ∙ ap (λ (t : State). t.last_client) (sym is);
        within = within-changed_at (read_on got) (λ log within. omega (arith, length-take (length log.read + got) log.put)) caught c
            (within-changed_at _ (completed_log_within (unread_of s c)) logs c f.within);
        full = λ q unlisted ne. subst (λ t. IsFull (changed_at (read_on got) caught c) t q) (sym is)
            (at_each (λ q. IsUnlisted homes lobby q → behind ≢ Some q → IsFull (changed_at (read_on got) caught c) later q) c
            (λ u n. own)
            (λ q other u n. subst (λ o. IfSome o (λ log. lacking log (unread_of later q) ≡ []))
            (sym (of-changed_other (read_on got) caught c q other ∙ of-changed_other (λ log. completed_log log (unread_of s c)) logs c q other))
            (full_same logs s later q (drained_other s c room q (not_same q c other)) (f.full q u n)))
            q (λ home small. ap (λ lists. has_number (slice_index_or lists home []) q) (sym same) ∙ unlisted home small) ne);
      })
    where
      enough : (put had unread all now : ℕ) → had ≤ put → all ≡ put + (unread - (put - had)) → got ≡ min unread room → now ≤ had + got → unread - room ≤ all - now
      enough put had unread all now within whole got_is less = omega (arith, within, whole, got_is, less)

      own_log : (log : Log) → IsWithin log → lacking (read_on got (completed_log log (unread_of lobby.plain c))) (unread_of (next lobby.plain (event.Drain c room)) c) ≡ []
      own_log log within =
          let s = lobby.plain in
          let later : State = next s (event.Drain c room) in
          let l : Log = completed_log log (unread_of s c) in
          elim (at_number s.clients c) as (λ o. at_number s.clients c ≡ o → lacking (read_on got l) (unread_of later c) ≡ []) [
            | None ↦ λ none.
                ap (lacking (read_on got l)) (unread_nobody later c (drained_at s c room c ∙ ap (option_map (λ x. if same_number c c then drained room x else x)) none))
                ∙ drop_all (length l.put - length (take (length l.read + got) l.put)) [] (omega arith)
            | Some x ↦ λ found.
                let unread : unread_of s c ≡ x.unread = unread_there s c x found in
                let whole : length l.put ≡ length log.put + (length (unread_of s c) - (length log.put - length log.read)) =
                length-append log.put (lacking log (unread_of s c)) ∙ ap (λ n. length log.put + n) (length-drop (length log.put - length log.read) (unread_of s c)) in
                let left : length (unread_of later c) ≡ length (unread_of s c) - room =
                ap length (drained_same s c room x found) ∙ length-drop room x.unread ∙ ap (λ u. length u - room) (sym unread) in
                let less : length (take (length l.read + got) l.put) ≤ length log.read + got = omega (arith, length-take (length l.read + got) l.put) in
                drop_all (length l.put - length (take (length l.read + got) l.put)) (unread_of later c)
                (subst (λ n. n ≤ length l.put - length (take (length l.read + got) l.put)) (sym left)
                (enough (length log.put) (length log.read) (length (unread_of s c)) (length l.put) (length (take (length l.read + got) l.put)) within whole got_is less))
          ] refl

      own : IsFull (changed_at (read_on got) (caught_up logs lobby.plain c) c) (next lobby.plain (event.Drain c room)) c
      own =
          subst (λ o. IfSome o (λ log. lacking log (unread_of (next lobby.plain (event.Drain c room)) c) ≡ []))
          (sym (of-changed_same (read_on got) (caught_up logs lobby.plain c) c ∙ ap (option_map (read_on got)) (of-changed_same (λ log. completed_log log (unread_of lobby.plain c)) logs c)))
          (elim (of_client logs c) as (λ o. IfSome o IsWithin → IfSome (option_map (read_on got) (option_map (λ log. completed_log log (unread_of lobby.plain c)) o)) (λ log. lacking log (unread_of (next lobby.plain (event.Drain c room)) c) ≡ [])) [
            | None ↦ λ w. tt
            | Some log ↦ λ w. own_log log w
          ] (of-within IsWithin logs c f.within))

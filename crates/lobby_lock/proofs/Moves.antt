-- Each step keeps the rule of the desk.
use Rattle.std.proofs.Common.{◌≡◌, ◌≢◌, ◌⊎◌, ℕ, zero, suc, ◌+◌, ◌≤◌, true, false, true≢false, List, [], ◌∷◌, ◌++◌, length, set, refl, sym, ap, ◌∙◌, subst, inl, inr, ⊎_elim, arith}
use Rattle.std.specs.List.{AllByRecursion}
use Rattle.std.proofs.lemmas.Bool.{false_from_ne_true}
use Rattle.line_words.proofs.Once.{contradiction}
use mathlib.Core.Option.{some, some-ne-none, some-injective}
use lib.ListN.{get_elem?}
use Rattle.crossbeam_queue.specs.Fifo.{Pushes, Pops, Forks, Merges, Learns}
use Rattle.crossbeam_queue.proofs.Lists.{at_set, set_else, at_longer}
use Rattle.lobby_model.specs.declared.event.Event.{Event}
use Rattle.lobby_model.specs.State.{State}
use Rattle.lobby_lock.specs.declared.laid.Laid.{Laid}
use Rattle.lobby_lock.specs.declared.view.View.{View}
use Rattle.lobby_lock.specs.declared.view.Worker.{Worker}
use Rattle.lobby_lock.specs.History.{Entry, after_history, made_by, under}
use Rattle.lobby_lock.specs.Counts.{position_of}
use Rattle.lobby_lock.specs.Rule.{IsTold, Fits, Meets, IsAlive, SomeoneHolds, NobodyHolds, IsFull, PlaceIs, OneHistory, AreApart, first_view, spent_view, new_worker, opened, gave, giver, newcomer, with_taken_back, seen_by, Took, Closed, LastEnded}
use Rattle.lobby_lock.proofs.Histories.{told-other, told-own, all_map, all_both, all_of, all-append, once-nil, once-cons, begins_self, made_by_above, made_by_none, numbers-under, agree}

at_end : (l : List View) (a b : View) (j : ℕ) → get_elem? (l ++ a ∷ []) j ≡ some b → (get_elem? l j ≡ some b) ⊎ ((j ≡ length l) × (a ≡ b))
at_end [] a b zero e = inr (refl, some-injective a b e)
at_end [] a b (suc j) e = absurd (some-ne-none b (sym e))
at_end (x ∷ xs) a b zero e = inl e
at_end (x ∷ xs) a b (suc j) e = ⊎_elim (λ t. inl t) (λ (t : (j ≡ length xs) × (a ≡ b)). inr (ap suc t.0, t.1)) (at_end xs a b j e)

-- where there was a view, one is set
set_there : (l : List View) (i : ℕ) (a b : View) → get_elem? l i ≡ some a → get_elem? (set l i b) i ≡ some b
set_there [] i a b e = absurd (some-ne-none a (sym e))
set_there (x ∷ xs) zero a b e = refl
set_there (x ∷ xs) (suc i) a b e = set_there xs i a b e

-- ---- what holds of each live view, where one was set or one came

abbrev Each : (ℕ → View → Type 0) → List View → Type 0
Each F views = (k : ℕ) (v : View) → IsAlive views k v → F k v

each_set : (F : ℕ → View → Type 0) (views : List View) (k : ℕ) (w : View) → (w.alive ≡ true → F k w) → ((j : ℕ) (u : View) → j ≢ k → IsAlive views j u → F j u) → Each F (set views k w)
each_set F views k w mine others j u a =
    ⊎_elim
    (λ (t : (j ≡ k) × (w ≡ u)). subst (λ (y : ℕ × View). F y.0 y.1) (λ i. (sym t.0 i, t.1 i)) (mine (ap (λ (y : View). y.alive) t.1 ∙ a.1)))
    (λ (t : (j ≢ k) × (get_elem? views j ≡ some u)). others j u t.0 (t.1, a.1))
    (at_set views k j w u a.0)

each_end : (F : ℕ → View → Type 0) (views : List View) (w : View) → F (length views) w → Each F views → Each F (views ++ w ∷ [])
each_end F views w mine others j u a =
    ⊎_elim
    (λ (t : get_elem? views j ≡ some u). others j u (t, a.1))
    (λ (t : (j ≡ length views) × (w ≡ u)). subst (λ (y : ℕ × View). F y.0 y.1) (λ i. (sym t.0 i, t.1 i)) mine)
    (at_end views w u j a.0)

-- the same of each two
abbrev EachTwo : List View → Type 0
EachTwo views = (j k : ℕ) (v w : View) → IsAlive views j v → IsAlive views k w → Meets j k v w

two_set : (views : List View) (k : ℕ) (w : View) → (w.alive ≡ true → Meets k k w w)
    → (w.alive ≡ true → (j : ℕ) (u : View) → j ≢ k → IsAlive views j u → Meets j k u w × Meets k j w u)
    → ((i j : ℕ) (u x : View) → i ≢ k → j ≢ k → IsAlive views i u → IsAlive views j x → Meets i j u x)
    → EachTwo (set views k w)
two_set views k w mine mixed rest i j u x a b =
    each_set (λ (i' : ℕ) (u' : View). Meets i' j u' x) views k w
    (λ live. each_set (λ (j' : ℕ) (x' : View). Meets k j' w x') views k w mine (λ (j' : ℕ) (x' : View) ne at. (mixed live j' x' ne at).1) j x b)
    (λ (i' : ℕ) (u' : View) ne at. each_set (λ (j' : ℕ) (x' : View). Meets i' j' u' x') views k w (λ live. (mixed live i' u' ne at).0) (λ (j' : ℕ) (x' : View) ne' at'. rest i' j' u' x' ne ne' at at') j x b)
    i u a

two_end : (views : List View) (w : View) → Meets (length views) (length views) w w → ((j : ℕ) (u : View) → IsAlive views j u → Meets j (length views) u w × Meets (length views) j w u) → EachTwo views → EachTwo (views ++ w ∷ [])
two_end views w mine mixed rest i j u x a b =
    each_end (λ (i' : ℕ) (u' : View). Meets i' j u' x) views w
    (each_end (λ (j' : ℕ) (x' : View). Meets (length views) j' w x') views w mine (λ (j' : ℕ) (x' : View) at. (mixed j' x' at).1) j x b)
    (λ (i' : ℕ) (u' : View) at. each_end (λ (j' : ℕ) (x' : View). Meets i' j' u' x') views w (mixed i' u' at).0 (λ (j' : ℕ) (x' : View) at'. rest i' j' u' x' at at') j x b)
    i u a

none_there : (k : ℕ) (v : View) → get_elem? [] k ≡ some v → ⊥
none_there k v e = some-ne-none v (sym e)

-- ---- the place is made

pub begins : OneHistory [] (first_view ∷ [])
begins =
    let F : ℕ → View → Type 0 = λ k v. Fits first_view.start.plain [] 0 v in
    let own : Fits first_view.start.plain [] 0 first_view = record {
      starts = refl;
      told = record { begins = ([], refl); whole = refl; known = refl };
      numbered = omega arith;
      counts = λ _. refl;
      saw_all = λ _. refl;
      taken_back = tt;
      once = once-nil;
    } in record {
      start = first_view.start.plain;
      history = [];
      handed = 0;
      fits = each_end F [] first_view own (λ k v a. absurd (none_there k v a.0));
      meets = two_end [] first_view (record { apart = λ _. refl; gone = tt; kept = λ ne. absurd (ne refl); one = λ _ _. refl }) (λ j u a. absurd (none_there j u a.0)) (λ j k u x a b. absurd (none_there j u a.0));
      numbers = tt;
      place = inl (refl, (0, first_view, (refl, refl), refl));
    }

-- where one holds, the place is empty
empty_place : (start : State) (history : List Entry) (items : List Laid) (views : List View) (k : ℕ) (v : View) → IsAlive views k v → v.holds ≡ true → PlaceIs start history items views → items ≡ []
empty_place start history items views k v a holds place =
    ⊎_elim (λ (t : (items ≡ []) × SomeoneHolds views). t.0) (λ (t : IsFull start history items × NobodyHolds views). contradiction v.holds holds (t.1 k v a)) place

-- ---- the lobby is first put in

pub opens : (n k : ℕ) (v : View) (x : Laid) → x.position ≡ 0 → v.alive ≡ true → v.holds ≡ true → v.worker ≡ new_worker 0 [] → v.handed ≡ 0 → Pushes OneHistory n k v x (λ w. w ≡ opened v x)
opens n k v x first live holds fresh none items views room h at =
    let w : View = opened v x in
    let a : IsAlive views k v = (at, live) in
    let f = h.fits k v a in
    let m = h.meets k k v v a a in
    let zero_is : v.worker.number ≡ 0 = ap (λ (y : Worker). y.number) fresh in
    let empty : h.history ≡ [] = sym (f.saw_all holds) ∙ ap (λ (y : Worker). y.seen) fresh in
    let alone : (j : ℕ) (u : View) → j ≢ k → IsAlive views j u → ⊥ = λ j u ne b. ne ((h.meets j k u v b a).apart (let l = (h.fits j u b).numbered in let c = f.counts zero_is in omega arith)) in (
      w,
      record {
        start = x.lobby.plain;
        history = h.history;
        handed = h.handed;
        fits = each_set (λ (j : ℕ) (u : View). Fits x.lobby.plain h.history h.handed u) views k w
            (λ _. record { starts = refl; told = f.told; numbered = f.numbered; counts = f.counts; saw_all = λ e. absurd (true≢false (sym e)); taken_back = f.taken_back; once = f.once })
            (λ j u ne b. absurd (alone j u ne b));
        meets = two_set views k w (λ _. record { apart = λ _. refl; gone = m.gone; kept = λ ne. absurd (ne refl); one = λ _ _. refl })
            (λ _ j u ne b. absurd (alone j u ne b))
            (λ i j u y ne ne' b c. absurd (alone i u ne b));
        numbers = h.numbers;
        place = inr (
          (x, ap (λ (l : List Laid). l ++ x ∷ []) (empty_place h.start h.history items views k v a holds h.place), (ap (after_history x.lobby.plain) (sym empty), first ∙ ap position_of (sym empty))),
          each_set (λ (j : ℕ) (u : View). u.holds ≡ false) views k w (λ _. refl) (λ j u ne b. absurd (alone j u ne b)),
        );
      },
      refl,
    )

-- ---- the lobby is taken

pub takes : (k : ℕ) (v : View) → v.alive ≡ true → Pops OneHistory k v (Took v)
takes k v live x items views h at =
    let w : View = record v { on_desk = x.lobby; worker = seen_by v.worker h.history; holds = true } in
    let a : IsAlive views k v = (at, live) in
    let f = h.fits k v a in
    let full : IsFull h.start h.history (x ∷ items) × NobodyHolds views = ⊎_elim (λ (t : (x ∷ items ≡ []) × SomeoneHolds views). absurd (cc (t.0))) (λ t. t) h.place in
    let nothing : items ≡ [] = cc (full.0.1) in
    let found : x ≡ full.0.0 = cc (full.0.1) in
    let stands : x.lobby.plain ≡ after_history h.start h.history = ap (λ (y : Laid). y.lobby.plain) found ∙ full.0.2.0 in
    let position : x.position ≡ position_of h.history = ap (λ (y : Laid). y.position) found ∙ full.0.2.1 in (
      w,
      record {
        start = h.start;
        history = h.history;
        handed = h.handed;
        fits = each_set (λ (j : ℕ) (u : View). Fits h.start h.history h.handed u) views k w
            (λ _. record { starts = f.starts; told = record { begins = begins_self h.history; whole = f.told.whole; known = f.told.whole }; numbered = f.numbered; counts = f.counts; saw_all = λ _. refl; taken_back = f.taken_back; once = f.once })
            (λ j u ne b. h.fits j u b);
        meets = two_set views k w (λ _. record { apart = λ _. refl; gone = (h.meets k k v v a a).gone; kept = λ ne. absurd (ne refl); one = λ _ _. refl })
            (λ _ j u ne b. (
              record { apart = (h.meets j k u v b a).apart; gone = (h.meets j k u v b a).gone; kept = (h.meets j k u v b a).kept; one = λ p q. contradiction u.holds p (full.1 j u b) },
              record { apart = (h.meets k j v u a b).apart; gone = (h.meets k j v u a b).gone; kept = (h.meets k j v u a b).kept; one = λ p q. contradiction u.holds q (full.1 j u b) },
            ))
            (λ i j u y ne ne' b c. h.meets i j u y b c);
        numbers = h.numbers;
        place = inl (nothing, (k, w, (set_there views k v w at, live), refl));
      },
      record { same = refl; later = f.told.begins; own = f.told.whole; known = f.told.known; laid = (stands ∙ ap (λ (s : State). after_history s h.history) (sym f.starts), position) },
    )

-- it is taken for good
pub closes : (k : ℕ) (v : View) → v.alive ≡ true → Pops OneHistory k v (Closed v)
unfolding takes
closes k v live x items views h at =
    let t = takes k v live x items views h at in
    let f = h.fits k v (at, live) in (
      t.0,
      t.1,
      record {
        took = t.2;
        taken_back = all_map (λ worker. IsTold h.history worker × (worker.number ≤ h.handed)) (λ worker. made_by worker.number h.history ≡ worker.mine) (λ worker told. told.0.whole) v.taken_back f.taken_back;
        numbers = λ zero_is. subst (λ most. AllByRecursion (λ e. e.0 ≤ most) h.history) (sym (f.counts zero_is)) h.numbers;
      },
    )

-- ---- the lobby is given back

pub gives : (n k : ℕ) (v : View) (x : Laid) (es : List Event) → v.alive ≡ true → v.holds ≡ true → x.lobby.plain ≡ after_history v.start.plain (v.worker.seen ++ under v.worker.number es) → x.position ≡ position_of (v.worker.seen ++ under v.worker.number es) → Pushes OneHistory n k v x (λ w. w ≡ gave v x es)
gives n k v x es live holds stands placed items views room h at =
    let w : View = gave v x es in
    let a : IsAlive views k v = (at, live) in
    let f = h.fits k v a in
    let number : ℕ = v.worker.number in
    let all : v.worker.seen ≡ h.history = f.saw_all holds in
    let history : List Entry = h.history ++ under number es in
    let position : x.position ≡ position_of history = placed ∙ ap (λ (l : List Entry). position_of (l ++ under number es)) all in
    let now : x.lobby.plain ≡ after_history h.start history = stands ∙ ap (λ (l : List Entry). after_history v.start.plain (l ++ under number es)) all ∙ ap (λ (s : State). after_history s history) f.starts in
    let KnownIn : List Entry → Worker → Type 0 = λ l worker. IsTold l worker × (worker.number ≤ h.handed) in
    let grown : (worker : Worker) → KnownIn h.history worker → worker.number ≢ number → KnownIn history worker = λ worker t ne. (told-other h.history worker number es (λ s. ne (sym s)) t.0, t.1) in
    let grows : (u : View) → AllByRecursion (KnownIn h.history) u.taken_back → AllByRecursion (λ worker. worker.number ≢ number) u.taken_back → AllByRecursion (KnownIn history) u.taken_back = λ u. all_both (KnownIn h.history) (λ worker. worker.number ≢ number) (KnownIn history) grown u.taken_back in
    let idle : (j : ℕ) (u : View) → j ≢ k → IsAlive views j u → u.holds ≡ false = λ j u ne b. false_from_ne_true u.holds (λ p. ne ((h.meets j k u v b a).one p holds)) in (
      w,
      record {
        start = h.start;
        history = history;
        handed = h.handed;
        fits = each_set (λ (j : ℕ) (u : View). Fits h.start history h.handed u) views k w
            (λ _. record { starts = f.starts; told = told-own h.history v.worker es all f.told; numbered = f.numbered; counts = f.counts; saw_all = λ e. absurd (true≢false (sym e)); taken_back = grows v f.taken_back (h.meets k k v v a a).gone; once = f.once })
            (λ j u ne b. let g = h.fits j u b in let m = h.meets j k u v b a in record {
              starts = g.starts;
              told = told-other h.history u.worker number es (λ s. ne (m.apart (sym s))) g.told;
              numbered = g.numbered;
              counts = g.counts;
              saw_all = λ p. contradiction u.holds p (idle j u ne b);
              taken_back = grows u g.taken_back m.gone;
              once = g.once;
            });
        meets = two_set views k w (λ _. record { apart = λ _. refl; gone = (h.meets k k v v a a).gone; kept = λ ne. absurd (ne refl); one = λ _ _. refl })
            (λ _ j u ne b. (
              record { apart = (h.meets j k u v b a).apart; gone = (h.meets j k u v b a).gone; kept = (h.meets j k u v b a).kept; one = λ p q. contradiction u.holds p (idle j u ne b) },
              record { apart = (h.meets k j v u a b).apart; gone = (h.meets k j v u a b).gone; kept = (h.meets k j v u a b).kept; one = λ p q. contradiction u.holds q (idle j u ne b) },
            ))
            (λ i j u y ne ne' b c. h.meets i j u y b c);
        numbers = all-append (λ (e : Entry). e.0 ≤ h.handed) h.history (under number es) h.numbers (numbers-under h.handed number f.numbered es);
        place = inr (
          (x, ap (λ (l : List Laid). l ++ x ∷ []) (empty_place h.start h.history items views k v a holds h.place), (now, position)),
          each_set (λ (j : ℕ) (u : View). u.holds ≡ false) views k w (λ _. refl) idle,
        );
      },
      refl,
    )

-- one who holds finds the place empty
pub finds_empty : (k : ℕ) (v : View) → v.alive ≡ true → v.holds ≡ true → Learns OneHistory k v (λ items. items ≡ [])
finds_empty k v live holds items views h at = empty_place h.start h.history items views k v (at, live) holds h.place

-- ---- a pass is handed out

pub forks : (k : ℕ) (v : View) → v.alive ≡ true → v.worker.number ≡ 0 → v.holds ≡ false → Forks OneHistory k v (giver v) (newcomer v)
forks k v live zero_is idle items views h at =
    let l : View = giver v in
    let r : View = newcomer v in
    let vs : List View = set views k l in
    let a : IsAlive views k v = (at, live) in
    let f = h.fits k v a in
    let count : v.handed ≡ h.handed = f.counts zero_is in
    let number : ℕ = v.handed + 1 in
    let fresh : made_by number h.history ≡ [] = made_by_above h.handed number (omega arith) h.history h.numbers in
    let KnownUpTo : ℕ → Worker → Type 0 = λ most worker. IsTold h.history worker × (worker.number ≤ most) in
    let G : ℕ → View → Type 0 = λ j u. Fits h.start h.history (h.handed + 1) u × (u.worker.number ≤ h.handed) × AllByRecursion (λ worker. worker.number ≤ h.handed) u.taken_back in
    let wider : (u : View) → AllByRecursion (KnownUpTo h.handed) u.taken_back → AllByRecursion (KnownUpTo (h.handed + 1)) u.taken_back = λ u. all_map (KnownUpTo h.handed) (KnownUpTo (h.handed + 1)) (λ worker t. (t.0, omega (arith, t.1))) u.taken_back in
    let lows : (u : View) → AllByRecursion (KnownUpTo h.handed) u.taken_back → AllByRecursion (λ worker. worker.number ≤ h.handed) u.taken_back = λ u. all_map (KnownUpTo h.handed) (λ worker. worker.number ≤ h.handed) (λ worker t. t.1) u.taken_back in
    let old : Each G vs = each_set G views k l
    (λ _. (record { starts = f.starts; told = f.told; numbered = omega (arith, f.numbered); counts = λ _. ap (λ (c : ℕ). c + 1) count; saw_all = λ p. contradiction v.holds p idle; taken_back = wider v f.taken_back; once = f.once }, f.numbered, lows v f.taken_back))
    (λ j u ne b. let g = h.fits j u b in (record { starts = g.starts; told = g.told; numbered = omega (arith, g.numbered); counts = λ z. absurd (ne ((h.meets j k u v b a).apart (z ∙ sym zero_is))); saw_all = g.saw_all; taken_back = wider u g.taken_back; once = g.once }, g.numbered, lows u g.taken_back)) in
    let pairs : EachTwo vs = two_set views k l
    (λ _. record { apart = λ _. refl; gone = (h.meets k k v v a a).gone; kept = λ ne. absurd (ne refl); one = λ _ _. refl })
    (λ _ j u ne b. (
      record { apart = (h.meets j k u v b a).apart; gone = (h.meets j k u v b a).gone; kept = (h.meets j k u v b a).kept; one = (h.meets j k u v b a).one },
      record { apart = (h.meets k j v u a b).apart; gone = (h.meets k j v u a b).gone; kept = (h.meets k j v u a b).kept; one = (h.meets k j v u a b).one },
    ))
    (λ i j u y ne ne' b c. h.meets i j u y b c) in record {
      start = h.start;
      history = h.history;
      handed = h.handed + 1;
      fits = each_end (λ (j : ℕ) (u : View). Fits h.start h.history (h.handed + 1) u) vs r
          (record {
            starts = f.starts;
            told = record { begins = f.told.begins; whole = fresh; known = made_by_none number v.worker.seen h.history f.told.begins fresh };
            numbered = omega arith;
            counts = λ z. absurd (omega arith);
            saw_all = λ p. absurd (true≢false (sym p));
            taken_back = tt;
            once = once-nil;
          })
          (λ j u b. (old j u b).0);
      meets = two_end vs r (record { apart = λ _. refl; gone = tt; kept = λ _. tt; one = λ _ _. refl })
          (λ j u b. let o = old j u b in let low = o.1 in (
            record { apart = λ e. absurd (omega (arith, e, low)); gone = all_map (λ worker. worker.number ≤ h.handed) (λ worker. worker.number ≢ number) (λ worker le. λ s. omega (arith, s, le, count)) u.taken_back o.2; kept = λ _. all_of (λ (worker : Worker). AllByRecursion {X = Worker} (λ other. worker.number ≢ other.number) []) (λ worker. tt) u.taken_back; one = λ p q. absurd (true≢false (sym q)) },
            record { apart = λ e. absurd (omega (arith, e, low)); gone = tt; kept = λ _. tt; one = λ p q. absurd (true≢false (sym p)) },
          )) pairs;
      numbers = all_map (λ (e : Entry). e.0 ≤ h.handed) (λ (e : Entry). e.0 ≤ h.handed + 1) (λ e le. omega (arith, le)) h.history h.numbers;
      place = ⊎_elim
          (λ (t : (items ≡ []) × SomeoneHolds views).
          let holder = t.1 in
          let other : holder.0 ≢ k = λ e. contradiction v.holds (ap (λ (y : View). y.holds) (some-injective v holder.1 (sym at ∙ ap (get_elem? views) (sym e) ∙ holder.2.0)) ∙ holder.3) idle in
          inl (t.0, (holder.0, holder.1, (at_longer vs (r ∷ []) holder.0 holder.1 (set_else views k holder.0 l other ∙ holder.2.0), holder.2.1), holder.3)))
          (λ (t : IsFull h.start h.history items × NobodyHolds views).
          inr (t.0, each_end (λ (j : ℕ) (u : View). u.holds ≡ false) vs r refl (each_set (λ (j : ℕ) (u : View). u.holds ≡ false) views k l (λ _. idle) (λ j u ne b. t.1 j u b))))
          h.place;
    }

-- ---- a pass is taken back

-- no one of these is kept elsewhere, where one more is kept there
kept_more : (workers : List Worker) (u : Worker) (others : List Worker) → AllByRecursion (λ worker. worker.number ≢ u.number) workers → AreApart workers others → AreApart workers (u ∷ others)
kept_more workers u others = all_both (λ worker. worker.number ≢ u.number) (λ worker. AllByRecursion (λ other. worker.number ≢ other.number) others) (λ worker. AllByRecursion (λ other. worker.number ≢ other.number) (u ∷ others)) (λ worker here there. (here, there)) workers

pub merges : (k : ℕ) (v : View) (other : ℕ) (u : View) → v.alive ≡ true → u.alive ≡ true → v.holds ≡ false → u.holds ≡ false → Merges OneHistory k v other u (with_taken_back v u) spent_view
merges k v other u live live' idle idle' items views h at two there =
    let both : View = with_taken_back v u in
    let vs : List View = set views k both in
    let was : get_elem? views other ≡ some u = ⊎_elim (λ (t : (other ≡ k) × (both ≡ u)). absurd (two t.0)) (λ (t : (other ≢ k) × (get_elem? views other ≡ some u)). t.1) (at_set views k other both u there) in
    let a : IsAlive views k v = (at, live) in
    let b : IsAlive views other u = (was, live') in
    let f = h.fits k v a in
    let g = h.fits other u b in
    let F : ℕ → View → Type 0 = λ j x. Fits h.start h.history h.handed x in
    let fits : Each F vs = each_set F views k both
    (λ _. record { starts = f.starts; told = f.told; numbered = f.numbered; counts = f.counts; saw_all = f.saw_all; taken_back = ((g.told, g.numbered), f.taken_back); once = once-cons u.worker v.taken_back (h.meets k other v u a b).gone f.once })
    (λ j x ne c. h.fits j x c) in
    -- none that is left bears the number of the one that ended
    let gone : (j : ℕ) (x : View) → j ≢ other → IsAlive views j x → AllByRecursion (λ worker. worker.number ≢ x.worker.number) both.taken_back = λ j x ne c.
    ((λ s. ne (sym ((h.meets other j u x b c).apart s))), (h.meets k j v x a c).gone) in
    let strange : (j : ℕ) (x : View) → IsAlive views j x → AllByRecursion (λ worker. u.worker.number ≢ worker.number) x.taken_back = λ j x c. all_map (λ worker. worker.number ≢ u.worker.number) (λ worker. u.worker.number ≢ worker.number) (λ worker ne s. ne (sym s)) x.taken_back (h.meets j other x u c b).gone in
    let Pair : ℕ → ℕ → View → View → Type 0 = λ i j x y. i ≢ other → j ≢ other → Meets i j x y in
    let pairs : (i j : ℕ) (x y : View) → IsAlive vs i x → IsAlive vs j y → Pair i j x y = λ i j x y c d.
    each_set (λ (i' : ℕ) (x' : View). Pair i' j x' y) views k both
    (λ _. each_set (λ (j' : ℕ) (y' : View). Pair k j' both y') views k both
    (λ _ no no'. record { apart = λ _. refl; gone = gone k v no a; kept = λ ne. absurd (ne refl); one = λ _ _. refl })
    (λ (j' : ℕ) (y' : View) ne c' no no'. record { apart = (h.meets k j' v y' a c').apart; gone = gone j' y' no' c'; kept = λ _. (strange j' y' c', (h.meets k j' v y' a c').kept (λ e. ne (sym e))); one = (h.meets k j' v y' a c').one }) j y d)
    (λ (i' : ℕ) (x' : View) ne c'. each_set (λ (j' : ℕ) (y' : View). Pair i' j' x' y') views k both
    (λ _ no no'. record { apart = (h.meets i' k x' v c' a).apart; gone = (h.meets i' k x' v c' a).gone; kept = λ _. kept_more x'.taken_back u.worker v.taken_back (h.meets i' other x' u c' b).gone ((h.meets i' k x' v c' a).kept ne); one = (h.meets i' k x' v c' a).one })
    (λ (j' : ℕ) (y' : View) ne' d' no no'. h.meets i' j' x' y' c' d') j y d) i x c in
    let dead : spent_view.alive ≡ true → ⊥ = λ e. true≢false (sym e) in record {
      start = h.start;
      history = h.history;
      handed = h.handed;
      fits = each_set F vs other spent_view (λ e. absurd (dead e)) (λ j x ne c. fits j x c);
      meets = two_set vs other spent_view (λ e. absurd (dead e)) (λ e. absurd (dead e)) (λ i j x y ne ne' c d. pairs i j x y c d ne ne');
      numbers = h.numbers;
      place = ⊎_elim
          (λ (t : (items ≡ []) × SomeoneHolds views).
          let holder = t.1 in
          let not_k : holder.0 ≢ k = λ e. contradiction v.holds (ap (λ (y : View). y.holds) (some-injective v holder.1 (sym at ∙ ap (get_elem? views) (sym e) ∙ holder.2.0)) ∙ holder.3) idle in
          let not_o : holder.0 ≢ other = λ e. contradiction u.holds (ap (λ (y : View). y.holds) (some-injective u holder.1 (sym was ∙ ap (get_elem? views) (sym e) ∙ holder.2.0)) ∙ holder.3) idle' in
          inl (t.0, (holder.0, holder.1, (set_else vs other holder.0 spent_view not_o ∙ set_else views k holder.0 both not_k ∙ holder.2.0, holder.2.1), holder.3)))
          (λ (t : IsFull h.start h.history items × NobodyHolds views).
          inr (t.0, each_set (λ (j : ℕ) (y : View). y.holds ≡ false) vs other spent_view (λ _. refl) (λ j x ne c. each_set (λ (j' : ℕ) (y : View). y.holds ≡ false) views k both (λ _. idle) (λ j' y ne' c'. t.1 j' y c') j x c)))
          h.place;
    }

-- ---- what is known of the one whose pass came back last

last_ended : (history : List Entry) (v : View) (handed : ℕ) (workers : List Worker) → IsTold history v.worker → (v.worker.number ≡ 0 → v.handed ≡ handed)
    → AllByRecursion (λ w. IsTold history w × (w.number ≤ handed)) workers → AllByRecursion (λ w. w.number ≢ v.worker.number) workers → LastEnded v workers
last_ended history v handed [] t counts h gone = tt
last_ended history v handed (w ∷ others) t counts h gone =
    record { agree = agree history v.worker w t h.0.0; apart = gone.0; handed_out = λ z. let c = counts z in omega (arith, h.0.1) }

pub learns : (k : ℕ) (v : View) → v.alive ≡ true → Learns OneHistory k v (λ items. LastEnded v v.taken_back)
learns k v live items views h at =
    let a : IsAlive views k v = (at, live) in
    let f = h.fits k v a in
    last_ended h.history v h.handed v.taken_back f.told f.counts f.taken_back (h.meets k k v v a a).gone

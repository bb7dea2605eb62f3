-- How a pass goes on: by nothing, by a hold, and by one part of a turn after another.
use Rattle.std.proofs.Common.{◌≡◌, ℕ, List, [], ◌∷◌, ◌++◌, refl, sym, ap, ◌∙◌, append_assoc, append-nil}
use Rattle.std.specs.Prelude.{map}
use Rattle.std.proofs.lemmas.List.{map-append}
use Rattle.lobby_model.specs.declared.event.Event.{Event}
use Rattle.lobby_model.specs.State.{State}
use Rattle.lobby_machine.specs.Shown.{Shown}
use Rattle.lobby_lock.specs.History.{Entry, after_history, made_by, under, Begins}
use Rattle.lobby_lock.specs.Passes.{ShownPass, ShownHold, pass_after, lobby_after}
use Rattle.lobby_lock.proofs.Histories.{after_history-append, after_history-more, made_by-append}
use Rattle.lobby_model.specs.Next.{next}
use Rattle.lobby_holds.specs.Moments.{Moment, moment, moments}
use Rattle.lobby_holds.specs.Went.{Joined}
use Rattle.lobby_holds.specs.Holds.{IsTaken, Stands}
use Rattle.lobby_holds.proofs.Moments.{moments-append, moments-none, moments-own}

pub joined_none : (p : ShownPass) → Joined p p []
joined_none p = record {
  later = [];
  pass = λ i. record p { worker = record { number = p.worker.number; seen = sym (append-nil p.worker.seen) i; mine = sym (append-nil p.worker.mine) i } };
  made = refl;
}

pub joined_then : (a b c : ShownPass) (t u : List Moment) → Joined a b t → Joined b c u → Joined a c (t ++ u)
joined_then a b c t u h k = record {
  later = h.later ++ k.later;
  pass = k.pass
      ∙ ap (λ (p : ShownPass). record p { on_desk = c.on_desk; worker = record { number = p.worker.number; seen = p.worker.seen ++ k.later; mine = p.worker.mine ++ map (λ m. m.event) u } }) h.pass
      ∙ (λ i. record a { on_desk = c.on_desk; worker = record { number = a.worker.number; seen = append_assoc a.worker.seen h.later k.later i; mine = mine i } });
  made = moments-append n s h.later k.later
      ∙ ap (λ l. l ++ moments n (after_history s h.later) k.later) h.made
      ∙ ap (λ l. t ++ l) rest;
}
  where
    n : ℕ
    n = a.worker.number

    s : State
    s = after_history a.start a.worker.seen

    mine : (a.worker.mine ++ map (λ m. m.event) t) ++ map (λ m. m.event) u ≡ a.worker.mine ++ map (λ m. m.event) (t ++ u)
    mine = append_assoc a.worker.mine (map (λ m. m.event) t) (map (λ m. m.event) u) ∙ ap (λ l. a.worker.mine ++ l) (sym (map-append (λ (m : Moment). m.event) t u))

    rest : moments n (after_history s h.later) k.later ≡ u
    rest = ap (λ x. moments n x k.later) (sym (after_history-append a.start a.worker.seen h.later))
        ∙ sym (ap (λ (p : ShownPass). moments p.worker.number (after_history p.start p.worker.seen) k.later) h.pass)
        ∙ k.made

nothing_more : (xs ys : List Event) → xs ++ ys ≡ xs → ys ≡ []
nothing_more [] ys e = e
nothing_more (x ∷ xs) ys e = nothing_more xs ys (cc (e))

-- a hold of these events, which others' events came before
held : (p q : ShownPass) (seen : List Entry) (es : List Event) (t : List Moment)
    → Begins p.worker.seen seen → made_by p.worker.number seen ≡ p.worker.mine → made_by p.worker.number p.worker.seen ≡ p.worker.mine
    → moments p.worker.number (after_history p.start seen) (under p.worker.number es) ≡ t → es ≡ map (λ m. m.event) t
    → (x : Shown) → q ≡ record p { on_desk = x; worker = record { number = p.worker.number; seen = seen ++ under p.worker.number es; mine = p.worker.mine ++ es } }
    → Joined p q t
held p q seen es t b own known made events x is = record {
  later = b.0 ++ under n es;
  pass = is ∙ (λ i. record p { on_desk = sym (ap (λ (c : ShownPass). c.on_desk) is) i; worker = record { number = n; seen = (ap (λ l. l ++ under n es) b.1 ∙ append_assoc p.worker.seen b.0 (under n es)) i; mine = p.worker.mine ++ events i } });
  made = moments-append n s b.0 (under n es)
      ∙ ap (λ l. l ++ moments n (after_history s b.0) (under n es)) (moments-none n s b.0 none)
      ∙ ap (λ x. moments n x (under n es)) (sym (after_history-append p.start p.worker.seen b.0) ∙ ap (after_history p.start) (sym b.1))
      ∙ made;
}
  where
    n : ℕ
    n = p.worker.number

    s : State
    s = after_history p.start p.worker.seen

    none : made_by n b.0 ≡ []
    none = nothing_more p.worker.mine (made_by n b.0) (
        ap (λ l. l ++ made_by n b.0) (sym known) ∙ sym (made_by-append n p.worker.seen b.0) ∙ ap (made_by n) (sym b.1) ∙ own)

-- a hold of no event
pub held_none : (p q : ShownPass) (h k : ShownHold) → IsTaken p h → k ≡ h → q ≡ pass_after k → Joined p q []
held_none p q h k t same is =
    held p q h.pass.worker.seen [] [] t.later t.own t.known refl refl h.lobby (is ∙ ap pass_after same
    ∙ ap (λ es. pass_after (record h { events = es })) t.fresh
    ∙ ap (λ (x : ShownPass). pass_after (record { pass = x; lobby = h.lobby; events = [] })) t.pass_is)

-- a hold of one event, which met the lobby of the hold
pub held_one : (p q : ShownPass) (h k : ShownHold) (e : Event) → IsTaken p h → k ≡ record h { lobby = k.lobby; events = h.events ++ e ∷ [] } → q ≡ pass_after k
    → Joined p q (moment h.lobby.plain e ∷ [])
held_one p q h k e t one is =
    held p q h.pass.worker.seen (e ∷ []) _ t.later t.own t.known
    (moments-own p.worker.number (after_history p.start h.pass.worker.seen) e ∙ ap (λ s. moment s e ∷ []) (sym t.stands)) refl k.lobby (
    is ∙ ap pass_after one
    ∙ ap (λ es. pass_after (record { pass = h.pass; lobby = k.lobby; events = es ++ e ∷ [] })) t.fresh
    ∙ ap (λ (x : ShownPass). pass_after (record { pass = x; lobby = k.lobby; events = e ∷ [] })) t.pass_is)

-- ---- a hold that goes on, seen as the pass that it would leave if it were given back now

-- a hold goes on by one event, as if it were given back before and after it
pub joined_more : (h k : ShownHold) (e : Event) → Stands h → k ≡ record h { lobby = k.lobby; events = h.events ++ e ∷ [] }
    → Joined (pass_after h) (pass_after k) (moment h.lobby.plain e ∷ [])
joined_more h k e stands one = record {
  later = under n (e ∷ []);
  pass = ap pass_after one ∙ (λ i. record h.pass { on_desk = k.lobby; worker = record { number = n; seen = seen i; mine = sym (append_assoc h.pass.worker.mine h.events (e ∷ [])) i } });
  made = moments-own n (lobby_after h.pass h.events) e ∙ ap (λ s. moment s e ∷ []) (sym stands);
}
  where
    n : ℕ
    n = h.pass.worker.number

    seen : h.pass.worker.seen ++ under n (h.events ++ e ∷ []) ≡ (h.pass.worker.seen ++ under n h.events) ++ under n (e ∷ [])
    seen = ap (λ l. h.pass.worker.seen ++ l) (map-append (λ (x : Event). (n, x)) h.events (e ∷ [])) ∙ sym (append_assoc h.pass.worker.seen (under n h.events) (under n (e ∷ [])))

-- a lobby that was just taken
pub stands_taken : (p : ShownPass) (h : ShownHold) → IsTaken p h → Stands h
stands_taken p h t =
    t.stands
    ∙ ap (after_history p.start) (sym (append-nil h.pass.worker.seen))
    ∙ ap (λ es. after_history p.start (h.pass.worker.seen ++ under h.pass.worker.number es)) (sym t.fresh)
    ∙ ap (λ (x : ShownPass). after_history x.start (h.pass.worker.seen ++ under h.pass.worker.number h.events)) (sym t.pass_is)

-- and after one event more
pub stands_more : (h k : ShownHold) (e : Event) → Stands h → k ≡ record h { lobby = k.lobby; events = h.events ++ e ∷ [] } → k.lobby.plain ≡ next h.lobby.plain e → Stands k
stands_more h k e stands one goes =
    goes
    ∙ ap (λ s. next s e) stands
    ∙ sym (after_history-more h.pass.start h.pass.worker.seen h.pass.worker.number h.events e)
    ∙ ap (λ (x : ShownHold). lobby_after x.pass x.events) (sym one)

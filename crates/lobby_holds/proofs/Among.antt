-- How a pass goes on where the worker serves others meanwhile.
use Rattle.std.proofs.Common.{◌≡◌, ℕ, true, cond, List, [], ◌∷◌, ◌++◌, refl, sym, ap, ◌∙◌, subst, eq-eqb}
use Rattle.std.proofs.Math.Bool.{or-false, or-true}
use Rattle.std.proofs.lemmas.List.Elements.{filter-append}
use Rattle.std.specs.Prelude.{◌||◌, filter}
use Rattle.std.specs.List.{list_any}
use Rattle.lobby_model.specs.declared.event.Event.{Event}
use Rattle.lobby_model.specs.declared.event.Event.TheVariants as event
use Rattle.lobby_model.specs.State.{State}
use Rattle.lobby_lock.specs.Passes.{ShownPass}
use Rattle.lobby_holds.specs.Moments.{Moment, moment}
use Rattle.lobby_holds.specs.Talk.{IsTalk, AreTalk}
use Rattle.lobby_holds.specs.Went.{Joined, JoinedAmong, AreOf, of_client, speaker, speaks_for}
use Rattle.lobby_holds.proofs.Joins.{joined_none, joined_then}

of_client-append : (c : ℕ) (t u : List Moment) → of_client c (t ++ u) ≡ of_client c t ++ of_client c u
of_client-append c t u = filter-append (λ (m : Moment). speaks_for c (speaker m.event)) t u

are_of-append : (clients : List ℕ) (t u : List Moment) → AreOf clients t → AreOf clients u → AreOf clients (t ++ u)
are_of-append clients [] u h k = k
are_of-append clients (m ∷ t) u h k = (h.0, are_of-append clients t u h.1 k)

-- ---- what is said and drained for a client speaks for it

talk_speaks : (c : ℕ) (e : Event) → IsTalk c e → speaks_for c (speaker e) ≡ true
talk_speaks c (event.Say d request) h = eq-eqb d c h
talk_speaks c (event.Drain d n) h = eq-eqb d c h.0
talk_speaks c (event.Open ip home) h = absurd h
talk_speaks c (event.Shut d) h = absurd h

one_of : (c : ℕ) (m : Moment) (t : List Moment) → speaks_for c (speaker m.event) ≡ true → of_client c t ≡ t → of_client c (m ∷ t) ≡ m ∷ t
one_of c m t speaks rest = ap (λ b. cond b (m ∷ of_client c t) (of_client c t)) speaks ∙ ap (λ l. m ∷ l) rest

among_one : (others : List ℕ) (c : ℕ) (m : Moment) → speaks_for c (speaker m.event) ≡ true → list_any (λ c. speaks_for c (speaker m.event)) (c ∷ others) ≡ true
among_one others c m speaks = ap (λ b. b || list_any (λ c. speaks_for c (speaker m.event)) others) speaks

of_talk : (c : ℕ) (t : List Moment) → AreTalk c t → of_client c t ≡ t
of_talk c [] h = refl
of_talk c (m ∷ t) h = one_of c m t (talk_speaks c m.event h.0) (of_talk c t h.1)

among_talk : (others : List ℕ) (c : ℕ) (t : List Moment) → AreTalk c t → AreOf (c ∷ others) t
among_talk others c [] h = tt
among_talk others c (m ∷ t) h = (among_one others c m (talk_speaks c m.event h.0), among_talk others c t h.1)

-- ---- what came

pub joined_nothing : (others : List ℕ) (c : ℕ) (p : ShownPass) → JoinedAmong others c p p []
joined_nothing others c p = record { all = []; joined = joined_none p; own = refl; rest = tt }

pub joined_talk : (others : List ℕ) (c : ℕ) (p q : ShownPass) (t : List Moment) → AreTalk c t → Joined p q t → JoinedAmong others c p q t
joined_talk others c p q t own joined = record { all = t; joined = joined; own = of_talk c t own; rest = among_talk others c t own }

pub joined_shut : (others : List ℕ) (c : ℕ) (p q : ShownPass) (s : State) → Joined p q (moment s (event.Shut c) ∷ []) → JoinedAmong others c p q (moment s (event.Shut c) ∷ [])
joined_shut others c p q s joined =
    let m = moment s (event.Shut c) in
    let speaks : speaks_for c (speaker m.event) ≡ true = eq-eqb c c refl in
    record { all = m ∷ []; joined = joined; own = one_of c m [] speaks refl; rest = (among_one others c m speaks, tt) }

pub joined_both : (others : List ℕ) (c : ℕ) (p q r : ShownPass) (t u : List Moment) → JoinedAmong others c p q t → JoinedAmong others c q r u → JoinedAmong others c p r (t ++ u)
joined_both others c p q r t u h k = record {
  all = h.all ++ k.all;
  joined = joined_then p q r h.all k.all h.joined k.joined;
  own = of_client-append c h.all k.all ∙ (λ i. h.own i ++ k.own i);
  rest = are_of-append (c ∷ others) h.all k.all h.rest k.rest;
}

-- what the worker did for the others meanwhile
others_too : (others : List ℕ) (c : ℕ) (t : List Moment) → AreOf others t → AreOf (c ∷ others) t
others_too others c [] h = tt
others_too others c (m ∷ t) h = (ap (λ b. speaks_for c (speaker m.event) || b) h.0 ∙ or-true (speaks_for c (speaker m.event)), others_too others c t h.1)

pub joined_others : (others : List ℕ) (c : ℕ) (p q : ShownPass) (t : List Moment) → AreOf others t → of_client c t ≡ [] → Joined p q t → JoinedAmong others c p q []
joined_others others c p q t of_others none joined = record { all = t; joined = joined; own = none; rest = others_too others c t of_others }

-- ---- where there are no others, they are all that it made

own_alone : (c : ℕ) (t : List Moment) → AreOf (c ∷ []) t → of_client c t ≡ t
own_alone c [] h = refl
own_alone c (m ∷ t) h = one_of c m t (sym (or-false (speaks_for c (speaker m.event))) ∙ h.0) (own_alone c t h.1)

pub joined_alone : (c : ℕ) (p q : ShownPass) (t : List Moment) → JoinedAmong [] c p q t → Joined p q t
joined_alone c p q t h = subst (λ (l : List Moment). Joined p q l) (sym (own_alone c h.all h.rest) ∙ h.own) h.joined

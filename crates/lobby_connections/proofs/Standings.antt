-- How turns go on that share holds of the lobby.
use Rattle.std.proofs.Common.{◌≡◌, ◌⊎◌, ℕ, zero, suc, ◌<◌, ◌≤◌, List, [], ◌∷◌, length, set, get_or, refl, sym, ap, ◌∙◌, subst, inl, inr, arith, append-nil}
use Rattle.std.specs.Prelude.{false, Option, Some, None}
use Rattle.std.specs.Option.{option_map}
use Rattle.std.proofs.lemmas.Bool.Decides.{eqb_tells}
use Rattle.std.proofs.lemmas.List.{get_or-set_same, get_or-set_other, set-get_or}
use Rattle.slab.specs.Slab.{get, with_value}
use Rattle.lobby_lock.specs.Passes.{ShownPass}
use Rattle.lobby_holds.specs.Snapshot.{Carried, Snapshot, among}
use Rattle.lobby_holds.specs.Wire.{IsFresh, Wire}
use Rattle.lobby_holds.specs.Went.{Joined, JoinedAmong}
use Rattle.lobby_holds.specs.Holds.{GivesUp}
use Rattle.lobby_holds.specs.declared.turn.Turn.{Turn}
use Rattle.lobby_holds.specs.declared.turn.TurnState.TheVariants as state
use Rattle.lobby_holds.proofs.Among.{joined_both, joined_nothing, joined_talk}
use Rattle.lobby_holds.proofs.Talks.{drains_are_talk}
use Rattle.lobby_holds.proofs.Parts.{went_none, went_then}
use Rattle.lobby_turns.specs.Receiving.{IsServed}
use Rattle.lobby_turns.specs.Turned.{IsUnderway, Turned}
use Rattle.lobby_turns.specs.declared.serving.Progress.{Progress}
use Rattle.lobby_turns.proofs.Served.{served_none, served_then}
use Rattle.lobby_turns.proofs.Meanwhile.{joined_apart, underway_meanwhile, went_joined}
use Rattle.lobby_connections.specs.Joined.{keys_in}
use Rattle.lobby_connections.specs.Shared.{AllStand, AreOthers, GoOn, HadTurn, IsAllowed, Seats, Serves, ServesAt, StandsSo, client_at, client_of, seen}
use Rattle.lobby_connections.specs.declared.connection.Connection.{Connection}
use Rattle.lobby_connections.specs.declared.seat.Seat.{Seat}
use Rattle.lobby_connections.specs.declared.serving.Ended.{Ended}
use Rattle.lobby_connections.specs.declared.together.Standing.{Standing}
use Rattle.lobby_connections.specs.declared.together.Standing.TheVariants as standing
use Rattle.lobby_connections.specs.declared.together.Together.{Together}

-- ---- seats

got_here : (xs : List (Option Seat)) (key : ℕ) (a b : Seat) → get_or xs key None ≡ Some a → get_or (set xs key (Some b)) key None ≡ Some b
got_here [] key a b h = absurd (cc h)
got_here (x ∷ xs) zero a b h = refl
got_here (x ∷ xs) (suc key) a b h = got_here xs key a b h

-- a seat is written as it was
pub same_seat : (s : Seats) (key : ℕ) (a : Seat) → get s key ≡ Some a → with_value s key a ≡ s
same_seat s key a h = ap (λ (xs : List (Option Seat)). record s { slots = xs }) (ap (λ (o : Option Seat). set s.slots key o) (sym h) ∙ set-get_or s.slots key None)

-- or its connection got or gave buffers alone
pub same_lent : (s : Seats) (key : ℕ) (a : Seat) (conn : Carried) → conn ≡ a.connection.conn → get s key ≡ Some a → with_value s key (record a { connection = record a.connection { conn = conn } }) ≡ s
same_lent s key a conn same h = ap (λ (x : Carried). with_value s key (record a { connection = record a.connection { conn = x } })) same ∙ same_seat s key a h

abbrev client_in : Option Seat → Option ℕ
client_in o = option_map (λ seat. client_of seat.connection) o

clients_kept : (s : Seats) (key : ℕ) (a b : Seat) → get s key ≡ Some a → client_of b.connection ≡ client_of a.connection → (other : ℕ) → client_at (with_value s key b) other ≡ client_at s other
clients_kept s key a b h same other =
    elim (eqb_tells other key) [
      | inl x ↦
          subst (λ (k : ℕ). client_at (with_value s key b) k ≡ client_at s k) (sym x.1)
          (ap client_in (got_here s.slots key a b h) ∙ ap (λ (n : ℕ). Some n) same ∙ sym (ap client_in h))
      | inr x ↦ ap client_in (get_or-set_other s.slots key other (Some b) None x.1)
    ]

-- ---- where nothing was done for its client

had_meanwhile : (old : Snapshot) (new : Connection) (p q : ShownPass) (allowance : Option ℕ) (ended : Turn) (told : ℕ) → JoinedAmong old.others (client_of new) p q [] → HadTurn old new p allowance ended told
    → HadTurn old new q allowance ended told
had_meanwhile old new p q allowance ended told joined h = record {
  at = h.at;
  turned = h.turned;
  behind = h.behind;
  drains = h.drains;
  after = subst (λ t. JoinedAmong old.others (client_of new) h.at q t) (append-nil h.behind) (joined_both old.others (client_of new) h.at p q h.behind [] h.after joined);
  only = h.only;
}

standing_meanwhile : (others : List ℕ) (old : Connection) (start : ShownPass) (new : Connection) (p q : ShownPass) (most : ℕ) (st : Standing) → JoinedAmong others (client_of new) p q []
    → StandsSo others old start new p most st → StandsSo others old start new q most st
standing_meanwhile others old start new p q most standing.Waits joined h =
    let same : JoinedAmong others (client_of old) p q [] = subst (λ (c : Connection). JoinedAmong others (client_of c) p q []) h.0 joined in
    (h.0, went_then (seen others old start) (seen others old p) (seen others old q) [] [] h.1 (went_joined others old.conn old.link p q same))
standing_meanwhile others old start new p q most (standing.Underway progress) joined h =
    (h.0, h.1, underway_meanwhile (seen others old start) others new.conn new.link p q progress (went_joined others new.conn new.link p q joined) h.2)
standing_meanwhile others old start new p q most (standing.Over ended) joined h = λ sound fresh.
    let x = h sound fresh in
    (x.0, x.1, had_meanwhile (seen others old start) new p q x.0 ended.turn ended.told joined x.2)

-- ---- all of them

pub all_taken : (first : Seats) (start : ShownPass) (s : Seats) (p q : ShownPass) (most : ℕ) (keys : List ℕ) (standings : List Standing) → Joined p q []
    → AllStand first start s p most keys standings → AllStand first start s q most keys standings
all_taken first start s p q most keys standings joined h = record {
  clients = h.clients;
  each = λ place seat others lt found are.
      let mine = h.each place seat others lt found are in
      (mine.0, mine.1, standing_meanwhile others seat.connection start mine.0.connection p q most _ (joined_talk others (client_of mine.0.connection) p q [] tt joined) mine.2);
}

-- one of them was served, and its turn went on
served_here : (first : Seats) (start : ShownPass) (s : Seats) (p q : ShownPass) (most : ℕ) (keys : List ℕ) (standings : List Standing) (place : ℕ) (after : Standing) (a b : Seat)
    → place < length keys → place < length standings → get s (get_or keys place 0) ≡ Some a
    → Serves start a.connection p b.connection q most (get_or standings place standing.Waits) after
    → AllStand first start s p most keys standings → AllStand first start (with_value s (get_or keys place 0) b) q most keys (set standings place after)
served_here first start s p q most keys standings place after a b lt within found serves h = record {
  clients = λ other. clients_kept s key a b found serves.serves.client other ∙ h.clients other;
  each = λ at seat others below was are.
      let mine = h.each at seat others below was are in
      elim (eqb_tells at place) [
        | inl x ↦ here at seat others x.1 mine.0 mine.1 mine.2
        | inr x ↦ there at seat others x.1 was are mine.0 mine.1 mine.2
      ];
}
  where
    key : ℕ
    key = get_or keys place 0

    here : (at : ℕ) (seat : Seat) (others : List ℕ) → at ≡ place → (now : Seat) → get s (get_or keys at 0) ≡ Some now
        → StandsSo others seat.connection start now.connection p most (get_or standings at standing.Waits)
        → (now : Seat) × (get (with_value s key b) (get_or keys at 0) ≡ Some now) × StandsSo others seat.connection start now.connection q most (get_or (set standings place after) at standing.Waits)
    here at seat others same now got stands =
        let k = subst (λ (n : ℕ). get s (get_or keys n 0) ≡ Some now) same got in
        let is : now ≡ a = cc (k, found) in
        let so : StandsSo others seat.connection start a.connection p most (get_or standings place standing.Waits) =
        subst (λ (n : Seat). StandsSo others seat.connection start n.connection p most (get_or standings place standing.Waits)) is
        (subst (λ (n : ℕ). StandsSo others seat.connection start now.connection p most (get_or standings n standing.Waits)) same stands) in
        subst (λ (n : ℕ). (now : Seat) × (get (with_value s key b) (get_or keys n 0) ≡ Some now) × StandsSo others seat.connection start now.connection q most (get_or (set standings place after) n standing.Waits)) (sym same)
        (b, got_here s.slots key a b found, subst (λ (x : Standing). StandsSo others seat.connection start b.connection q most x) (sym (get_or-set_same standings place after standing.Waits within)) (serves.goes others seat.connection so))

    there : (at : ℕ) (seat : Seat) (others : List ℕ) → (at ≡ place → ⊥) → get first (get_or keys at 0) ≡ Some seat → AreOthers first keys at (client_of seat.connection) others
        → (now : Seat) → get s (get_or keys at 0) ≡ Some now
        → StandsSo others seat.connection start now.connection p most (get_or standings at standing.Waits)
        → (now : Seat) × (get (with_value s key b) (get_or keys at 0) ≡ Some now) × StandsSo others seat.connection start now.connection q most (get_or (set standings place after) at standing.Waits)
    there at seat others apart was are now got stands =
        let d : ℕ = client_of a.connection in
        let other = are place d lt (λ e. apart (sym e)) (sym (h.clients key) ∙ ap client_in found) in
        let own : Some (client_of now.connection) ≡ Some (client_of seat.connection) = sym (ap client_in got) ∙ h.clients (get_or keys at 0) ∙ ap client_in was in
        let mine : client_of now.connection ≡ client_of seat.connection = cc (own) in
        let keys_differ : (get_or keys at 0 ≡ key) → ⊥ = λ e.
        let k : get s key ≡ Some now = subst (λ (k : ℕ). get s k ≡ Some now) e got in
        let is : now ≡ a = cc (k, found) in
        let clients : client_of now.connection ≡ client_of a.connection = ap (λ (n : Seat). client_of n.connection) is in
        other.1 (sym mine ∙ clients) in (
          now,
          get_or-set_other s.slots key (get_or keys at 0) (Some b) None keys_differ ∙ got,
          subst (λ (x : Standing). StandsSo others seat.connection start now.connection q most x) (sym (get_or-set_other standings place at after standing.Waits apart))
              (standing_meanwhile others seat.connection start now.connection p q most _
              (joined_apart others (client_of now.connection) d p q serves.serves.turn other.0 (λ e. other.1 (sym mine ∙ e)) serves.serves.joined) stands),
        )

-- where there is nobody, nothing stands
nobody_served : (first : Seats) (start : ShownPass) (s : Seats) (p : ShownPass) (most : ℕ) (keys : List ℕ) (standings : List Standing) (place : ℕ) (after : Standing)
    → get s (get_or keys place 0) ≡ None → AllStand first start s p most keys standings → AllStand first start s p most keys (set standings place after)
nobody_served first start s p most keys standings place after none h = record {
  clients = h.clients;
  each = λ at seat others below was are.
      let mine = h.each at seat others below was are in
      elim (eqb_tells at place) [
        | inl x ↦ absurd (cc (subst (λ (n : ℕ). get s (get_or keys n 0) ≡ Some mine.0) x.1 mine.1, none))
        | inr x ↦ (mine.0, mine.1, subst (λ (y : Standing). StandsSo others seat.connection start mine.0.connection p most y) (sym (get_or-set_other standings place at after standing.Waits x.1)) mine.2)
      ];
}

pub all_served : (first : Seats) (start : ShownPass) (s : Seats) (p : ShownPass) (new : Seats) (q : ShownPass) (most : ℕ) (keys : List ℕ) (standings : List Standing) (place : ℕ) (before after : Standing)
    → place < length keys → place < length standings → before ≡ get_or standings place standing.Waits → ServesAt start s p new q most (get_or keys place 0) before after
    → AllStand first start s p most keys standings → AllStand first start new q most keys (set standings place after)
all_served first start s p new q most keys standings place before after lt within is serves h = found (get s (get_or keys place 0)) refl
  where
    found : (o : Option Seat) → get s (get_or keys place 0) ≡ o → AllStand first start new q most keys (set standings place after)
    found None e =
        let x = serves.none e in
        subst (λ (y : Seats × ShownPass). AllStand first start y.0 y.1 most keys (set standings place after)) (λ i. (sym x.0 i, sym x.1 i))
        (nobody_served first start s p most keys standings place after e h)
    found (Some a) e =
        let x = serves.some a e in
        subst (λ (y : Seats). AllStand first start y q most keys (set standings place after)) (sym x.1)
        (served_here first start s p q most keys standings place after a x.0 lt within e (subst (λ (y : Standing). Serves start a.connection p x.0.connection q most y after) is x.2) h)

-- so many that wait
abbrev pub waiting : ℕ → List Standing
waiting zero = []
waiting (suc n) = standing.Waits ∷ waiting n

pub waiting_wait : (n place : ℕ) → get_or (waiting n) place standing.Waits ≡ standing.Waits
waiting_wait zero place = refl
waiting_wait (suc n) zero = refl
waiting_wait (suc n) (suc place) = waiting_wait n place

-- none of the turns has begun
pub all_wait : (s : Seats) (p : ShownPass) (most : ℕ) (keys : List ℕ) (standings : List Standing) → ((place : ℕ) → get_or standings place standing.Waits ≡ standing.Waits)
    → AllStand s p s p most keys standings
all_wait s p most keys standings waits = record {
  clients = λ key. refl;
  each = λ place seat others lt found are. (
    seat,
    found,
    subst (λ (y : Standing). StandsSo others seat.connection p seat.connection p most y) (sym (waits place)) (refl, went_none (seen others seat.connection p)),
  );
}

-- ---- one of them

pub waits_on : (c : Connection) (p : ShownPass) (most : ℕ) → Serves p c p c p most standing.Waits standing.Waits
waits_on c p most = record { serves = served_none c.conn p; goes = λ others first h. h }

pub gathers_on : (old new : Connection) (p q : ShownPass) (most : ℕ) (progress : Progress) → q ≡ p → new.is_over ≡ old.is_over → progress.allowance ≡ Some most → IsServed old.conn new.conn p q
    → ((others : List ℕ) → IsUnderway (seen others old p) (seen others new q) progress) → Serves p old p new p most standing.Waits (standing.Underway progress)
gathers_on old new p q most progress pass over allowance served underway = record {
  serves = subst (λ (x : ShownPass). IsServed old.conn new.conn p x) pass served;
  goes = λ others first h.
      subst (λ (f : Connection). StandsSo others f p new p most (standing.Underway progress)) h.0
      (over, (most, allowance, omega arith), subst (λ (x : ShownPass). IsUnderway (seen others old p) (seen others new x) progress) pass (underway others));
}

allowed_by : (most allowance : ℕ) (a b : Option ℕ) → allowance ≤ most → (b ≡ Some allowance) ⊎ (b ≡ a) → IsAllowed most a → IsAllowed most b
allowed_by most allowance a b few (inl e) h = (allowance, e, few)
allowed_by most allowance a b few (inr e) h = (h.0, e ∙ h.1, h.2)

pub says_on : (start : ShownPass) (old new : Connection) (p q : ShownPass) (most allowance : ℕ) (before after : Progress) → allowance ≤ most → new.is_over ≡ old.is_over → new.link ≡ old.link
    → (after.allowance ≡ Some allowance) ⊎ (after.allowance ≡ before.allowance) → IsServed old.conn new.conn p q
    → ((at : Snapshot) (wire : Wire) → IsUnderway at (among at.others old.conn wire p) before → IsUnderway at (among at.others new.conn wire q) after)
    → Serves start old p new q most (standing.Underway before) (standing.Underway after)
says_on start old new p q most allowance before after few over link allowed served shares = record {
  serves = served;
  goes = λ others first h. (
    over ∙ h.0,
    allowed_by most allowance before.allowance after.allowance few allowed h.1,
    subst (λ (w : Wire). IsUnderway (seen others first start) (among others new.conn w q) after) (sym link) (shares (seen others first start) old.link h.2),
  );
}

pub finishes_on : (start : ShownPass) (old new : Connection) (p q : ShownPass) (most : ℕ) (progress : Progress) (ended : Ended) → IsServed old.conn new.conn p q
    → ((at : Snapshot) → old.is_over ≡ false → IsFresh new.link → IsUnderway at (seen at.others old p) progress → HadTurn at new q progress.allowance ended.turn ended.told)
    → Serves start old p new q most (standing.Underway progress) (standing.Over ended)
finishes_on start old new p q most progress ended served had = record {
  serves = served;
  goes = λ others first h. λ sound fresh. (progress.allowance, h.1, had (seen others first start) (h.0 ∙ sound) fresh h.2);
}

-- ---- behind a turn

-- nothing more was done
pub had_just : (old : Snapshot) (b new : Connection) (p : ShownPass) (allowance : Option ℕ) (turn : Turn) (told : ℕ) → new.conn ≡ b.conn → new.link ≡ b.link → Turned old (seen old.others b p) allowance turn told
    → HadTurn old new p allowance turn told
had_just old b new p allowance turn told conn link h = record {
  at = p;
  turned = subst (λ (x : Carried × Wire). Turned old (among old.others x.0 x.1 p) allowance turn told) (λ i. (sym conn i, sym link i)) h;
  behind = [];
  drains = tt;
  after = joined_nothing old.others (client_of new) p;
  only = λ no. refl;
}

-- it wanted memory, and what waited for its client was let go
pub had_gave_up : (old : Snapshot) (b new : Connection) (p q : ShownPass) (allowance : Option ℕ) (turn : Turn) (told : ℕ) → turn.state ≡ state.Memory → new.conn ≡ b.conn → new.link ≡ b.link
    → GivesUp p q (client_of new) → Turned old (seen old.others b p) allowance turn told → HadTurn old new q allowance turn told
had_gave_up old b new p q allowance turn told memory conn link gave h = record {
  at = p;
  turned = subst (λ (x : Carried × Wire). Turned old (among old.others x.0 x.1 p) allowance turn told) (λ i. (sym conn i, sym link i)) h;
  behind = gave.talk;
  drains = gave.own;
  after = joined_talk old.others (client_of new) p q gave.talk (drains_are_talk (client_of new) gave.talk gave.own) gave.joined;
  only = λ no. absurd (no memory);
}

pub served_gave_up : (a b c : Carried) (p q r : ShownPass) → IsServed a b p q → c ≡ b → GivesUp q r c.session.client → IsServed a c p r
served_gave_up a b c p q r h same gave =
    let n : ℕ = c.session.client in
    let more : IsServed c c q r = record { client = refl; turn = gave.talk; joined = joined_talk [] n q r gave.talk (drains_are_talk n gave.talk gave.own) gave.joined } in
    served_then a b c p q r h (subst (λ (x : Carried). IsServed x c q r) same more)

-- buffers were lent to it before
pub serves_lent : (start : ShownPass) (old : Connection) (lent : Carried) (p : ShownPass) (new : Connection) (q : ShownPass) (most : ℕ) (before after : Standing) → lent ≡ old.conn
    → Serves start (record old { conn = lent }) p new q most before after → Serves start old p new q most before after
serves_lent start old lent p new q most before after same h = subst (λ (x : Carried). Serves start (record old { conn = x }) p new q most before after) same h

-- ---- a turn that begins late

begun : (others : List ℕ) (old : Connection) (start : ShownPass) (new : Connection) (p : ShownPass) (most : ℕ) (progress : Progress) → ((at : Snapshot) → IsUnderway at at progress) → IsAllowed most progress.allowance
    → StandsSo others old start new p most standing.Waits → StandsSo others old start new p most (standing.Underway progress)
begun others old start new p most progress begins allowed h =
    subst (λ (c : Connection). StandsSo others old start c p most (standing.Underway progress)) (sym h.0)
    (refl, allowed, underway_meanwhile (seen others old start) others old.conn old.link start p progress h.1 (begins (seen others old start)))

-- a turn that had not begun begins late
pub begins_late : (start : ShownPass) (s : Seats) (p : ShownPass) (new : Seats) (q : ShownPass) (most key : ℕ) (progress : Progress) (after : Standing) → ((at : Snapshot) → IsUnderway at at progress)
    → IsAllowed most progress.allowance → ServesAt start s p new q most key (standing.Underway progress) after → ServesAt start s p new q most key standing.Waits after
begins_late start s p new q most key progress after begins allowed h = record {
  none = h.none;
  some = λ seat found.
      let x = h.some seat found in
      (x.0, x.1, record { serves = x.2.serves; goes = λ others first w. x.2.goes others first (begun others first start seat.connection p most progress begins allowed w) });
}

pub begins_or_goes_on : (start : ShownPass) (s : Seats) (p : ShownPass) (new : Seats) (q : ShownPass) (most key : ℕ) (before : Standing) (progress : Progress) (after : Standing)
    → ((before ≡ standing.Waits) × ((at : Snapshot) → IsUnderway at at progress) × IsAllowed most progress.allowance) ⊎ (before ≡ standing.Underway progress)
    → ServesAt start s p new q most key (standing.Underway progress) after → ServesAt start s p new q most key before after
begins_or_goes_on start s p new q most key before progress after (inl late) h =
    subst (λ (x : Standing). ServesAt start s p new q most key x after) (sym late.0) (begins_late start s p new q most key progress after late.1 late.2 h)
begins_or_goes_on start s p new q most key before progress after (inr same) h = subst (λ (x : Standing). ServesAt start s p new q most key x after) (sym same) h

-- under a key
pub serves_found : (start : ShownPass) (s : Seats) (p q : ShownPass) (most key : ℕ) (before after : Standing) (a b : Seat) → get s key ≡ Some a → Serves start a.connection p b.connection q most before after
    → ServesAt start s p (with_value s key b) q most key before after
serves_found start s p q most key before after a b found serves = record {
  none = λ e. absurd (cc (found, e));
  some = λ seat e.
      let is : a ≡ seat = cc (found, e) in
      subst (λ (x : Seat). (now : Seat) × (with_value s key b ≡ with_value s key now) × Serves start x.connection p now.connection q most before after) is (b, refl, serves);
}

-- ---- several, one after another

pub go_on_none : (s : Seats) (p : ShownPass) (t : Together) → GoOn s p t s p t
go_on_none s p t = record { keys = refl; less = omega arith; stand = λ first start most few h. h }

pub go_on_then : (s : Seats) (p : ShownPass) (t : Together) (s' : Seats) (p' : ShownPass) (t' : Together) (s'' : Seats) (p'' : ShownPass) (t'' : Together) → GoOn s p t s' p' t' → GoOn s' p' t' s'' p'' t'' → GoOn s p t s'' p'' t''
go_on_then s p t s' p' t' s'' p'' t'' h k = record {
  keys = k.keys ∙ h.keys;
  less = omega (arith, h.less, k.less);
  stand = λ first start most few all. k.stand first start most (omega (arith, h.less, few)) (h.stand first start most few all);
}

-- the lobby is taken for them
pub go_on_taken : (s : Seats) (p q : ShownPass) (t : Together) → Joined p q [] → GoOn s p t s q t
go_on_taken s p q t joined = record { keys = refl; less = omega arith; stand = λ first start most few h. all_taken first start s p q most (keys_in t) t.standings joined h }

pub go_on_one : (s : Seats) (p : ShownPass) (t : Together) (s' : Seats) (q : ShownPass) (t' : Together) (place : ℕ) (before after : Standing) → place < length (keys_in t) → place < length t.standings
    → before ≡ get_or t.standings place standing.Waits → keys_in t' ≡ keys_in t → t'.standings ≡ set t.standings place after → t'.allowance ≤ t.allowance
    → ((start : ShownPass) (most : ℕ) → t.allowance ≤ most → ServesAt start s p s' q most (get_or (keys_in t) place 0) before after)
    → GoOn s p t s' q t'
go_on_one s p t s' q t' place before after lt within is keys standings less serves = record {
  keys = keys;
  less = less;
  stand = λ first start most few h.
      subst (λ (y : List ℕ × List Standing). AllStand first start s' q most y.0 y.1) (λ i. (sym keys i, sym standings i))
      (all_served first start s p s' q most (keys_in t) t.standings place before after lt within is (serves start most few) h);
}

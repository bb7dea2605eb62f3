-- What a drain takes.
use Rattle.std.proofs.Common.{◌≡◌, ◌≢◌, ℕ, zero, suc, ◌+◌, ◌-◌, ◌*◌, ◌<◌, ◌≤◌, true, false, List, [], ◌∷◌, ◌++◌, length, take, drop, min, refl, sym, ap, ◌∙◌, arith, append_assoc, append-nil, length-append, subst, inl, inr}
use Rattle.std.specs.Prelude.{◌||◌, Option, Some, None, if◌then◌else◌, map}
use Rattle.std.proofs.Math.Bool.{or-false}
use Rattle.std.proofs.Math.Seq.{take-append-add}
use Rattle.std.proofs.lemmas.List.{length-drop, length-map, take_at, take-append-le, length-take-le, drop_all, take_min}
use Rattle.std.specs.FinMap.{nat_cmp-IsAntisymmetric}
use Rattle.std.specs.Ordering.{nat_cmp}
use Rattle.std.specs.Option.{option_map}
use Rattle.line_words.specs.Table.{at_number}
use Rattle.line_words.proofs.Tables.{at-change}
use Rattle.lobby_model.specs.declared.event.Event.TheVariants as event
use Rattle.lobby_model.specs.State.{State, Client}
use Rattle.lobby_model.specs.Sessions.{drained}
use Rattle.lobby_model.specs.Next.{next, taken_by, taken_from}
use Rattle.lobby_model.proofs.Delivered.{same_itself}
use Rattle.lobby_model.proofs.Quiet.{next_drain}
use Rattle.lobby_machine.specs.Shown.{unread_of, unread_in, is_finished}
use Rattle.lobby_lock.specs.Passes.{ShownPass, ShownHold, pass_after}
use Rattle.lobby_holds.specs.declared.holds.Chunk.{Chunk}
use Rattle.lobby_holds.specs.Wire.{Wire}
use Rattle.lobby_holds.specs.Moments.{Moment, moment, questioned, questions, drained_for, tells_end, told_end}
use Rattle.lobby_holds.specs.Snapshot.{Carried, among}
use Rattle.lobby_holds.specs.Talk.{AreDrains}
use Rattle.lobby_holds.specs.Went.{Joined, Went}
use Rattle.lobby_holds.specs.Holds.{IsTaken, Stands, Drains, Asks, DrainedInto, DrainedBehind, GivesUp}
use Rattle.lobby_holds.proofs.Joins.{held_none, joined_none, joined_then, joined_more, stands_more}
use Rattle.lobby_holds.proofs.Parts.{questions-append, drained-append, went_drains}
use Rattle.lobby_holds.proofs.Talks.{are_drains-append, told_end-append, dry_behind}

from_one : (n : ℕ) (o : Option Client) → taken_from n o ≡ take n (unread_in o)
from_one zero None = refl
from_one (suc n) None = refl
from_one n (Some client) = refl

pub taken_is : (s : State) (c n : ℕ) → taken_by s (event.Drain c n) c ≡ take n (unread_of s c)
taken_is s c n = ap (λ b. if b then taken_from n (at_number s.clients c) else []) (same_itself c) ∙ from_one n (at_number s.clients c)

-- the bytes that came stand at the front of the slice
pub at_front : (s : State) (c n count : ℕ) (into rest : List ℕ) → count ≡ min (length (unread_of s c)) n → into ≡ take count (unread_of s c) ++ rest
    → take count into ≡ taken_by s (event.Drain c n) c
at_front s c n count into rest count_is given =
    let u : List ℕ = unread_of s c in
    let few : count ≤ length u = omega (arith, count_is) in
    let as_many : count ≡ min n (length u) = omega (arith, count_is) in
    ap (take count) given ∙ take_at (take count u) rest count (length-take-le count u few) ∙ ap (λ k. take k u) as_many ∙ take_min n u ∙ sym (taken_is s c n)

pub few_came : (s : State) (c n count : ℕ) (into rest : List ℕ) → count ≡ min (length (unread_of s c)) n → into ≡ take count (unread_of s c) ++ rest → count ≤ length into
few_came s c n count into rest count_is given =
    let u : List ℕ = unread_of s c in
    let few : count ≤ length u = omega (arith, count_is) in
    omega (arith, ap length given, length-append (take count u) rest, length-take-le count u few)

-- what came into a slice was copied behind what stood in a buffer
pub drained_behind : (p q : ShownPass) (c n : ℕ) (into before after : List ℕ) (piece : Chunk) → 0 < n → DrainedInto p q c n into piece → after ≡ before ++ take piece.count into
    → DrainedBehind p q c before after piece
drained_behind p q c n into before after piece some d is = record {
  talk = d.talk;
  joined = d.joined;
  own = d.own;
  no_question = d.no_question some;
  bytes = is ∙ ap (λ l. before ++ l) d.bytes;
  finished_is = d.finished_is;
  dry_is = λ dry. d.dry_is dry some;
  came = λ some. omega (arith, d.came some, ap length is, length-append before (take piece.count into), length-take-le piece.count into d.few);
}

-- and more behind it
pub drained_further : (p q r : ShownPass) (c : ℕ) (before between after : List ℕ) (first rest : Chunk) → first.finished ≡ false → DrainedBehind p q c before between first
    → DrainedBehind q r c between after rest → DrainedBehind p r c before after rest
drained_further p q r c before between after first rest goes_on h k = record {
  talk = h.talk ++ k.talk;
  joined = joined_then p q r h.talk k.talk h.joined k.joined;
  own = are_drains-append c h.talk k.talk h.own k.own;
  no_question = questions-append h.talk k.talk ∙ ap (λ l. l ++ questions k.talk) h.no_question ∙ k.no_question;
  bytes = k.bytes ∙ ap (λ l. l ++ drained_for c k.talk) h.bytes ∙ append_assoc before _ _ ∙ ap (λ l. before ++ l) (sym (drained-append c h.talk k.talk));
  finished_is = told_end-append h.talk k.talk ∙ ap (λ b. b || told_end k.talk) (h.finished_is ∙ goes_on) ∙ k.finished_is;
  dry_is = λ e. dry_behind c h.talk k.talk (k.dry_is e);
  came = λ some. omega (arith, k.came some, ap length h.bytes, length-append before (drained_for c h.talk));
}

-- a pass has made as many events more as there are moments
talk_length : (p q : ShownPass) (t : List Moment) → Joined p q t → length q.worker.mine ≡ length p.worker.mine + length t
talk_length p q t joined =
    ap (λ (x : ShownPass). length x.worker.mine) joined.pass
    ∙ length-append p.worker.mine (map (λ (m : Moment). m.event) t)
    ∙ ap (λ n. length p.worker.mine + n) (length-map t (λ (m : Moment). m.event))

-- and as the hold has that it came from
hold_length : (k : ShownHold) (q : ShownPass) → q ≡ pass_after k → length q.worker.mine ≡ length k.pass.worker.mine + length k.events
hold_length k q is = ap (λ (x : ShownPass). length x.worker.mine) is ∙ length-append k.pass.worker.mine k.events

-- the whole hold, from the take to the give, for a connection that had nothing to write
pub drains_held : (o : List ℕ) (old new : Carried) (wire : Wire) (p q : ShownPass) (h k : ShownHold) (c : ℕ) (before after : List ℕ) (piece : Chunk) → IsTaken p h → q ≡ pass_after k
    → h.events ≡ [] → k.pass ≡ h.pass → length k.events ≤ 8
    → c ≡ old.session.client → DrainedBehind (pass_after h) (pass_after k) c before after piece → new.session ≡ old.session → new.unfed ≡ old.unfed
    → old.unwritten ≡ before → new.unwritten ≡ after → Drains (among o old wire p) (among o new wire q) piece.finished piece.dry
drains_held o old new wire p q h k c before after piece taken is fresh still few same d session unfed none unwritten =
    let e : DrainedBehind (pass_after h) q old.session.client before after piece =
    subst (λ (x : ShownPass). DrainedBehind (pass_after h) x old.session.client before after piece) (sym is) (subst (λ (x : ℕ). DrainedBehind (pass_after h) (pass_after k) x before after piece) same d) in
    record {
      talk = e.talk;
      went = went_drains o old new wire p q e.talk e.own session unfed (unwritten ∙ e.bytes ∙ ap (λ l. l ++ drained_for old.session.client e.talk) (sym none))
          (joined_then p (pass_after h) q [] e.talk (held_none p (pass_after h) h h taken refl refl) e.joined);
      own = e.own;
      few = omega (arith, talk_length (pass_after h) q e.talk e.joined, hold_length k q is, length-append h.pass.worker.mine h.events, ap length fresh, ap (λ (x : ShownPass). length x.worker.mine) still, few);
      no_question = e.no_question;
      finished_is = e.finished_is;
      dry_is = e.dry_is;
    }

-- drains behind what was said, in a hold that goes on
pub drains_behind : (o : List ℕ) (old new : Carried) (wire : Wire) (h k : ShownHold) (c : ℕ) (before after : List ℕ) (piece : Chunk) → k.pass ≡ h.pass → length k.events ≤ length h.events + 8
    → c ≡ old.session.client → DrainedBehind (pass_after h) (pass_after k) c before after piece → new.session ≡ old.session → new.unfed ≡ old.unfed
    → old.unwritten ≡ before → new.unwritten ≡ after → Drains (among o old wire (pass_after h)) (among o new wire (pass_after k)) piece.finished piece.dry
drains_behind o old new wire h k c before after piece still few same d session unfed none unwritten =
    let e : DrainedBehind (pass_after h) (pass_after k) old.session.client before after piece =
    subst (λ (x : ℕ). DrainedBehind (pass_after h) (pass_after k) x before after piece) same d in
    record {
      talk = e.talk;
      went = went_drains o old new wire (pass_after h) (pass_after k) e.talk e.own session unfed (unwritten ∙ e.bytes ∙ ap (λ l. l ++ drained_for old.session.client e.talk) (sym none)) e.joined;
      own = e.own;
      few = omega (arith, talk_length (pass_after h) (pass_after k) e.talk e.joined, hold_length k (pass_after k) refl, hold_length h (pass_after h) refl, ap (λ (x : ShownPass). length x.worker.mine) still, few);
      no_question = e.no_question;
      finished_is = e.finished_is;
      dry_is = e.dry_is;
    }

-- more bytes stand there than none did
pub grew : (before after : List ℕ) → length before < length after → after ≢ []
grew before after longer none = absurd (omega (arith, longer, ap length none))

take_none : (n : ℕ) (xs : List ℕ) → n ≤ 0 → take n xs ≡ []
take_none n xs few =
    let none : n ≡ 0 = omega (arith, few) in
    ap (λ k. take k xs) none

-- asked with an empty slice
pub asks : (o : List ℕ) (conn : Carried) (wire : Wire) (p q : ShownPass) (c : ℕ) (into : List ℕ) (piece : Chunk) → c ≡ conn.session.client
    → DrainedInto p q c 0 into piece → Asks (among o conn wire p) (among o conn wire q) piece.finished
asks o conn wire p q c into piece same d =
    let e : DrainedInto p q conn.session.client 0 into piece = subst (λ (x : ℕ). DrainedInto p q x 0 into piece) same d in
    let nothing : drained_for conn.session.client e.talk ≡ [] = sym e.bytes ∙ take_none piece.count into e.within in
    let question : Moment = moment e.begins.0 (event.Drain conn.session.client 0) in
    let alone : e.talk ≡ question ∷ [] = e.begins.2 ∙ ap (λ l. question ∷ l) (e.once refl) in
    record {
      met = e.begins.0;
      went = subst (λ (t : List Moment). Went (among o conn wire p) (among o conn wire q) t) alone
          (went_drains o conn conn wire p q e.talk e.own refl refl (sym (append-nil conn.unwritten) ∙ ap (λ l. conn.unwritten ++ l) (sym nothing)) e.joined);
      finished_is = sym (or-false (tells_end e.begins.0 (event.Drain conn.session.client 0))) ∙ ap told_end (sym alone) ∙ e.finished_is;
    }

drained_all : (n : ℕ) (o : Option Client) → length (unread_in o) ≤ n → unread_in (option_map (drained n) o) ≡ []
drained_all n None few = refl
drained_all n (Some client) few = drop_all n client.unread few

-- behind a drain that got less than it asked for nothing is left
none_left : (s : State) (c n count : ℕ) → count ≡ min (length (unread_of s c)) n → count < n → unread_of (next s (event.Drain c n)) c ≡ []
none_left s c n count count_is less =
    let few : length (unread_of s c) ≤ n = omega (arith, count_is, less) in
    ap (λ t. unread_of t c) (next_drain s c n)
    ∙ ap unread_in (at-change nat_cmp nat_cmp-IsAntisymmetric (drained n) s.clients c c)
    ∙ ap (λ b. unread_in (option_map (λ x. if b then drained n x else x) (at_number s.clients c))) (same_itself c)
    ∙ drained_all n (at_number s.clients c) few

pub some_came : (count : ℕ) → count ≢ 0 → 0 < count
some_came count some = omega (arith, some)

-- a drain of some bytes asks nothing
for_bytes : (c n : ℕ) → 0 < n → questioned (event.Drain c n) ≡ []
for_bytes c zero some = absurd (omega (arith, some))
for_bytes c (suc n) some = refl

-- a drain of a hold that goes on
pub drained_once : (h k : ShownHold) (c n : ℕ) (into rest : List ℕ) (piece : Chunk) → n ≤ 4096 → Stands h → k ≡ record h { lobby = k.lobby; events = h.events ++ event.Drain c n ∷ [] }
    → k.lobby.plain ≡ next h.lobby.plain (event.Drain c n) → piece.count ≡ min (length (unread_of h.lobby.plain c)) n
    → into ≡ take piece.count (unread_of h.lobby.plain c) ++ rest → piece.finished ≡ is_finished k.lobby.plain c → (piece.dry ≡ true → piece.count ≡ 0) → (piece.dry ≡ false → 0 < piece.count)
    → DrainedInto (pass_after h) (pass_after k) c n into piece
drained_once h k c n into rest piece small stands one goes count given finished dry came = record {
  talk = moment h.lobby.plain (event.Drain c n) ∷ [];
  joined = joined_more h k (event.Drain c n) stands one;
  own = ((refl, small), tt);
  begins = (h.lobby.plain, [], refl);
  once = λ _. refl;
  no_question = λ some. ap (λ l. l ++ []) (for_bytes c n some);
  within = omega (arith, count);
  few = few_came h.lobby.plain c n piece.count into rest count given;
  bytes = bytes ∙ sym (append-nil (taken_by h.lobby.plain (event.Drain c n) c));
  finished_is = or-false (tells_end h.lobby.plain (event.Drain c n)) ∙ ap (λ s. is_finished s c) (sym goes) ∙ sym finished;
  dry_is = λ e some. ([], h.lobby.plain, n, refl, some, sym bytes ∙ ap (λ x. take x into) (dry e));
  came = came;
  all = λ less. ap (λ s. unread_of s c) (sym (stands_more h k (event.Drain c n) stands one goes) ∙ goes) ∙ none_left h.lobby.plain c n piece.count count less;
}
  where
    bytes : take piece.count into ≡ taken_by h.lobby.plain (event.Drain c n) c
    bytes = at_front h.lobby.plain c n piece.count into rest count given

-- the rest of a slice behind so many bytes
pub rest_length : (n : ℕ) (xs : List ℕ) → n ≤ length xs → n + length (take (length xs - n) (drop n xs)) ≡ length xs
rest_length n xs few =
    let behind : length (drop n xs) ≡ length xs - n = length-drop n xs in
    let all : length xs - n ≤ length (drop n xs) = omega (arith, behind) in
    omega (arith, length-take-le (length xs - n) (drop n xs) all, few)

-- and another behind it, into the rest of the slice
pub drained_twice : (p q r : ShownPass) (c n m : ℕ) (front back tail : List ℕ) (first rest both : Chunk) → DrainedInto p q c n front first → DrainedInto q r c m back rest
    → first.finished ≡ false → 0 < m → first.count + m ≡ n
    → both.count ≡ first.count + rest.count → both.finished ≡ rest.finished → both.dry ≡ rest.dry → DrainedInto p r c n (take first.count front ++ (back ++ tail)) both
drained_twice p q r c n m front back tail first rest both h k goes_on some lengths count finished dry = record {
  talk = h.talk ++ k.talk;
  joined = joined_then p q r h.talk k.talk h.joined k.joined;
  own = are_drains-append c h.talk k.talk h.own k.own;
  begins = (h.begins.0, h.begins.1 ++ k.talk, ap (λ l. l ++ k.talk) h.begins.2);
  once = λ none. absurd (omega (arith, none, lengths, some));
  no_question = λ asks. questions-append h.talk k.talk ∙ ap (λ l. l ++ questions k.talk) (h.no_question asks) ∙ k.no_question some;
  within = omega (arith, count, k.within, lengths);
  few = omega (arith, count, k.few, length-append (take first.count front) (back ++ tail), length-append back tail, long);
  bytes = ap (λ x. take x (take first.count front ++ (back ++ tail))) count
      ∙ ap (λ x. take (x + rest.count) (take first.count front ++ (back ++ tail))) (sym long)
      ∙ take-append-add (take first.count front) (back ++ tail) rest.count
      ∙ (λ i. h.bytes i ++ (take-append-le rest.count back tail k.few ∙ k.bytes) i)
      ∙ sym (drained-append c h.talk k.talk);
  finished_is = told_end-append h.talk k.talk ∙ ap (λ b. b || told_end k.talk) (h.finished_is ∙ goes_on) ∙ k.finished_is ∙ sym finished;
  dry_is = λ e _. dry_behind c h.talk k.talk (k.dry_is (sym dry ∙ e) some);
  came = λ e. omega (arith, count, k.came (sym dry ∙ e));
  all = λ less. k.all (omega (arith, count, lengths, less));
}
  where
    long : length (take first.count front) ≡ first.count
    long = length-take-le first.count front h.few

-- the whole hold, from the take to the give
pub drained_held : (p q : ShownPass) (h k : ShownHold) (c n : ℕ) (into : List ℕ) (piece : Chunk) → IsTaken p h → q ≡ pass_after k
    → DrainedInto (pass_after h) (pass_after k) c n into piece → DrainedInto p q c n into piece
drained_held p q h k c n into piece taken is d =
    subst (λ (x : ShownPass). DrainedInto p x c n into piece) (sym is) (record {
      talk = d.talk;
      joined = joined_then p (pass_after h) (pass_after k) [] d.talk (held_none p (pass_after h) h h taken refl refl) d.joined;
      own = d.own;
      begins = d.begins;
      once = d.once;
      no_question = d.no_question;
      within = d.within;
      few = d.few;
      bytes = d.bytes;
      finished_is = d.finished_is;
      dry_is = d.dry_is;
      came = d.came;
      all = d.all;
    })

-- ---- letting go

-- so many pieces were drained, each of them full
pub record LetsFull (old new : ShownPass) (c pieces : ℕ) : Type 0 where
  pub talk : List Moment
  pub joined : Joined old new talk
  pub own : AreDrains c talk
  pub full : length (drained_for c talk) ≡ 4096 * pieces

pub lets_none : (p : ShownPass) (c : ℕ) → LetsFull p p c 0
lets_none p c = record { talk = []; joined = joined_none p; own = tt; full = refl }

module _ (p q r : ShownPass) (c d pieces : ℕ) (into : List ℕ) (piece : Chunk) (same : d ≡ c) (h : LetsFull p q c pieces) (k : DrainedInto q r d 4096 into piece) where
  own_piece : DrainedInto q r c 4096 into piece
  own_piece = subst (λ (x : ℕ). DrainedInto q r x 4096 into piece) same k

  -- another full piece
  pub lets_full : 4096 ≤ piece.count → LetsFull p r c (pieces + 1)
  lets_full enough =
      let e = own_piece in
      let came : length (drained_for c e.talk) ≡ piece.count = ap length (sym e.bytes) ∙ length-take-le piece.count into e.few in
      let both : length (drained_for c (h.talk ++ e.talk)) ≡ length (drained_for c h.talk) + length (drained_for c e.talk) =
      ap length (drained-append c h.talk e.talk) ∙ length-append (drained_for c h.talk) (drained_for c e.talk) in
      record {
        talk = h.talk ++ e.talk;
        joined = joined_then p q r h.talk e.talk h.joined e.joined;
        own = are_drains-append c h.talk e.talk h.own e.own;
        full = omega (arith, both, came, h.full, enough, e.within);
      }

  -- a piece that is not full, behind which nothing is left
  pub lets_last : piece.count < 4096 → GivesUp p r c
  lets_last less =
      let e = own_piece in
      record {
        talk = h.talk ++ e.talk;
        joined = joined_then p q r h.talk e.talk h.joined e.joined;
        own = are_drains-append c h.talk e.talk h.own e.own;
        enough = inl (e.all less);
      }

-- as many pieces as may be let go at once
pub lets_most : (p q : ShownPass) (c pieces : ℕ) → 1024 ≤ pieces → LetsFull p q c pieces → GivesUp p q c
lets_most p q c pieces most h = record {
  talk = h.talk;
  joined = h.joined;
  own = h.own;
  enough = inr (omega (arith, h.full, most));
}

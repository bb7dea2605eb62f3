-- What a worker does for one client leaves the turns of others as they are.
use Rattle.std.proofs.Common.{◌≡◌, ℕ, true, false, cond, List, [], ◌∷◌, refl, sym, ap, ◌∙◌, subst, append-nil, true≢false}
use Rattle.std.specs.Prelude.{Option, Some, None}
use Rattle.std.specs.List.{Contains, list_any}
use Rattle.std.proofs.Math.Bool.{or-false}
use Rattle.std.proofs.lemmas.Bool.{eqb-true, ne_eqb}
use Rattle.std.proofs.lemmas.List.Folds.{list_any_at}
use Rattle.lobby_lock.specs.Passes.{ShownPass}
use Rattle.lobby_holds.specs.declared.holds.Chunk.{Chunk}
use Rattle.lobby_holds.specs.Moments.{Moment}
use Rattle.lobby_holds.specs.Wire.{Wire}
use Rattle.lobby_holds.specs.Snapshot.{Carried, Snapshot, among}
use Rattle.lobby_holds.specs.Went.{AreOf, JoinedAmong, Went, of_client, speaker, speaks_for}
use Rattle.lobby_holds.specs.Holds.{DrainsRest}
use Rattle.lobby_holds.proofs.Among.{joined_others}
use Rattle.lobby_holds.proofs.Parts.{went_none, went_then}
use Rattle.lobby_turns.specs.declared.receiving.ReceiveState.{ReceiveState}
use Rattle.lobby_turns.specs.declared.receiving.ReceiveState.TheVariants as receive
use Rattle.lobby_turns.specs.declared.receiving.Stage.{Stage}
use Rattle.lobby_turns.specs.declared.receiving.Stage.TheVariants as stage
use Rattle.lobby_turns.specs.declared.serving.Progress.{Progress}
use Rattle.lobby_turns.specs.Receiving.{HasToReceive, has_bytes, has_line, has_more, IsAtStage, IsMost, most_lines, most_reads, most_bytes, most_told, OnlyReads, ReceivedIs, Receives, ReceivesThenDrains, Share}
use Rattle.lobby_turns.specs.Turned.{IsUnderway}
use Rattle.lobby_turns.proofs.Receivings.{goes_on_among}

-- ---- what speaks for one client speaks for no other

speaks_apart : (c d : ℕ) (s : Option ℕ) → (c ≡ d → ⊥) → speaks_for d s ≡ true → speaks_for c s ≡ false
speaks_apart c d None apart e = absurd (true≢false (sym e))
speaks_apart c d (Some x) apart e = ne_eqb x c (λ same. apart (sym same ∙ eqb-true x d e))

speaks_of : (d : ℕ) (m : Moment) (t : List Moment) → AreOf (d ∷ []) (m ∷ t) → speaks_for d (speaker m.event) ≡ true
speaks_of d m t h = sym (or-false (speaks_for d (speaker m.event))) ∙ h.0

none_of : (c d : ℕ) (t : List Moment) → (c ≡ d → ⊥) → AreOf (d ∷ []) t → of_client c t ≡ []
none_of c d [] apart h = refl
none_of c d (m ∷ t) apart h =
    ap (λ b. cond b (m ∷ of_client c t) (of_client c t)) (speaks_apart c d (speaker m.event) apart (speaks_of d m t h)) ∙ none_of c d t apart h.1

among_them : (o : List ℕ) (d : ℕ) (s : Option ℕ) → Contains o d → speaks_for d s ≡ true → list_any (λ c. speaks_for c s) o ≡ true
among_them o d s is h = list_any_at (λ c. speaks_for c s) o is.0 d is.1 (ap (λ c. speaks_for c s) is.2 ∙ h)

are_among : (o : List ℕ) (d : ℕ) (t : List Moment) → Contains o d → AreOf (d ∷ []) t → AreOf o t
are_among o d [] is h = tt
are_among o d (m ∷ t) is h = (among_them o d (speaker m.event) is (speaks_of d m t h), are_among o d t is h.1)

pub joined_apart : (o : List ℕ) (c d : ℕ) (p q : ShownPass) (t : List Moment) → Contains o d → (c ≡ d → ⊥) → JoinedAmong [] d p q t → JoinedAmong o c p q []
joined_apart o c d p q t is apart h = joined_others o c p q h.all (are_among o d h.all is h.rest) (none_of c d h.all apart h.rest) h.joined

-- ---- where nothing was done for its client

pub went_joined : (o : List ℕ) (conn : Carried) (wire : Wire) (p q : ShownPass) → JoinedAmong o conn.session.client p q [] → Went (among o conn wire p) (among o conn wire q) []
went_joined o conn wire p q joined = record {
  joined = joined;
  others = refl;
  client = refl;
  moved = λ fed accepted drained x.
      let m = (went_none (among o conn wire p)).moved fed accepted drained x in
      record { more = m.more; carries = record { session = m.carries.session; read = m.carries.read; written = m.carries.written }; lines = m.lines };
}

drains_meanwhile : (a : Snapshot) (o : List ℕ) (conn : Carried) (wire : Wire) (p q : ShownPass) (piece : Chunk) → Went (among o conn wire p) (among o conn wire q) []
    → DrainsRest a (among o conn wire p) piece → DrainsRest a (among o conn wire q) piece
drains_meanwhile a o conn wire p q piece went h =
    let talk : List Moment = h.drains.talk in
    record {
      drains = record {
        talk = talk;
        went = subst (λ (t : List Moment). Went a (among o conn wire q) t) (append-nil talk) (went_then a (among o conn wire p) (among o conn wire q) talk [] h.drains.went went);
        own = h.drains.own;
        few = h.drains.few;
        no_question = h.drains.no_question;
        finished_is = h.drains.finished_is;
        dry_is = h.drains.dry_is;
      };
      came = h.came;
      written = h.written;
      nothing = h.nothing;
      session = h.session;
      unfed = h.unfed;
      wire = h.wire;
    }

-- ---- where it has received

most_meanwhile : (a : Snapshot) (o : List ℕ) (conn : Carried) (wire : Wire) (p q : ShownPass) (share : Share) (talk : List Moment) → IsMost a (among o conn wire p) share talk → IsMost a (among o conn wire q) share talk
most_meanwhile a o conn wire p q share talk (most_lines e) = most_lines e
most_meanwhile a o conn wire p q share talk (most_reads e) = most_reads e
most_meanwhile a o conn wire p q share talk (most_bytes four bytes) = most_bytes four bytes
most_meanwhile a o conn wire p q share talk (most_told spent loud) = most_told spent loud

to_receive_meanwhile : (a : Snapshot) (o : List ℕ) (conn : Carried) (wire : Wire) (p q : ShownPass) → HasToReceive a (among o conn wire p) → HasToReceive a (among o conn wire q)
to_receive_meanwhile a o conn wire p q (has_bytes some unspoilt) = has_bytes some unspoilt
to_receive_meanwhile a o conn wire p q (has_line h) = has_line h
to_receive_meanwhile a o conn wire p q (has_more h) = has_more (record { fed = h.fed; nothing = h.nothing; on = h.on; sound = h.sound; late = h.late })

received_meanwhile : (a : Snapshot) (o : List ℕ) (conn : Carried) (wire : Wire) (p q : ShownPass) (share : Share) (talk : List Moment) (how : ReceiveState)
    → ReceivedIs a (among o conn wire p) share talk how → ReceivedIs a (among o conn wire q) share talk how
received_meanwhile a o conn wire p q share talk receive.All h = (h.0, record { fed = h.1.fed; nothing = h.1.nothing; last = h.1.last })
received_meanwhile a o conn wire p q share talk receive.Again h =
    (h.0, record { limit = most_meanwhile a o conn wire p q share talk h.1.limit; fed = h.1.fed; unspoilt = h.1.unspoilt })
received_meanwhile a o conn wire p q share talk receive.Stop h = h
received_meanwhile a o conn wire p q share talk receive.Memory h = (h.0, to_receive_meanwhile a o conn wire p q h.1)

receives_meanwhile : (a : Snapshot) (o : List ℕ) (conn : Carried) (wire : Wire) (p q : ShownPass) (share : Share) (how : ReceiveState) (wakes : ℕ) → Went (among o conn wire p) (among o conn wire q) []
    → Receives a (among o conn wire p) share how wakes → Receives a (among o conn wire q) share how wakes
receives_meanwhile a o conn wire p q share how wakes went h =
    let talk : List Moment = h.talk in
    let only : OnlyReads a (among o conn wire p) h.reads h.bytes = h.only in
    record {
      talk = talk;
      went = subst (λ (t : List Moment). Went a (among o conn wire q) t) (append-nil talk) (went_then a (among o conn wire p) (among o conn wire q) talk [] h.went went);
      own = h.own;
      calm = h.calm;
      lines = h.lines;
      only_lines = h.only_lines;
      reads = h.reads;
      few = h.few;
      after_end = h.after_end;
      bytes = h.bytes;
      few_bytes = h.few_bytes;
      only = record { reads_are = only.reads_are; bytes_are = only.bytes_are; at_once = only.at_once; writes = only.writes; failures = only.failures; still = only.still; unwritten = only.unwritten };
      wakes_are = h.wakes_are;
      told_is = h.told_is;
      received_is = received_meanwhile a o conn wire p q share talk how h.received_is;
    }

then_drains_meanwhile : (a : Snapshot) (o : List ℕ) (conn : Carried) (wire : Wire) (p q : ShownPass) (share : Share) (how : ReceiveState) (wakes : ℕ) (drained : Option Chunk)
    → Went (among o conn wire p) (among o conn wire q) [] → ReceivesThenDrains a (among o conn wire p) share how wakes drained → ReceivesThenDrains a (among o conn wire q) share how wakes drained
then_drains_meanwhile a o conn wire p q share how wakes None went h =
    record {
      between = among o conn wire q;
      receives = receives_meanwhile a o conn wire p q share how wakes went (subst (λ (s : Snapshot). Receives a s share how wakes) (sym h.behind) h.receives);
      behind = refl;
    }
then_drains_meanwhile a o conn wire p q share how wakes (Some piece) went h =
    record { between = h.between; receives = h.receives; behind = drains_meanwhile h.between o conn wire p q piece went h.behind }

stage_meanwhile : (a : Snapshot) (o : List ℕ) (conn : Carried) (wire : Wire) (p q : ShownPass) (allowance : Option ℕ) (at : Stage) → Went (among o conn wire p) (among o conn wire q) []
    → IsAtStage a (among o conn wire p) allowance at → IsAtStage a (among o conn wire q) allowance at
stage_meanwhile a o conn wire p q allowance (stage.Receives at) went h = goes_on_among a (among o conn wire p) (among o conn wire q) _ _ _ _ _ _ went refl refl h
stage_meanwhile a o conn wire p q allowance (stage.Received how all drained) went h = then_drains_meanwhile a o conn wire p q _ how _ drained went h

-- a turn that is under way stays so
pub underway_meanwhile : (a : Snapshot) (o : List ℕ) (conn : Carried) (wire : Wire) (p q : ShownPass) (progress : Progress) → Went (among o conn wire p) (among o conn wire q) []
    → IsUnderway a (among o conn wire p) progress → IsUnderway a (among o conn wire q) progress
underway_meanwhile a o conn wire p q progress went h = stage_meanwhile a o conn wire p q progress.allowance progress.stage went h

-- How one part of a turn follows another, and what the smallest parts do.
use Rattle.std.proofs.Common.{◌≡◌, ℕ, ◌+◌, List, [], ◌∷◌, ◌++◌, length, refl, sym, ap, ◌∙◌, subst, arith, append_assoc, append-nil, length-append}
use Rattle.std.specs.Prelude.{Option, Some, None}
use Rattle.std.proofs.lemmas.Grind.{flat_map-append}
use Rattle.command_grammar.specs.declared.command.Request.{Request}
use Rattle.lobby_model.specs.declared.event.Event.TheVariants as event
use Rattle.lobby_model.specs.State.{State}
use Rattle.lobby_model.specs.Next.{taken_by}
use Rattle.lobby_lock.specs.Passes.{ShownPass}
use Rattle.client_session.specs.Serving.{Serving}
use Rattle.client_session.specs.declared.session.Next.TheVariants.{Line}
use Rattle.client_session.specs.Sessions.{Heard, IsNext}
use Rattle.client_session.specs.OneSession.{IsNextOf}
use Rattle.lobby_holds.specs.declared.link.Sent.{Sent}
use Rattle.lobby_holds.specs.declared.link.Sent.TheVariants as sent
use Rattle.lobby_holds.specs.Wire.{Wire, and_more, sent_count}
use Rattle.lobby_holds.specs.Moments.{Moment, moment, asked, requests, questioned, questions, drained_for}
use Rattle.lobby_holds.specs.Snapshot.{Carried, Snapshot, among, Carries}
use Rattle.lobby_holds.specs.Talk.{AreDrains}
use Rattle.lobby_holds.specs.Went.{Joined, JoinedAmong, Went, AreNext}
use Rattle.lobby_holds.proofs.Among.{joined_both, joined_nothing, joined_shut, joined_talk}
use Rattle.lobby_holds.proofs.Lines.{are_next-more, are_next-append}
use Rattle.lobby_holds.proofs.Talks.{drains_are_talk, drains_ask}

same_carries : (at : Snapshot) (f g : List ℕ) (m n : ℕ) (d e : List ℕ) → f ≡ g → m ≡ n → d ≡ e → Carries at f m d → Carries at g n e
same_carries at f g m n d e p q r c = subst (λ (x : List ℕ × (ℕ × List ℕ)). Carries at x.0 x.1.0 x.1.1) (λ i. (p i, (q i, r i))) c

pub requests-append : (t u : List Moment) → requests (t ++ u) ≡ requests t ++ requests u
requests-append t u = flat_map-append (λ (m : Moment). asked m.event) t u

pub questions-append : (t u : List Moment) → questions (t ++ u) ≡ questions t ++ questions u
questions-append t u = flat_map-append (λ (m : Moment). questioned m.event) t u

pub drained-append : (c : ℕ) (t u : List Moment) → drained_for c (t ++ u) ≡ drained_for c t ++ drained_for c u
drained-append c t u = flat_map-append (λ (m : Moment). taken_by m.met m.event c) t u

pub went_then : (a b c : Snapshot) (t u : List Moment) → Went a b t → Went b c u → Went a c (t ++ u)
went_then a b c t u h k = record {
  joined = joined_both a.others a.conn.session.client a.pass b.pass c.pass t u h.joined
      (subst (λ (x : List ℕ × ℕ). JoinedAmong x.0 x.1 b.pass c.pass u) (λ i. (h.others i, h.client i)) k.joined);
  others = k.others ∙ h.others;
  client = k.client ∙ h.client;
  moved = λ fed accepted drained x.
      let m = h.moved fed accepted drained x in
      let n = k.moved (fed ++ m.more) (accepted + length (requests t)) (drained ++ drained_for b.conn.session.client t) m.carries in
      let more : (fed ++ m.more) ++ n.more ≡ fed ++ (m.more ++ n.more) = append_assoc fed m.more n.more in
      record {
        more = m.more ++ n.more;
        carries = same_carries c _ _ _ _ _ _ more (counts accepted) (drains drained) n.carries;
        lines = subst (λ (f : List ℕ). AreNext f accepted (requests (t ++ u))) more (
            subst (λ (rs : List Request). AreNext ((fed ++ m.more) ++ n.more) accepted rs) (sym (requests-append t u)) (
            are_next-append ((fed ++ m.more) ++ n.more) accepted (requests t) (requests u) (are_next-more (fed ++ m.more) n.more accepted (requests t) m.lines) n.lines));
      };
}
  where
    counts : (accepted : ℕ) → (accepted + length (requests t)) + length (requests u) ≡ accepted + length (requests (t ++ u))
    counts accepted = omega (arith, ap length (requests-append t u), length-append (requests t) (requests u))

    drains : (drained : List ℕ) → (drained ++ drained_for b.conn.session.client t) ++ drained_for c.conn.session.client u ≡ drained ++ drained_for c.conn.session.client (t ++ u)
    drains drained =
        append_assoc drained (drained_for b.conn.session.client t) (drained_for c.conn.session.client u)
        ∙ ap (λ l. drained ++ l) (ap (λ x. drained_for x t ++ drained_for c.conn.session.client u) (sym k.client) ∙ sym (drained-append c.conn.session.client t u))

-- ---- parts without an event

-- the pass is as it was, some more was fed, and nothing was drained
quiet : (a b : Snapshot) → b.pass ≡ a.pass → b.others ≡ a.others → b.conn.session.client ≡ a.conn.session.client
    → ((fed : List ℕ) (accepted : ℕ) (drained : List ℕ) → Carries a fed accepted drained → (more : List ℕ) × Carries b (fed ++ more) accepted drained)
    → Went a b []
quiet a b pass others client moves = record {
  joined = subst (λ (p : ShownPass). JoinedAmong a.others a.conn.session.client a.pass p []) (sym pass) (joined_nothing a.others a.conn.session.client a.pass);
  others = others;
  client = client;
  moved = λ fed accepted drained x.
      let m = moves fed accepted drained x in
      record {
        more = m.0;
        carries = same_carries b _ _ _ _ _ _ refl (omega arith) (sym (append-nil drained)) m.1;
        lines = tt;
      };
}

stays : (b : Snapshot) (fed : List ℕ) (accepted : ℕ) (drained : List ℕ) → Carries b fed accepted drained → (more : List ℕ) × Carries b (fed ++ more) accepted drained
stays b fed accepted drained x = ([], same_carries b _ _ _ _ _ _ (sym (append-nil fed)) refl refl x)

pub went_none : (a : Snapshot) → Went a a []
went_none a = quiet a a refl refl refl (stays a)

-- what was read and not yet fed is fed
pub went_fed : (o : List ℕ) (old new : Carried) (wire : Wire) (pass : ShownPass) → new.session.client ≡ old.session.client → new.unfed ≡ [] → new.unwritten ≡ old.unwritten
    → ((bytes : List ℕ) (accepted : ℕ) → Heard old.session.framed bytes accepted → Heard new.session.framed (bytes ++ old.unfed) accepted)
    → Went (among o old wire pass) (among o new wire pass) []
went_fed o old new wire pass client fed same takes =
    quiet _ _ refl refl client (λ bytes accepted drained x. (
      old.unfed,
      record {
        session = takes bytes accepted x.session;
        read = x.read ∙ ap (λ l. Some l) (sym (append-nil (bytes ++ old.unfed)) ∙ ap (λ l. (bytes ++ old.unfed) ++ l) (sym fed));
        written = ap (and_more wire.written) same ∙ x.written;
      },
    ))

pub more_none : (o : Option (List ℕ)) → o ≡ and_more o []
more_none None = refl
more_none (Some w) = ap (λ l. Some l) (sym (append-nil w))

pub more_twice : (o : Option (List ℕ)) (xs ys : List ℕ) → and_more (and_more o xs) ys ≡ and_more o (xs ++ ys)
more_twice None xs ys = refl
more_twice (Some w) xs ys = ap (λ l. Some l) (append_assoc w xs ys)

-- some bytes were read, where all that was read before was fed
pub went_read : (o : List ℕ) (old new : Carried) (before after : Wire) (pass : ShownPass) (bytes : List ℕ) → new.session ≡ old.session → new.unwritten ≡ old.unwritten
    → new.unfed ≡ old.unfed ++ bytes → after.read ≡ and_more before.read bytes → after.written ≡ before.written
    → Went (among o old before pass) (among o new after pass) []
went_read o old new before after pass bytes session same got read written =
    quiet _ _ refl refl (ap (λ (s : Serving). s.client) session) (λ fed accepted drained x. stays (among o new after pass) fed accepted drained (record {
      session = subst (λ (s : Serving). Heard s.framed fed accepted) (sym session) x.session;
      read = read ∙ ap (λ o. and_more o bytes) x.read ∙ ap (λ l. Some l) (append_assoc fed old.unfed bytes ∙ ap (λ l. fed ++ l) (sym got));
      written = (λ i. and_more (written i) (same i)) ∙ x.written;
    }))

-- the first of the bytes to be written were written
pub went_written : (o : List ℕ) (old new : Carried) (before after : Wire) (pass : ShownPass) (bytes : List ℕ) → new.session ≡ old.session → new.unfed ≡ old.unfed
    → old.unwritten ≡ bytes ++ new.unwritten → after.written ≡ and_more before.written bytes → after.read ≡ before.read
    → Went (among o old before pass) (among o new after pass) []
went_written o old new before after pass bytes session same gave written read =
    quiet _ _ refl refl (ap (λ (s : Serving). s.client) session) (λ fed accepted drained x. stays (among o new after pass) fed accepted drained (record {
      session = subst (λ (s : Serving). Heard s.framed fed accepted) (sym session) x.session;
      read = read ∙ x.read ∙ ap (λ l. Some (fed ++ l)) (sym same);
      written = ap (λ o. and_more o new.unwritten) written ∙ more_twice before.written bytes new.unwritten ∙ ap (and_more before.written) (sym gave) ∙ x.written;
    }))

-- ---- parts of a hold

-- the hold made no event
pub went_held : (o : List ℕ) (conn : Carried) (wire : Wire) (p q : ShownPass) → Joined p q [] → Went (among o conn wire p) (among o conn wire q) []
went_held o conn wire p q joined = record {
  joined = joined_talk o conn.session.client p q [] tt joined;
  others = refl;
  client = refl;
  moved = λ fed accepted drained x. record {
    more = [];
    carries = same_carries (among o conn wire q) _ _ _ _ _ _ (sym (append-nil fed)) (omega arith) (sym (append-nil drained)) (record { session = x.session; read = x.read; written = x.written });
    lines = tt;
  };
}

-- the next line was said the lobby, and accepted
pub went_said : (o : List ℕ) (old new : Carried) (wire : Wire) (p q : ShownPass) (s : State) (request : Request) → new.session.client ≡ old.session.client
    → new.unfed ≡ old.unfed → new.unwritten ≡ old.unwritten → IsNextOf (Some old.session) (Line request)
    → ((bytes : List ℕ) (accepted : ℕ) → Heard old.session.framed bytes accepted → IsNext bytes accepted (Line request) → Heard new.session.framed bytes (accepted + 1))
    → Joined p q (moment s (event.Say old.session.client request) ∷ [])
    → Went (among o old wire p) (among o new wire q) (moment s (event.Say old.session.client request) ∷ [])
went_said o old new wire p q s request client unfed unwritten next accepts joined = record {
  joined = joined_talk o old.session.client p q _ (refl, tt) joined;
  others = refl;
  client = client;
  moved = λ fed accepted drained x. record {
    more = [];
    carries = same_carries (among o new wire q) fed (fed ++ []) (accepted + 1) (accepted + 1) drained (drained ++ []) (sym (append-nil fed)) refl (sym (append-nil drained)) (record {
      session = accepts fed accepted x.session (next fed accepted x.session);
      read = x.read ∙ ap (λ l. Some (fed ++ l)) (sym unfed);
      written = ap (and_more wire.written) unwritten ∙ x.written;
    });
    lines = (subst (λ (f : List ℕ). IsNext f accepted (Line request)) (sym (append-nil fed)) (next fed accepted x.session), tt);
  };
}

-- drains took these bytes
pub went_drains : (o : List ℕ) (old new : Carried) (wire : Wire) (p q : ShownPass) (talk : List Moment) → AreDrains old.session.client talk → new.session ≡ old.session → new.unfed ≡ old.unfed
    → new.unwritten ≡ old.unwritten ++ drained_for old.session.client talk → Joined p q talk
    → Went (among o old wire p) (among o new wire q) talk
went_drains o old new wire p q talk own session unfed drains joined = record {
  joined = joined_talk o old.session.client p q talk (drains_are_talk old.session.client talk own) joined;
  others = refl;
  client = ap (λ (x : Serving). x.client) session;
  moved = λ fed accepted drained x. record {
    more = [];
    carries = same_carries (among o new wire q) fed (fed ++ []) accepted (accepted + length (requests talk)) _ _ (sym (append-nil fed)) (none accepted)
        (ap (λ (y : Serving). drained ++ drained_for y.client talk) (sym session)) (record {
          session = subst (λ (y : Serving). Heard y.framed fed accepted) (sym session) x.session;
          read = x.read ∙ ap (λ l. Some (fed ++ l)) (sym unfed);
          written = ap (and_more wire.written) drains ∙ sym (more_twice wire.written old.unwritten taken) ∙ ap (λ o. and_more o taken) x.written;
        });
    lines = subst (λ (rs : List Request). AreNext (fed ++ []) accepted rs) (sym asks) tt;
  };
}
  where
    taken : List ℕ
    taken = drained_for old.session.client talk

    asks : requests talk ≡ []
    asks = drains_ask old.session.client talk own

    none : (accepted : ℕ) → accepted ≡ accepted + length (requests talk)
    none accepted = omega (arith, ap length asks)

-- the client was shut
pub went_shut : (o : List ℕ) (conn : Carried) (wire : Wire) (p q : ShownPass) (s : State) → Joined p q (moment s (event.Shut conn.session.client) ∷ [])
    → Went (among o conn wire p) (among o conn wire q) (moment s (event.Shut conn.session.client) ∷ [])
went_shut o conn wire p q s joined = record {
  joined = joined_shut o conn.session.client p q s joined;
  others = refl;
  client = refl;
  moved = λ fed accepted drained x. record {
    more = [];
    carries = same_carries (among o conn wire q) _ _ _ _ _ _ (sym (append-nil fed)) (omega arith) (sym (append-nil drained)) (record { session = x.session; read = x.read; written = x.written });
    lines = tt;
  };
}

-- ---- what a write took

pub nothing_sent : (r : Sent) → ((n : ℕ) → r ≡ sent.Took n → ⊥) → sent_count r ≡ 0
nothing_sent (sent.Took n) f = absurd (f n refl)
nothing_sent sent.Later f = refl
nothing_sent sent.Fault f = refl

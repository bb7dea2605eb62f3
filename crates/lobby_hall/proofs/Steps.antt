-- What a hall stands for after a step.
use Rattle.std.proofs.Common.{◌≡◌, ◌≢◌, ℕ, zero, suc, ◌+◌, ◌<◌, ◌≤◌, List, [], ◌∷◌, ◌++◌, length, drop, min, refl, sym, ap, subst, ◌∙◌, true, false, arith, append-nil, length-append, cond, T}
use Rattle.std.specs.Prelude.{Option, Some, None, if◌then◌else◌, is_some, IsSome, slice_get, MatchBool}
use Rattle.std.specs.List.{AllByRecursion}
use Rattle.std.specs.Option.{option_map}
use Rattle.std.specs.Ordering.{nat_cmp}
use Rattle.std.specs.Cmp.{nat_cmp_total}
use Rattle.std.specs.FinMap.Entries.{find-put, is_sorted}
use Rattle.line_framer.specs.Frames.{frames}
use Rattle.line_framer.specs.Framed.{Framed, first, next_line}
use Rattle.command_grammar.specs.declared.command.Request.{Request}
use Rattle.account_book.specs.Account.{Account}
use Rattle.lobby_model.specs.declared.event.Event.{Event}
use Rattle.lobby_model.specs.declared.event.Event.TheVariants as event
use Rattle.lobby_model.specs.declared.schedule.Step.TheVariants as step
use Rattle.line_words.specs.Table.{ByNumber, at_number, put_number}
use Rattle.lobby_model.specs.Configuration.{Configuration}
use Rattle.lobby_model.specs.State.{State, Client, empty_lobby}
use Rattle.lobby_model.specs.Sessions.{has_place}
use Rattle.lobby_model.specs.Next.{next}
use Rattle.lobby_model.specs.History.{after}
use Rattle.lobby_model.specs.Schedule.{World, Input, input, input_of, is_open, line_limit, with_bytes, with_taken, moved, StepGives, TakeGives}
use Rattle.lobby_model.proofs.Delivered.{same_itself}
use Rattle.lobby_model.proofs.Balance.{is_numbered}
use Rattle.lobby_hall.specs.ByClient.{of_client}
use Rattle.lobby_hall.specs.Record.{Log, IsRecord}
use Rattle.client_session.specs.Serving.{Serving}
use Rattle.client_session.specs.declared.session.Next.TheVariants.{Nothing, Line, Spoilt}
use Rattle.client_session.specs.Sessions.{Heard, NextAt}
use Rattle.client_session.specs.OneSession.{Fed, Accepted, IsNextOf}
use Rattle.client_session.proofs.Lines.{line_asked}
use Rattle.lobby_hall.specs.Standing.{Kept, session_of, session_at, SessionOf, Stands, StandsAfter}
use Rattle.lobby_hall.specs.Copied.{completed, completed_log, IsWithin, changed_at, caught_up, read_on, no_log}
use Rattle.lobby_hall.proofs.Each.{at_each, not_same}
use Rattle.lobby_hall.proofs.Changed.{of-changed_same, of-changed_other, length-changed_at}
use Rattle.lobby_hall.proofs.Logs.{length-completed_from}
use Rattle.lobby_hall.proofs.Recorded.{after-snoc, recorded}
use Rattle.lobby_machine.specs.Shown.{unread_of}
use Rattle.lobby_hall.proofs.Drained.{drained_record}
use Rattle.lobby_hall.proofs.Opened.{opened_record, of-append_some, of-append_new, of-append_past, other_client}
use Rattle.lobby_model.proofs.Quiet.{shut_removes}
use Rattle.lobby_model.proofs.Origins.{last_after}
use Rattle.lobby_model.proofs.EventsKept.{always_sound}
use Rattle.lobby_hall.proofs.Kept.{said_keeps, shut_keeps, drain_keeps, open_lets_in, open_gives}

-- inputs with one written
input_here : (inputs : ByNumber Input) (c : ℕ) (x : Input) → input_of (at_number (put_number inputs c x) c) ≡ x
input_here inputs c x = ap input_of (find-put nat_cmp nat_cmp_total c c x inputs ∙ ap (λ b. cond b (Some x) (at_number inputs c)) (same_itself c))

input_there : (inputs : ByNumber Input) (c : ℕ) (x : Input) (q : ℕ) → q ≢ c → input_of (at_number (put_number inputs c x) q) ≡ input_of (at_number inputs q)
input_there inputs c x q ne = ap input_of (find-put nat_cmp nat_cmp_total q c x inputs ∙ ap (λ b. cond b (Some x) (at_number inputs q)) (not_same q c ne))

-- the next line of a session
first_drop : (ls : List (List ℕ)) (k : ℕ) → first (drop k ls) ≡ slice_get ls k
first_drop [] zero = refl
first_drop [] (suc k) = refl
first_drop (l ∷ ls) zero = refl
first_drop (l ∷ ls) (suc k) = first_drop ls k

pub has_next : (f : Framed) (bytes : List ℕ) (k : ℕ) → Heard f bytes k → IsSome (slice_get (frames bytes line_limit) k) → IsSome (next_line f)
has_next f bytes k heard some =
    subst (λ o. IsSome o) (sym (ap first heard.1.lines ∙ first_drop (frames bytes f.limit) k ∙ ap (λ n. slice_get (frames bytes n) k) heard.0)) some

module _ (settings : Configuration) (accounts : List Account) (events : List Event) (w : World) where
  -- a step that gives no event and leaves the world
  pub stays : (hall : Kept) → Stands hall settings accounts events w → Stands hall settings accounts (events ++ []) w
  stays hall st = subst (λ es. Stands hall settings accounts es w) (sym (append-nil events)) st

  -- a client that is open bears a number that was given
  open_is_numbered : (hall : Kept) → Stands hall settings accounts events w → (c : ℕ) → is_open w c ≡ true → c ≤ w.lobby.last_client
  open_is_numbered hall st c is =
      elim (at_number w.lobby.clients c) as (λ o. at_number w.lobby.clients c ≡ o → is_some o ≡ true → c ≤ w.lobby.last_client) [
        | None ↦ λ f e. absurd (cc)
        | Some x ↦ λ f e.
            let known = is_numbered settings accounts events c x (ap (λ (s : State). at_number s.clients c) (sym st.history) ∙ f) in
            omega (arith, known.1, ap (λ (s : State). s.last_client) st.history)
      ] refl is

  module _ (s : State) (ss : List (Option Serving)) (rs : List Log) (st : Stands (record { lobby = s; sessions = ss; record_so_far = rs }) settings accounts events w) where
    pub clients_in_order : T (is_sorted nat_cmp s.clients)
    clients_in_order =
        subst (λ (t : State). T (is_sorted nat_cmp t.clients)) (sym (st.lobby ∙ st.history)) (always_sound settings accounts events).clients.in_order

    -- bytes come
    pub arrived : (c : ℕ) (piece : List ℕ) (new : List (Option Serving)) → Fed (session_at ss c) (session_at new c) piece
        → ((q : ℕ) → q ≢ c → session_at new q ≡ session_at ss q) → length new ≡ length ss
        → StandsAfter (record { lobby = s; sessions = new; record_so_far = rs }) settings accounts events w (step.Arrive c piece)
    arrived c piece new fed others same =
        elim (session_at ss c) as (λ o. session_at ss c ≡ o → SessionOf o (is_open w c) (input w c) → Fed o (session_at new c) piece
        → StandsAfter (record { lobby = s; sessions = new; record_so_far = rs }) settings accounts events w (step.Arrive c piece)) [
          | None ↦ λ f there h. (
            [],
            w,
            (refl, sym (ap (λ b. if b then with_bytes w c piece else w) there)),
            stays _ (record {
              lobby = st.lobby;
              history = st.history;
              record_is = st.record_is;
              sessions = at_each (λ q. SessionOf (session_at new q) (is_open w q) (input w q)) c
                  (subst (λ o. SessionOf o (is_open w c) (input w c)) (sym h) there)
                  (λ q ne. subst (λ o. SessionOf o (is_open w q) (input w q)) (sym (others q ne)) (st.sessions q));
              unheard = st.unheard;
              one_session_each = same ∙ st.one_session_each;
              one_log_each = st.one_log_each;
            }),
          )
          | Some old ↦ λ f there h. (
            [],
            with_bytes w c piece,
            (refl, sym (ap (λ b. if b then with_bytes w c piece else w) there.0)),
            subst (λ es. Stands (record { lobby = s; sessions = new; record_so_far = rs }) settings accounts es (with_bytes w c piece)) (sym (append-nil events)) (record {
              lobby = st.lobby;
              history = st.history;
              record_is = st.record_is;
              sessions = at_each (λ q. SessionOf (session_at new q) (is_open w q) (input (with_bytes w c piece) q)) c
                  (subst (λ o. SessionOf o (is_open w c) (input (with_bytes w c piece) c)) (sym h.1)
                  (subst (λ (given : Input). SessionOf (Some h.0) (is_open w c) given) (sym (input_here w.inputs c _)) (there.0, h.2 (input w c).bytes (input w c).taken there.1)))
                  (λ q ne. subst (λ o. SessionOf o (is_open w q) (input (with_bytes w c piece) q)) (sym (others q ne))
                  (subst (SessionOf (session_at ss q) (is_open w q)) (sym (input_there w.inputs c _ q ne)) (st.sessions q)));
              unheard = λ q late. input_there w.inputs c _ q (λ e. omega (arith, e, late, open_is_numbered _ st c there.0)) ∙ st.unheard q late;
              one_session_each = same ∙ st.one_session_each;
              one_log_each = st.one_log_each;
            }),
          )
        ] refl (st.sessions c) fed

    -- the client's session is gone with it
    removed_stands : (c : ℕ) → AllByRecursion IsWithin rs
        → Stands (record { lobby = next s (event.Shut c); sessions = changed_at (λ _. None) ss c; record_so_far = completed rs (next s (event.Shut c)) }) settings accounts (events ++ event.Shut c ∷ []) (moved w (event.Shut c ∷ []))
    removed_stands c within =
        let here : s ≡ after (empty_lobby settings accounts) events = st.lobby ∙ st.history in
        record {
          lobby = ap (λ t. next t (event.Shut c)) st.lobby;
          history = ap (λ t. next t (event.Shut c)) st.history ∙ sym (after-snoc (empty_lobby settings accounts) events (event.Shut c));
          record_is = subst (λ (t : State). IsRecord (completed rs (next t (event.Shut c))) (empty_lobby settings accounts) (events ++ event.Shut c ∷ [])) (sym here)
              (recorded settings accounts events (event.Shut c) rs st.record_is within
              (st.one_log_each ∙ ap (λ (t : State). t.last_client) st.history
              ∙ sym (last_after (after (empty_lobby settings accounts) events) (event.Shut c))) (λ q. refl));
          sessions = at_each (λ q. SessionOf (session_at (changed_at (λ _. None) ss c) q) (is_open (moved w (event.Shut c ∷ [])) q) (input w q)) c
              (subst (λ o. SessionOf o (is_open (moved w (event.Shut c ∷ [])) c) (input w c)) (sym (gone c)) (ap is_some (shut_removes w.lobby c)))
              (λ q ne. subst (λ o. SessionOf (session_of o) (is_open (moved w (event.Shut c ∷ [])) q) (input w q)) (sym (of-changed_other (λ _. None) ss c q ne))
              (subst (λ b. SessionOf (session_at ss q) b (input w q)) (sym (shut_keeps w.lobby c q (not_same c q (λ e. ne (sym e))))) (st.sessions q)));
          unheard = λ q late.
              let last : (next w.lobby (event.Shut c)).last_client ≡ w.lobby.last_client = last_after w.lobby (event.Shut c) in
              st.unheard q (omega (arith, last, late));
          one_session_each = length-changed_at (λ _. None) ss c ∙ st.one_session_each ∙ sym (last_after w.lobby (event.Shut c));
          one_log_each = length-completed_from 1 rs (next s (event.Shut c)) ∙ st.one_log_each ∙ sym (last_after w.lobby (event.Shut c));
        }
      where
        gone : (c : ℕ) → session_at (changed_at (λ _. None) ss c) c ≡ None
        gone c = ap session_of (of-changed_same (λ _. None) ss c) ∙ elim (of_client ss c) as (λ o. session_of (option_map (λ _. None) o) ≡ None) [ None ↦ refl | Some x ↦ refl ]

    -- a client that is there is shut
    pub shut_off : (c : ℕ) → AllByRecursion IsWithin rs → is_some (at_number s.clients c) ≡ true
        → StandsAfter (record { lobby = next s (event.Shut c); sessions = changed_at (λ _. None) ss c; record_so_far = completed rs (next s (event.Shut c)) }) settings accounts events w (step.Shut c)
    shut_off c within there = (
      event.Shut c ∷ [],
      moved w (event.Shut c ∷ []),
      (sym (ap (λ b. if b then event.Shut c ∷ [] else []) (sym (ap (λ (t : State). is_some (at_number t.clients c)) st.lobby) ∙ there)), refl),
      removed_stands c within,
    )

    pub shut_nobody : (c : ℕ) → is_some (at_number s.clients c) ≡ false
        → StandsAfter (record { lobby = s; sessions = ss; record_so_far = rs }) settings accounts events w (step.Shut c)
    shut_nobody c nobody = (
      [],
      w,
      (sym (ap (λ b. if b then event.Shut c ∷ [] else []) (sym (ap (λ (t : State). is_some (at_number t.clients c)) st.lobby) ∙ nobody)), refl),
      stays _ st,
    )

    -- a take where nothing is next
    pub took_nothing : (c : ℕ) → IsNextOf (session_at ss c) Nothing → StandsAfter (record { lobby = s; sessions = ss; record_so_far = rs }) settings accounts events w (step.Take c)
    took_nothing c told = ([], w, gives (session_at ss c) (st.sessions c) told, stays _ st)
      where
        calm : (o : Option (List ℕ)) → NextAt o (input w c).bytes Nothing → TakeGives w c o [] w
        calm None h = (sym (ap (λ b. if b then event.Shut c ∷ [] else []) h), refl)
        calm (Some line) h = absurd h

        gives : (o : Option Serving) → SessionOf o (is_open w c) (input w c) → IsNextOf o Nothing → StepGives w (step.Take c) [] w
        gives None there h = subst (λ b. MatchBool b (TakeGives w c (slice_get (frames (input w c).bytes line_limit) (input w c).taken) [] w) ((◌≡◌ {A = List Event} [] []) × (w ≡ w))) (sym there) (refl, refl)
        gives (Some session) there h =
            subst (λ b. MatchBool b (TakeGives w c (slice_get (frames (input w c).bytes line_limit) (input w c).taken) [] w) ((◌≡◌ {A = List Event} [] []) × (w ≡ w))) (sym there.0)
            (calm (slice_get (frames (input w c).bytes line_limit) (input w c).taken) (h (input w c).bytes (input w c).taken there.1))

    -- a take at the spoilt place
    pub took_spoilt : (c : ℕ) → AllByRecursion IsWithin rs → IsNextOf (session_at ss c) Spoilt
        → StandsAfter (record { lobby = next s (event.Shut c); sessions = changed_at (λ _. None) ss c; record_so_far = completed rs (next s (event.Shut c)) }) settings accounts events w (step.Take c)
    took_spoilt c within told = (event.Shut c ∷ [], moved w (event.Shut c ∷ []), gives (session_at ss c) (st.sessions c) told, removed_stands c within)
      where
        spoils : (o : Option (List ℕ)) → NextAt o (input w c).bytes Spoilt → TakeGives w c o (event.Shut c ∷ []) (moved w (event.Shut c ∷ []))
        spoils None h = (sym (ap (λ b. if b then event.Shut c ∷ [] else []) h), refl)
        spoils (Some line) h = absurd h

        gives : (o : Option Serving) → SessionOf o (is_open w c) (input w c) → IsNextOf o Spoilt → StepGives w (step.Take c) (event.Shut c ∷ []) (moved w (event.Shut c ∷ []))
        gives None there h = absurd (cc)
        gives (Some session) there h =
            subst (λ b. MatchBool b (TakeGives w c (slice_get (frames (input w c).bytes line_limit) (input w c).taken) (event.Shut c ∷ []) (moved w (event.Shut c ∷ []))) ((event.Shut c ∷ [] ≡ []) × (moved w (event.Shut c ∷ []) ≡ w))) (sym there.0)
            (spoils (slice_get (frames (input w c).bytes line_limit) (input w c).taken) (h (input w c).bytes (input w c).taken there.1))

    -- a take of a line
    pub took_line : (c : ℕ) (request : Request) (new : List (Option Serving)) → AllByRecursion IsWithin rs → IsNextOf (session_at ss c) (Line request)
        → Accepted (session_at ss c) (session_at new c) → ((q : ℕ) → q ≢ c → session_at new q ≡ session_at ss q) → length new ≡ length ss
        → StandsAfter (record { lobby = next s (event.Say c request); sessions = new; record_so_far = completed rs (next s (event.Say c request)) }) settings accounts events w (step.Take c)
    took_line c request new within told accepted others same =
        (event.Say c request ∷ [], (moved (with_taken w c) (event.Say c request ∷ [])), gives (session_at ss c) (st.sessions c) told, said_stands)
      where
        reads : (o : Option (List ℕ)) → NextAt o (input w c).bytes (Line request) → TakeGives w c o (event.Say c request ∷ []) (moved (with_taken w c) (event.Say c request ∷ []))
        reads None h = absurd h
        reads (Some line) h = (request, h, refl, refl)

        gives : (o : Option Serving) → SessionOf o (is_open w c) (input w c) → IsNextOf o (Line request) → StepGives w (step.Take c) (event.Say c request ∷ []) (moved (with_taken w c) (event.Say c request ∷ []))
        gives None there h = absurd (cc)
        gives (Some session) there h =
            subst (λ b. MatchBool b (TakeGives w c (slice_get (frames (input w c).bytes line_limit) (input w c).taken) (event.Say c request ∷ []) (moved (with_taken w c) (event.Say c request ∷ [])))
            ((event.Say c request ∷ [] ≡ []) × (moved (with_taken w c) (event.Say c request ∷ []) ≡ w))) (sym there.0)
            (reads (slice_get (frames (input w c).bytes line_limit) (input w c).taken) (h (input w c).bytes (input w c).taken there.1))

        open_still : (q : ℕ) → is_open (moved (with_taken w c) (event.Say c request ∷ [])) q ≡ is_open w q
        open_still q = said_keeps w.lobby c request q

        is_there : (o : Option Serving) → SessionOf o (is_open w c) (input w c) → IsNextOf o (Line request) → is_open w c ≡ true
        is_there None there h = absurd (cc)
        is_there (Some session) there h = there.0

        issuer : (o n : Option Serving) → SessionOf o (is_open w c) (input w c) → IsNextOf o (Line request) → Accepted o n → SessionOf n (is_open (moved (with_taken w c) (event.Say c request ∷ [])) c) (input (moved (with_taken w c) (event.Say c request ∷ [])) c)
        issuer None n there h a = absurd (cc)
        issuer (Some old) n there h a =
            let line : IsSome (slice_get (frames (input w c).bytes line_limit) (input w c).taken) = line_asked (slice_get (frames (input w c).bytes line_limit) (input w c).taken) (input w c).bytes request (h (input w c).bytes (input w c).taken there.1) in
            subst (λ o. SessionOf o (is_open (moved (with_taken w c) (event.Say c request ∷ [])) c) (input (moved (with_taken w c) (event.Say c request ∷ [])) c)) (sym a.1)
            (subst (λ (given : Input). (is_open (moved (with_taken w c) (event.Say c request ∷ [])) c ≡ true) × Heard a.0.framed given.bytes given.taken) (sym (input_here w.inputs c _))
            (open_still c ∙ there.0, a.2.line (has_next old.framed (input w c).bytes (input w c).taken there.1 line) (input w c).bytes (input w c).taken there.1))

        said_stands : Stands (record { lobby = next s (event.Say c request); sessions = new; record_so_far = completed rs (next s (event.Say c request)) }) settings accounts (events ++ event.Say c request ∷ []) (moved (with_taken w c) (event.Say c request ∷ []))
        said_stands =
            let here : s ≡ after (empty_lobby settings accounts) events = st.lobby ∙ st.history in
            record {
              lobby = ap (λ t. next t (event.Say c request)) st.lobby;
              history = ap (λ t. next t (event.Say c request)) st.history ∙ sym (after-snoc (empty_lobby settings accounts) events (event.Say c request));
              record_is = subst (λ (t : State). IsRecord (completed rs (next t (event.Say c request))) (empty_lobby settings accounts) (events ++ event.Say c request ∷ [])) (sym here)
                  (recorded settings accounts events (event.Say c request) rs st.record_is within
                  (st.one_log_each ∙ ap (λ (t : State). t.last_client) st.history
                  ∙ sym (last_after (after (empty_lobby settings accounts) events) (event.Say c request))) (λ q. refl));
              sessions = at_each (λ q. SessionOf (session_at new q) (is_open (moved (with_taken w c) (event.Say c request ∷ [])) q) (input (moved (with_taken w c) (event.Say c request ∷ [])) q)) c
                  (issuer (session_at ss c) (session_at new c) (st.sessions c) told accepted)
                  (λ q ne. subst (λ o. SessionOf o (is_open (moved (with_taken w c) (event.Say c request ∷ [])) q) (input (moved (with_taken w c) (event.Say c request ∷ [])) q)) (sym (others q ne))
                  (subst (λ b. SessionOf (session_at ss q) b (input (moved (with_taken w c) (event.Say c request ∷ [])) q)) (sym (open_still q))
                  (subst (SessionOf (session_at ss q) (is_open w q)) (sym (input_there w.inputs c _ q ne)) (st.sessions q))));
              unheard = λ q late.
                  let last : (next w.lobby (event.Say c request)).last_client ≡ w.lobby.last_client = last_after w.lobby (event.Say c request) in
                  let numbered : c ≤ w.lobby.last_client = open_is_numbered _ st c (is_there (session_at ss c) (st.sessions c) told) in
                  let later : w.lobby.last_client < q = omega (arith, last, late) in
                  input_there w.inputs c _ q (λ e. omega (arith, e, later, numbered)) ∙ st.unheard q later;
              one_session_each = same ∙ st.one_session_each ∙ sym (last_after w.lobby (event.Say c request));
              one_log_each = length-completed_from 1 rs (next s (event.Say c request)) ∙ st.one_log_each ∙ sym (last_after w.lobby (event.Say c request));
            }

  module _ (s : State) (ss : List (Option Serving)) (ls : List Log) (st : Stands (record { lobby = s; sessions = ss; record_so_far = completed ls s }) settings accounts events w) where
    logs_each : length ls ≡ (after (empty_lobby settings accounts) events).last_client
    logs_each = sym (length-completed_from 1 ls s) ∙ st.one_log_each ∙ ap (λ (t : State). t.last_client) st.history

    here_is : s ≡ after (empty_lobby settings accounts) events
    here_is = st.lobby ∙ st.history

    -- a client that is there reads
    pub was_read : (c n : ℕ) (x : Client) → at_number s.clients c ≡ Some x → (new : List Log)
        → new ≡ changed_at (read_on (min n (length x.unread))) (caught_up ls s c) c → (min n (length x.unread) ≡ 0 → new ≡ caught_up ls s c)
        → StandsAfter (record { lobby = next s (event.Drain c n); sessions = ss; record_so_far = completed new (next s (event.Drain c n)) }) settings accounts events w (step.Read c n)
    was_read c n x found new read_more none = (
      event.Drain c n ∷ [],
      moved w (event.Drain c n ∷ []),
      (sym (ap (λ b. if b then event.Drain c n ∷ [] else []) (sym (ap (λ (t : State). is_some (at_number t.clients c)) st.lobby) ∙ ap is_some found)), refl),
      record {
        lobby = ap (λ t. next t (event.Drain c n)) st.lobby;
        history = ap (λ t. next t (event.Drain c n)) st.history ∙ sym (after-snoc (empty_lobby settings accounts) events (event.Drain c n));
        record_is = subst (λ (t : State). IsRecord (completed new (next t (event.Drain c n))) (empty_lobby settings accounts) (events ++ event.Drain c n ∷ [])) (sym here_is)
            (drained_record settings accounts events ls c n x (ap (λ (t : State). at_number t.clients c) (sym here_is) ∙ found)
            (subst (λ (t : State). IsRecord (completed ls t) (empty_lobby settings accounts) events) here_is st.record_is)
            new (read_more ∙ ap (λ (t : State). changed_at (read_on (min n (length x.unread))) (caught_up ls t c) c) here_is) (λ z. none z ∙ ap (λ (t : State). caught_up ls t c) here_is) logs_each);
        sessions = λ q. subst (λ b. SessionOf (session_at ss q) b (input w q)) (sym (drain_keeps w.lobby c n q)) (st.sessions q);
        unheard = st.unheard;
        one_session_each = st.one_session_each;
        one_log_each = length-completed_from 1 new (next s (event.Drain c n)) ∙ ap length read_more ∙ length-changed_at (read_on (min n (length x.unread))) (caught_up ls s c) c
            ∙ length-changed_at (λ log. completed_log log (unread_of s c)) ls c ∙ sym (length-completed_from 1 ls s) ∙ st.one_log_each;
      },
    )

    pub read_nobody : (c n : ℕ) → is_some (at_number s.clients c) ≡ false
        → StandsAfter (record { lobby = s; sessions = ss; record_so_far = completed ls s }) settings accounts events w (step.Read c n)
    read_nobody c n nobody = (
      [],
      w,
      (sym (ap (λ b. if b then event.Drain c n ∷ [] else []) (sym (ap (λ (t : State). is_some (at_number t.clients c)) st.lobby) ∙ nobody)), refl),
      stays _ st,
    )

    -- the next client is let in
    pub was_opened : (ip : List ℕ) (home : ℕ) (session : Serving) → Heard session.framed [] 0 → has_place s ≡ true
        → StandsAfter (record { lobby = next s (event.Open ip home); sessions = ss ++ Some session ∷ []; record_so_far = completed (ls ++ no_log ∷ []) (next s (event.Open ip home)) }) settings accounts events w (step.Open ip home)
    was_opened ip home session heard place = (
      event.Open ip home ∷ [],
      moved w (event.Open ip home ∷ []),
      (sym (ap (λ b. if b then event.Open ip home ∷ [] else []) there), refl),
      record {
        lobby = ap (λ t. next t (event.Open ip home)) st.lobby;
        history = ap (λ t. next t (event.Open ip home)) st.history ∙ sym (after-snoc (empty_lobby settings accounts) events (event.Open ip home));
        record_is = subst (λ (t : State). IsRecord (completed (ls ++ no_log ∷ []) (next t (event.Open ip home))) (empty_lobby settings accounts) (events ++ event.Open ip home ∷ [])) (sym here_is)
            (opened_record settings accounts events ls ip home (ap has_place (sym here_is) ∙ place) logs_each
            (subst (λ (t : State). IsRecord (completed ls t) (empty_lobby settings accounts) events) here_is st.record_is));
        sessions = at_each (λ q. SessionOf (session_at (ss ++ Some session ∷ []) q) (is_open (moved w (event.Open ip home ∷ [])) q) (input w q)) (suc (length ss))
            (subst (λ o. SessionOf (session_of o) (is_open (moved w (event.Open ip home ∷ [])) (suc (length ss))) (input w (suc (length ss)))) (sym (of-append_new ss (Some session)))
            (is_let_in, subst (λ (given : Input). Heard session.framed given.bytes given.taken) (sym (st.unheard (suc (length ss)) (omega (arith, st.one_session_each)))) heard))
            (λ q ne. subst (λ o. SessionOf o (is_open (moved w (event.Open ip home ∷ [])) q) (input w q)) (sym (session_still q ne))
            (subst (λ b. SessionOf (session_at ss q) b (input w q)) (sym (open_still q ne)) (st.sessions q)));
        unheard = λ q late. st.unheard q (omega (arith, late, last_now));
        one_session_each = length-append ss (Some session ∷ []) ∙ ap (λ n. n + 1) st.one_session_each ∙ sym last_now;
        one_log_each = length-completed_from 1 (ls ++ no_log ∷ []) (next s (event.Open ip home)) ∙ length-append ls (no_log ∷ []) ∙ ap (λ n. n + 1) (sym (length-completed_from 1 ls s) ∙ st.one_log_each) ∙ sym last_now;
      },
    )
      where
        there : has_place w.lobby ≡ true
        there = sym (ap has_place st.lobby) ∙ place

        last_now : (next w.lobby (event.Open ip home)).last_client ≡ w.lobby.last_client + 1
        last_now = open_gives w.lobby ip home there

        in_order : T (is_sorted nat_cmp w.lobby.clients)
        in_order = subst (λ (t : State). T (is_sorted nat_cmp t.clients)) st.lobby (clients_in_order s ss (completed ls s) st)

        number_is : suc (length ss) ≡ w.lobby.last_client + 1
        number_is = omega (arith, st.one_session_each)

        is_let_in : is_open (moved w (event.Open ip home ∷ [])) (suc (length ss)) ≡ true
        is_let_in = ap (is_open (moved w (event.Open ip home ∷ []))) number_is ∙ open_lets_in w.lobby ip home there

        open_still : (q : ℕ) → q ≢ suc (length ss) → is_open (moved w (event.Open ip home ∷ [])) q ≡ is_open w q
        open_still q ne = ap is_some (other_client w.lobby ip home there q (λ e. ne (e ∙ sym number_is)) in_order)

        session_still : (q : ℕ) → q ≢ suc (length ss) → session_at (ss ++ Some session ∷ []) q ≡ session_at ss q
        session_still q ne =
            elim (of_client ss q) as (λ o. of_client ss q ≡ o → session_of (of_client (ss ++ Some session ∷ []) q) ≡ session_of o) [
              | None ↦ λ f. ap session_of (of-append_past ss (Some session) q f ne)
              | Some x ↦ λ f. ap session_of (of-append_some ss (Some session ∷ []) q x f)
            ] refl

    pub open_refused : (ip : List ℕ) (home : ℕ) → has_place s ≡ false
        → StandsAfter (record { lobby = s; sessions = ss; record_so_far = completed ls s }) settings accounts events w (step.Open ip home)
    open_refused ip home full = (
      [],
      w,
      (sym (ap (λ b. if b then event.Open ip home ∷ [] else []) (sym (ap has_place st.lobby) ∙ full)), refl),
      stays _ st,
    )

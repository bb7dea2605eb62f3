-- What an event sends to a client that is logged in makes its view what the lobby then shows it.
use Rattle.std.proofs.Common.{◌≡◌, ℕ, ◌+◌, ℤ, List, [], ◌∷◌, ◌++◌, refl, sym, ap, subst, ◌∙◌, Bool, true, false, cond, not, append-nil}
use Rattle.std.specs.Prelude.{Option, Some, None, Result, Ok, Err, flat_map, if◌then◌else◌, is_some}
use Rattle.std.proofs.lemmas.Option.{same_Some}
use Rattle.std.proofs.lemmas.Grind.{flat_map-append}
use Rattle.std.specs.Option.{option_map}
use Rattle.std.specs.Ordering.{nat_cmp}
use Rattle.std.specs.Cmp.{nat_cmp_total}
use Rattle.std.specs.FinMap.{nat_cmp-IsAntisymmetric}
use Rattle.account_book.specs.Account.{Account}
use Rattle.account_book.specs.Book.{login}
use Rattle.account_book.specs.declared.error.LoginFault.{LoginFault}
use Rattle.reply_kinds.specs.declared.Reply.{Reply}
use Rattle.reply_kinds.specs.declared.Reply.TheVariants as reply
use Rattle.command_grammar.specs.declared.command.Command.{Command}
use Rattle.command_grammar.specs.declared.command.Command.TheVariants as command
use Rattle.line_words.specs.Table.{ByNumber, at_number, at_name, change_number, without_number, put_number, same_number, same_name}
use Rattle.line_words.proofs.Tables.{same_name_is, at-put, at-without, at-change}
use Rattle.line_words.proofs.Once.{contradiction}
use Rattle.lobby_model.specs.declared.event.Event.{Event}
use Rattle.lobby_model.specs.declared.event.Event.TheVariants as event
use Rattle.lobby_model.specs.declared.event.Phase.TheVariants.{In, Ended}
use Rattle.lobby_model.specs.State.{State, Client, User, is_live_client, hears, name_of_client, name_of, name_at, in_phase, set_phase}
use Rattle.lobby_model.specs.Texts.{user_is_in}
use Rattle.lobby_model.specs.Outcome.{Happening, Outcome, Refused, Done, done, nothing, lines_for, letters_of, state_after, all_after, tell, issuer}
use Rattle.lobby_model.specs.Sessions.{logs_out, logs_in, log_in, user_of, departs, drained, connects, greeted, has_place}
use Rattle.lobby_model.specs.Commands.{answer}
use Rattle.lobby_model.specs.Events.{outcome, reader_of, issuer_of}
use Rattle.lobby_model.specs.Sound.{Sound}
use Rattle.lobby_model.proofs.Delivered.{same_itself}
use Rattle.lobby_model.proofs.Splits.{same_either_way}
use Rattle.lobby_model.proofs.Decided.{opening, saying}
use Rattle.lobby_model.proofs.Inside.{outside_stays, answer_stays, all_after-append, departed}
use Rattle.lobby_model.proofs.Users.{drain_names}
use Rattle.lobby_model.proofs.SessionsKept.{clients_become, Unnames, ends_unnames, disconnects_unnames}
use Rattle.lobby_view.specs.View.{View, shown_all}
use Rattle.lobby_view.specs.Observe.{observe}
use Rattle.lobby_view.proofs.Basics.{AllSeen, SeenOutcome, IsQuiet, all_seen}
use Rattle.lobby_view.proofs.Ordered.{at_itself}
use Rattle.lobby_view.proofs.LogsIn.{newcomer_seen, arrival_seen}
use Rattle.lobby_view.proofs.Quiet.{told_seen}
use Rattle.lobby_view.proofs.Answers.{answer_seen}
use Rattle.lobby_view.proofs.LoggingOut.{logs_out_seen}

-- client d, and a view that is what the lobby shows it where it is logged in as u and hears
module _ (s : State) (sound : Sound s) (d : ℕ) (u : List ℕ) (v : View) (known : name_of s d ≡ Some u → hears s d ≡ true → v ≡ observe s u) where
  -- so it is after an outcome of client c's event
  abbrev Stays : ℕ → Outcome → Type 0
  Stays c o = name_of (state_after s o) d ≡ Some u → hears (state_after s o) d ≡ true
      → shown_all v (lines_for (reader_of s c d) (letters_of o)) ≡ observe (state_after s o) u

  told_all : (c : ℕ) (happenings : List Happening) → AllSeen s (same_number d c) u happenings → name_of s d ≡ Some u → v ≡ observe s u
      → shown_all v (lines_for (reader_of s c d) (flat_map (λ h. h.told) happenings)) ≡ observe (all_after s happenings) u
  told_all c happenings seen name is =
      let letters = flat_map (λ h. h.told) happenings in
      ap (λ w. shown_all w (lines_for (reader_of s c d) letters)) is
      ∙ ap (λ o. shown_all (observe s u) (lines_for (record { mine = same_number d c; name = o }) letters)) name
      ∙ all_seen s (same_number d c) u happenings seen

  quiet_line : (mine : Bool) (line : Reply) → IsQuiet line → shown_all v ((if mine then line ∷ [] else []) ++ []) ≡ v
  quiet_line true line quiet = quiet v
  quiet_line false line quiet = refl

  -- clients stay as they are, and each user sees all that happens
  seen_stays : (c : ℕ) (o : Outcome) → (state_after s o).clients ≡ s.clients → ((mine : Bool) → SeenOutcome s mine u o) → Stays c o
  seen_stays c (Refused refusal) same seen name hear = quiet_line (same_number d c) refusal (seen true) ∙ known name hear
  seen_stays c (Done happenings) same seen name hear =
      let was : name_of s d ≡ Some u = ap (λ m. name_at m d) (sym same) ∙ name in
      told_all c happenings (seen (same_number d c)) was (known was (ap (λ m. is_live_client (at_number m d)) (sym same) ∙ hear))

  abbrev IsSpared : ℕ → (ByNumber Client → ByNumber Client) → Type 0
  IsSpared c f = same_number d c ≡ false → at_number (f s.clients) d ≡ at_number s.clients d

  change_spares : (c : ℕ) (f : Client → Client) → IsSpared c (λ clients. change_number clients c f)
  change_spares c f apart =
      at-change nat_cmp nat_cmp-IsAntisymmetric f s.clients c d
      ∙ at_itself nat_cmp nat_cmp_total nat_cmp-IsAntisymmetric c d f (at_number s.clients d) apart

  without_spares : (c : ℕ) → IsSpared c (λ clients. without_number clients c)
  without_spares c apart =
      at-without nat_cmp nat_cmp_total s.clients c d
      ∙ ap (λ b. cond (not b) (at_number s.clients d) None) (same_either_way c d ∙ apart)

  -- client c departs: the client that is logged in afterwards is another, of another name
  module _ (c : ℕ) (f : ByNumber Client → ByNumber Client) where
    other_name : (me : List ℕ) → name_of s c ≡ Some me → same_number d c ≡ false → name_of s d ≡ Some u → same_name u me ≡ false
    other_name me own apart name =
        elim (same_name u me) as (λ b. same_name u me ≡ b → b ≡ false) [
          | true ↦ λ t.
              let same : d ≡ c = sound.clients.one_for_each.single d c me (name ∙ ap (λ n. Some n) (same_name_is u me t)) own in
              contradiction (same_number d c) (ap (λ n. same_number n c) same ∙ same_itself c) apart
          | false ↦ λ t. refl
        ] refl

    departs_seen : (me : Option (List ℕ)) → name_of s c ≡ me → same_number d c ≡ false → name_of s d ≡ Some u → v ≡ observe s u
        → shown_all v (lines_for (reader_of s c d) (letters_of (departs s me (clients_become f))))
        ≡ observe (state_after s (departs s me (clients_become f))) u
    departs_seen None own apart name is = is
    departs_seen (Some me) own apart name is =
        let out = logs_out s (Some me) in
        let seen = logs_out_seen s sound me u (other_name me own apart name) in
        ap (λ letters. shown_all v (lines_for (reader_of s c d) letters))
        (flat_map-append (λ h. h.told) out (clients_become f ∷ []) ∙ append-nil (flat_map (λ h. h.told) out))
        ∙ told_all c out (subst (λ b. AllSeen s b u out) (sym apart) seen) name is
        ∙ ap (λ t. observe t u) (sym (all_after-append s out (clients_become f ∷ [])))

    departs_stays : Unnames c f → IsSpared c f → (me : Option (List ℕ)) → name_of s c ≡ me → Stays c (departs s me (clients_become f))
    departs_stays unnames spared me own name hear =
        let clients = ap (λ (t : State). t.clients) (departed s me (clients_become f)) in
        let other = still (sym (unnames.names s.clients d) ∙ ap (λ m. name_at m d) (sym clients) ∙ name) in
        let heard = ap is_live_client (sym (ap (λ m. at_number m d) clients ∙ spared other.0)) ∙ hear in
        departs_seen me own other.0 other.1 (known other.1 heard)
      where
        still : cond (same_number d c) None (name_of s d) ≡ Some u → (same_number d c ≡ false) × (name_of s d ≡ Some u)
        still e = elim (same_number d c) as (λ b. cond b None (name_of s d) ≡ Some u → (b ≡ false) × (name_of s d ≡ Some u)) [
          | true ↦ λ f. absurd (cc)
          | false ↦ λ f. (refl, f)
        ] e

  -- client c, which is not logged in
  module _ (c : ℕ) (own : name_of s c ≡ None) where
    logs_in_stays : (name : List ℕ) (user : User) → is_some (at_name s.users name) ≡ false → Stays c (done (logs_in c name user s))
    logs_in_stays name user free is hear =
        elim (same_number d c) as (λ b. same_number d c ≡ b
        → shown_all v (lines_for (record { mine = b; name = name_of s d }) ((logs_in c name user s).told ++ []))
        ≡ observe ((logs_in c name user s).after s) u) [
          | true ↦ λ t.
              ap (λ letters. shown_all v (lines_for (record { mine = true; name = name_of s d }) letters)) (append-nil (logs_in c name user s).told)
              ∙ newcomer_seen s sound c name user free v (name_of s d)
              ∙ ap (observe ((logs_in c name user s).after s)) (its_name (at_number s.clients d) (same_either_way c d ∙ t)
              (ap name_of_client (sym (at-change nat_cmp nat_cmp-IsAntisymmetric (in_phase (In name)) s.clients c d)) ∙ is))
          | false ↦ λ apart.
              let same = change_spares c (in_phase (In name)) apart in
              let was : name_of s d ≡ Some u = ap name_of_client (sym same) ∙ is in
              let letters = (logs_in c name user s).told ++ [] in
              ap (λ w. shown_all w (lines_for (record { mine = false; name = name_of s d }) letters)) (known was (ap is_live_client (sym same) ∙ hear))
              ∙ ap (λ o. shown_all (observe s u) (lines_for (record { mine = false; name = o }) letters)) was
              ∙ arrival_seen s sound c name user u
        ] refl
      where
        its_name : (o : Option Client) → same_number c d ≡ true
            → name_of_client (option_map (λ x. if same_number c d then in_phase (In name) x else x) o) ≡ Some u → name ≡ u
        its_name None same e = absurd (cc)
        its_name (Some x) same e = same_Some name u (ap (λ b. name_of_client (Some (if b then in_phase (In name) x else x))) (sym same) ∙ e)

    log_in_stays : (cpu : ℤ) (authorises : Bool) (result : Result Account LoginFault) → Stays c (log_in s c cpu authorises result)
    log_in_stays cpu authorises (Err fault) = seen_stays c (log_in s c cpu authorises (Err fault)) refl (λ mine w. refl)
    log_in_stays cpu authorises (Ok account) =
        elim (is_some (at_name s.users account.name)) as (λ b. is_some (at_name s.users account.name) ≡ b
        → Stays c (if b then Refused (reply.Denied user_is_in) else done (logs_in c account.name (user_of account cpu authorises) s))) [
          | true ↦ λ taken. seen_stays c (Refused (reply.Denied user_is_in)) refl (λ mine w. refl)
          | false ↦ λ free. logs_in_stays account.name (user_of account cpu authorises) free
        ] refl

    unnamed_stays : (command : Command) → Stays c (answer s c None command)
    unnamed_stays command.Blank = seen_stays c nothing refl (λ mine. tt)
    unnamed_stays (command.Unread fault) = seen_stays c (answer s c None (command.Unread fault)) refl (λ mine w. refl)
    unnamed_stays command.Ping =
        seen_stays c (answer s c None command.Ping) refl
        (λ mine. (told_seen s mine u (tell issuer (reply.Pong ∷ []) ∷ []) (((λ w. refl), tt), tt), tt))
    unnamed_stays command.Exit =
        departs_stays c (λ clients. set_phase clients c Ended) (ends_unnames c) (change_spares c (in_phase Ended)) None own
    unnamed_stays (command.Login name password cpu local_ip lobby authorises) = log_in_stays cpu authorises (login s.accounts name password)
    unnamed_stays command = seen_stays c (answer s c None command) refl (λ mine w. refl)

  named_stays : (c : ℕ) (me : List ℕ) → name_of s c ≡ Some me → (command : Command) → Stays c (answer s c (Some me) command)
  named_stays c me own command.Exit =
      departs_stays c (λ clients. set_phase clients c Ended) (ends_unnames c) (change_spares c (in_phase Ended)) (Some me) own
  named_stays c me own (command.Login name password cpu local_ip lobby authorises) =
      seen_stays c (answer s c (Some me) (command.Login name password cpu local_ip lobby authorises)) refl (λ mine w. refl)
  named_stays c me own (command.MyStatus asked) =
      seen_stays c (answer s c (Some me) (command.MyStatus asked)) refl (λ mine. answer_seen s sound me mine u c (command.MyStatus asked) tt)
  named_stays c me own command =
      let o = answer s c (Some me) command in
      seen_stays c o (ap (λ (t : State). t.clients) (outside_stays s o (answer_stays s c (Some me) command refl)))
      (λ mine. answer_seen s sound me mine u c command tt)

  answer_keeps_view : (c : ℕ) (me : Option (List ℕ)) → name_of s c ≡ me → (command : Command) → Stays c (answer s c me command)
  answer_keeps_view c None own command = unnamed_stays c own command
  answer_keeps_view c (Some me) own command = named_stays c me own command

  -- one event
  pub event_seen : (e : Event) → Stays (issuer_of s e) (outcome s e)
  event_seen (event.Open ip home) =
      elim (has_place s) as (λ b. Stays (s.last_client + 1) (opening s ip home b)) [
        | true ↦ λ name hear.
            elim (same_number d (s.last_client + 1)) as
            (λ b. at_number (put_number s.clients (s.last_client + 1) (greeted ip home)) d ≡ cond b (Some (greeted ip home)) (at_number s.clients d)
            → shown_all v (lines_for (record { mine = b; name = name_of s d }) ((connects (s.last_client + 1) ip home s).told ++ [])) ≡ observe s u) [
              | true ↦ λ at_d. absurd (let none : None ≡ Some u = ap name_of_client (sym at_d) ∙ name in cc)
              | false ↦ λ at_d. known (ap name_of_client (sym at_d) ∙ name) (ap is_live_client (sym at_d) ∙ hear)
            ] (at-put nat_cmp nat_cmp_total s.clients (s.last_client + 1) (greeted ip home) d)
        | false ↦ λ name hear. known name hear
      ]
  event_seen (event.Say c request) =
      elim (hears s c) as (λ b. Stays c (saying s c request.command b)) [
        | true ↦ answer_keeps_view c (name_of s c) refl request.command
        | false ↦ λ name hear. known name hear
      ]
  event_seen (event.Shut c) =
      departs_stays c (λ clients. without_number clients c) (disconnects_unnames c) (without_spares c) (name_of s c) refl
  event_seen (event.Drain c n) = λ name hear.
      known (sym (drain_names s.clients c n d) ∙ name)
      (sym (drained_live (at_number s.clients d))
      ∙ ap is_live_client (sym (at-change nat_cmp nat_cmp-IsAntisymmetric (drained n) s.clients c d)) ∙ hear)
    where
      drained_live : (o : Option Client) → is_live_client (option_map (λ x. if same_number c d then drained n x else x) o) ≡ is_live_client o
      drained_live None = refl
      drained_live (Some x) = elim (same_number c d) as (λ b. is_live_client (Some (if b then drained n x else x)) ≡ is_live_client (Some x)) [
        | true ↦ refl
        | false ↦ refl
      ]

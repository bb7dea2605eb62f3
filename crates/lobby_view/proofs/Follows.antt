-- No event looks at unread bytes, save for how many they are: it comes to the same where some are blotted out.
use Rattle.std.proofs.Common.{◌≡◌, ℕ, ◌+◌, ℤ, List, [], ◌∷◌, ◌++◌, refl, sym, ap, ◌∙◌, Bool, true, false}
use Rattle.std.specs.Prelude.{Option, Some, None, ◌&&◌, nat_lt, if◌then◌else◌, is_some, Result, Ok, Err}
use Rattle.command_grammar.specs.declared.command.Command.{Command}
use Rattle.command_grammar.specs.declared.command.Command.TheVariants as command
use Rattle.reply_kinds.specs.declared.Reply.TheVariants as reply
use Rattle.reply_kinds.specs.Replies.{print_all}
use Rattle.account_book.specs.Account.{Account}
use Rattle.account_book.specs.Book.{login}
use Rattle.account_book.specs.declared.error.LoginFault.{LoginFault}
use Rattle.line_words.specs.Table.{ByNumber, at_number, at_name, without_number, same_number, map_values}
use Rattle.lobby_model.specs.declared.event.Event.{Event}
use Rattle.lobby_model.specs.declared.event.Event.TheVariants as event
use Rattle.lobby_model.specs.declared.event.Phase.TheVariants.{In, Ended}
use Rattle.lobby_model.specs.State.{State, Client, hears, name_of, set_phase}
use Rattle.lobby_model.specs.Texts.{user_is_in}
use Rattle.lobby_model.specs.Outcome.{Outcome, Refused, Done, nothing, done, happens, all_after, state_after, letters_of, lines_for}
use Rattle.lobby_model.specs.Battles.{new_battle, open_battle, join_battle}
use Rattle.lobby_model.specs.Sessions.{log_in, logs_in, user_of, logs_out, departs, connects, has_place, disconnects}
use Rattle.lobby_model.specs.Commands.{answer}
use Rattle.lobby_model.specs.Events.{outcome, effect, issuer_of, under, line_id}
use Rattle.lobby_model.specs.Next.{next, batch, put_by, put_to, with_batch}
use Rattle.lobby_model.specs.History.{put_in}
use Rattle.lobby_model.proofs.Inside.{all_after-append}
use Rattle.lobby_view.proofs.Unread.{masked, hidden, put_hidden, phase_hidden, drain_hidden, without_hidden, length_hidden, hears_hidden, name_hidden, address_hidden, put_to_hidden, delivered_hidden}
use Rattle.lobby_view.proofs.Blind.{AreBlind, all_blind, all_clients_stay, logs_out_blind, answer_is_blind}

module _ (who : ℕ → Bool) (s : State) where
  -- what it comes to
  login_same : (c : ℕ) (cpu : ℤ) (authorises : Bool) (result : Result Account LoginFault)
      → log_in (masked who s) c cpu authorises result ≡ log_in s c cpu authorises result
  login_same c cpu authorises (Err fault) = refl
  login_same c cpu authorises (Ok account) = refl

  -- OPENBATTLE and JOINBATTLE alone look at a client, for its address
  answer_same : (c : ℕ) (me : Option (List ℕ)) (command : Command) → answer (masked who s) c me command ≡ answer s c me command
  answer_same c None command.Exit = refl
  answer_same c (Some me) command.Exit = refl
  answer_same c None (command.Login name password cpu local_ip lobby authorises) = login_same c cpu authorises (login s.accounts name password)
  answer_same c (Some me) (command.OpenBattle battle_type nat_type password port max_players game_hash rank map_hash engine_name engine_version map title game_name) =
      ap (λ ip. open_battle s me (new_battle me ip battle_type nat_type password port max_players game_hash rank map_hash engine_name engine_version
      map title game_name)) (address_hidden who s c)
  answer_same c (Some me) (command.JoinBattle id password script_password) =
      ap (λ ip. join_battle s me ip id password script_password) (address_hidden who s c)
  answer_same c me command = refl

  logs_out_same : (me : Option (List ℕ)) → logs_out (masked who s) me ≡ logs_out s me
  logs_out_same None = refl
  logs_out_same (Some me) = refl

  outcome_same : (e : Event) → outcome (masked who s) e ≡ outcome s e
  outcome_same (event.Open ip home) =
      ap (λ n. if nat_lt n 10000 && nat_lt s.last_client 18446744073709551615 then done (connects (s.last_client + 1) ip home s) else nothing)
      (length_hidden who s.clients)
  outcome_same (event.Say c request) =
      ap (λ b. if b then answer (masked who s) c (name_of (masked who s) c) request.command else nothing) (hears_hidden who s c)
      ∙ ap (λ me. if hears s c then answer (masked who s) c me request.command else nothing) (name_hidden who s c)
      ∙ ap (λ o. if hears s c then o else nothing) (answer_same c (name_of s c) request.command)
  outcome_same (event.Shut c) =
      ap (λ me. departs (masked who s) me (disconnects c)) (name_hidden who s c)
      ∙ ap (λ gone. Done (gone ++ disconnects c ∷ [])) (logs_out_same (name_of s c))
  outcome_same (event.Drain c n) = refl

  -- the state after it
  abbrev Follows : Outcome → Type 0
  Follows o = state_after (masked who s) o ≡ masked who (state_after s o)

  of_blind : (o : Outcome) → AreBlind o → Follows o
  of_blind (Refused refusal) blind = refl
  of_blind (Done happenings) blind =
      all_blind happenings blind (hidden who s.clients) s
      ∙ ap (λ clients. record (all_after s happenings) { clients = hidden who clients }) (sym (all_clients_stay happenings blind s))

  -- a user logs out, and then its client changes
  goes : (me : Option (List ℕ)) (f : ByNumber Client → ByNumber Client) → ((m : ByNumber Client) → f (hidden who m) ≡ hidden who (f m))
      → Follows (departs s me (happens (λ t. record t { clients = f t.clients }) []))
  goes me f same =
      let last = happens (λ t. record t { clients = f t.clients }) [] in
      let gone = all_after s (logs_out s me) in
      all_after-append (masked who s) (logs_out s me) (last ∷ [])
      ∙ ap last.after (of_blind (Done (logs_out s me)) (logs_out_blind s me))
      ∙ ap (λ clients. record gone { clients = clients }) (same gone.clients)
      ∙ ap (masked who) (sym (all_after-append s (logs_out s me) (last ∷ [])))

  logging_in : (c : ℕ) (cpu : ℤ) (authorises : Bool) (result : Result Account LoginFault) → Follows (log_in s c cpu authorises result)
  logging_in c cpu authorises (Err fault) = refl
  logging_in c cpu authorises (Ok account) =
      let comes = logs_in c account.name (user_of account cpu authorises) s in
      elim (is_some (at_name s.users account.name)) as (λ b. Follows (if b then Refused (reply.Denied user_is_in) else done comes)) [
        | true ↦ refl
        | false ↦ ap (λ clients. record (comes.after s) { clients = clients }) (phase_hidden who c (In account.name) s.clients)
      ]

  said : (c : ℕ) (me : Option (List ℕ)) (command : Command) → Follows (answer s c me command)
  said c None command.Exit = goes None (λ m. set_phase m c Ended) (phase_hidden who c Ended)
  said c (Some me) command.Exit = goes (Some me) (λ m. set_phase m c Ended) (phase_hidden who c Ended)
  said c None (command.Login name password cpu local_ip lobby authorises) = logging_in c cpu authorises (login s.accounts name password)
  said c (Some me) (command.Login name password cpu local_ip lobby authorises) = refl
  said c me command = of_blind (answer s c me command) (answer_is_blind s c me command refl)

  follows : (e : Event) → Follows (outcome s e)
  follows (event.Open ip home) = elim (has_place s) as (λ b. Follows (if b then done (connects (s.last_client + 1) ip home s) else nothing)) [
    | true ↦ ap (λ clients. record s { last_client = s.last_client + 1; clients = clients }) (put_hidden who (s.last_client + 1) ip home s.clients)
    | false ↦ refl
  ]
  follows (event.Say c request) =
      elim (hears s c) as (λ b. Follows (if b then answer s c (name_of s c) request.command else nothing)) [
        | true ↦ said c (name_of s c) request.command
        | false ↦ refl
      ]
  follows (event.Shut c) = goes (name_of s c) (λ m. without_number m c) (without_hidden who c)
  follows (event.Drain c n) = ap (λ clients. record s { clients = clients }) (drain_hidden who c n s.clients)

  effect_masked : (e : Event) → effect (masked who s) e ≡ masked who (effect s e)
  effect_masked e = ap (state_after (masked who s)) (outcome_same e) ∙ follows e

  -- what is put
  issuer_same : (e : Event) → issuer_of (masked who s) e ≡ issuer_of s e
  issuer_same (event.Open ip home) = refl
  issuer_same (event.Say c request) = refl
  issuer_same (event.Shut c) = refl
  issuer_same (event.Drain c n) = refl

  batch_same : (e : Event) (d : ℕ) → batch (masked who s) e d ≡ batch s e d
  batch_same e d = λ i. print_all (under (line_id (same_number d (issuer_same e i)) e)
      (lines_for (record { mine = same_number d (issuer_same e i); name = name_hidden who s d i }) (letters_of (outcome_same e i))))

  pub put_by_same : (e : Event) (d : ℕ) → put_by (masked who s) e d ≡ put_by s e d
  put_by_same e d =
      (λ i. put_to s.settings.outbox_limit (batch_same e d i) (at_number (effect_masked e i).clients d))
      ∙ put_to_hidden who s.settings.outbox_limit (batch s e d) (effect s e).clients d

  pub next_same : (e : Event) → masked who (next (masked who s) e) ≡ masked who (next s e)
  next_same e =
      (λ i. record (effect_masked e i) {
        clients = hidden who (map_values (λ c x. with_batch s.settings.outbox_limit (batch_same e c i) x) (effect_masked e i).clients);
      })
      ∙ ap (λ clients. record (effect s e) { clients = clients }) (delivered_hidden who s.settings.outbox_limit (batch s e) (effect s e).clients)

-- two states that are equal but for unread bytes of equal length put the same bytes from there on, to every client
pub puts_alike : (who : ℕ → Bool) (s t : State) → masked who s ≡ masked who t → (history : List Event) (d : ℕ) → put_in s history d ≡ put_in t history d
puts_alike who s t alike [] d = refl
puts_alike who s t alike (e ∷ history) d =
    let first = sym (put_by_same who s e d) ∙ ap (λ u. put_by u e d) alike ∙ put_by_same who t e d in
    let later = sym (next_same who s e) ∙ ap (λ u. masked who (next u e)) alike ∙ next_same who t e in
    ap (λ bytes. bytes ++ put_in (next s e) history d) first
    ∙ ap (λ bytes. put_by t e d ++ bytes) (puts_alike who (next s e) (next t e) later history d)

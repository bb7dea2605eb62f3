-- A history and the one that its record is played as put the same bytes.
use Rattle.std.proofs.Common.{◌≡◌, ℕ, zero, suc, ◌+◌, ℤ, List, [], ◌∷◌, ◌++◌, refl, sym, ap, ◌∙◌, Bool, true, false, T}
use Rattle.std.specs.Prelude.{Option, Some, None, ◌&&◌, nat_lt, if◌then◌else◌, is_some, Result, Ok, Err, map, length, take, drop}
use Rattle.std.specs.List.{AllByRecursion}
use Rattle.std.specs.Ordering.{nat_cmp}
use Rattle.std.specs.FinMap.{nat_cmp-IsAntisymmetric}
use Rattle.std.specs.FinMap.Entries.{is_sorted}
use Rattle.std.specs.Cmp.{nat_cmp_total}
use Rattle.command_grammar.specs.declared.command.Command.{Command}
use Rattle.command_grammar.specs.declared.command.Command.TheVariants as command
use Rattle.reply_kinds.specs.declared.Reply.TheVariants as reply
use Rattle.reply_kinds.specs.Replies.{print_all}
use Rattle.account_book.specs.Account.{Account}
use Rattle.account_book.specs.Book.{login}
use Rattle.account_book.specs.declared.error.LoginFault.{LoginFault}
use Rattle.account_book.specs.declared.error.LoginFault.TheVariants.{NoAccount}
use Rattle.line_words.specs.Table.{at_number, at_name, change_number, same_number, map_values}
use Rattle.line_words.proofs.Tables.{change_alike}
use Rattle.lobby_model.specs.declared.event.Event.{Event}
use Rattle.lobby_model.specs.declared.event.Event.TheVariants as event
use Rattle.lobby_model.specs.declared.event.Phase.TheVariants.{In, Ended}
use Rattle.lobby_model.specs.State.{State, Client, Battle, hears, name_of, asked_by, battle_of}
use Rattle.lobby_model.specs.Texts.{user_is_in}
use Rattle.lobby_model.specs.Outcome.{Happening, Outcome, Refused, Done, nothing, done, all_after, state_after, letters_of, lines_for}
use Rattle.lobby_model.specs.Battles.{new_battle, open_battle, join_battle, leaves_battle, leaves_own, drops_own}
use Rattle.lobby_model.specs.Sessions.{log_in, logs_in, user_of, logs_out, departs, connects, has_place, disconnects, ends, drained, is_gone, unseen}
use Rattle.lobby_model.specs.Commands.{answer}
use Rattle.lobby_model.specs.Events.{outcome, effect, issuer_of, under, line_id}
use Rattle.lobby_model.specs.Next.{next, batch, put_by, put_to, with_batch, taken_by, taken_from}
use Rattle.lobby_model.specs.History.{put_in, taken_in}
use Rattle.lobby_model.specs.Sound.{Sound}
use Rattle.lobby_model.proofs.EventsKept.{next_keeps}
use Rattle.lobby_model.proofs.Inside.{IsInside, StaysInside, leaving_is_inside, answer_stays}
use Rattle.record_lines.specs.Masks.{account_let_in, all_hidden, hidden_answer, masked_command, name_for, word_for}
use Rattle.record_lines.specs.Played.{played, played_from, bytes_taken}
use Rattle.record_lines.proofs.Homed.{homed, phase_homed, drain_homed, put_homed, without_homed, length_homed, live_homed, name_homed, address_homed, put_to_homed, taken_homed, delivered_homed}
use Rattle.record_lines.proofs.Masked.{same_account}

-- the lobby in which a record is played
abbrev pub shown : State → State
shown s = record s { accounts = all_hidden s.accounts; clients = homed s.clients }

-- What happens, where it is played

abbrev IsShown : Happening → Type 0
IsShown h = (s : State) → h.after (shown s) ≡ shown (h.after s)

abbrev AreShown : Outcome → Type 0
AreShown (Refused refusal) = Unit {0}
AreShown (Done happenings) = AllByRecursion IsShown happenings

all_shown : (happenings : List Happening) → AllByRecursion IsShown happenings → (s : State)
    → all_after (shown s) happenings ≡ shown (all_after s happenings)
all_shown [] are s = refl
all_shown (h ∷ happenings) are s = ap (λ t. all_after t happenings) (are.0 s) ∙ all_shown happenings are.1 (h.after s)

inside_is_shown : (h : Happening) → IsInside h → IsShown h
inside_is_shown h inside s = inside (shown s) s ∙ ap shown (sym (inside s s))

inside_are_shown : (happenings : List Happening) → AllByRecursion IsInside happenings → AllByRecursion IsShown happenings
inside_are_shown [] inside = tt
inside_are_shown (h ∷ happenings) inside = (inside_is_shown h inside.0, inside_are_shown happenings inside.1)

stays_shown : (o : Outcome) → StaysInside o → AreShown o
stays_shown (Refused refusal) inside = tt
stays_shown (Done happenings) inside = inside_are_shown happenings inside

of_shown : (s : State) (o : Outcome) → AreShown o → state_after (shown s) o ≡ shown (state_after s o)
of_shown s (Refused refusal) are = refl
of_shown s (Done happenings) are = all_shown happenings are s

joined : (these those : List Happening) → AllByRecursion IsShown these → AllByRecursion IsShown those
    → AllByRecursion IsShown (these ++ those)
joined [] those are more = more
joined (h ∷ these) those are more = (are.0, joined these those are.1 more)

logs_out_shown : (s : State) (me : Option (List ℕ)) → AllByRecursion IsShown (logs_out s me)
logs_out_shown s None = tt
logs_out_shown s (Some me) = ((λ t. refl), dropping (asked_by s me) (battle_of s me))
  where
    leaving : (own : Option (ℕ × Battle)) → AllByRecursion IsShown (map unseen (leaves_own me own ++ is_gone me ∷ []))
    leaving None = ((λ t. refl), tt)
    leaving (Some e) = (inside_is_shown (leaves_battle me e.0 e.1) (leaving_is_inside me e.0 e.1), ((λ t. refl), tt))

    dropping : (asked own : Option (ℕ × Battle))
        → AllByRecursion IsShown (map unseen (drops_own me asked ++ (leaves_own me own ++ is_gone me ∷ [])))
    dropping None own = leaving own
    dropping (Some e) own = ((λ t. refl), leaving own)

ends_shown : (c : ℕ) → IsShown (ends c)
ends_shown c s = ap (λ clients. record (shown s) { clients = clients }) (phase_homed c Ended s.clients)

disconnects_shown : (c : ℕ) → IsShown (disconnects c)
disconnects_shown c s = ap (λ clients. record (shown s) { clients = clients }) (without_homed c s.clients)

log_in_shown : (s : State) (c : ℕ) (cpu : ℤ) (authorises : Bool) (result : Result Account LoginFault)
    → AreShown (log_in s c cpu authorises result)
log_in_shown s c cpu authorises (Err fault) = tt
log_in_shown s c cpu authorises (Ok account) =
    let comes = logs_in c account.name (user_of account cpu authorises) s in
    elim (is_some (at_name s.users account.name))
    as (λ b. AreShown (if b then Refused (reply.Denied user_is_in) else done comes)) [
      | true ↦ tt
      | false ↦ ((λ t. ap (λ clients. record (shown (comes.after t)) { clients = clients }) (phase_homed c (In account.name) t.clients)), tt)
    ]

answer_shown : (s : State) (c : ℕ) (me : Option (List ℕ)) (command : Command) → AreShown (answer s c me command)
answer_shown s c None command.Exit = joined (logs_out s None) (ends c ∷ []) (logs_out_shown s None) (ends_shown c, tt)
answer_shown s c (Some me) command.Exit =
    joined (logs_out s (Some me)) (ends c ∷ []) (logs_out_shown s (Some me)) (ends_shown c, tt)
answer_shown s c None (command.Login name password cpu local_ip lobby authorises) =
    log_in_shown s c cpu authorises (login s.accounts name password)
answer_shown s c (Some me) (command.Login name password cpu local_ip lobby authorises) = tt
answer_shown s c None (command.MyStatus asked) = tt
answer_shown s c (Some me) (command.MyStatus asked) = ((λ t. refl), tt)
answer_shown s c me command = stays_shown (answer s c me command) (answer_stays s c me command refl)

-- What an event comes to, where it is played

module _ (s : State) where
  log_in_same : (c : ℕ) (cpu : ℤ) (authorises : Bool) (result : Result Account LoginFault)
      → log_in (shown s) c cpu authorises (hidden_answer result) ≡ log_in s c cpu authorises result
  log_in_same c cpu authorises (Err fault) = refl
  log_in_same c cpu authorises (Ok account) = refl

  -- what a login comes to, by the account that it is let in to
  abbrev comes_to : ℕ → ℤ → Bool → Option Account → Outcome
  comes_to c cpu authorises None = log_in (shown s) c cpu authorises (Err NoAccount)
  comes_to c cpu authorises (Some account) = log_in (shown s) c cpu authorises (Ok account)

  by_account : (c : ℕ) (cpu : ℤ) (authorises : Bool) (told : Result Account LoginFault)
      → log_in (shown s) c cpu authorises told ≡ comes_to c cpu authorises (account_let_in told)
  by_account c cpu authorises (Err why) = refl
  by_account c cpu authorises (Ok account) = refl

  login_same : (c : ℕ) (cpu : ℤ) (authorises : Bool) (name word : List ℕ)
      → log_in (shown s) c cpu authorises
      (login (all_hidden s.accounts) (name_for s.accounts name word) (word_for s.accounts name word))
      ≡ log_in s c cpu authorises (login s.accounts name word)
  login_same c cpu authorises name word =
      let told = login s.accounts name word in
      by_account c cpu authorises
      (login (all_hidden s.accounts) (name_for s.accounts name word) (word_for s.accounts name word))
      ∙ ap (comes_to c cpu authorises) (same_account s.accounts name word)
      ∙ sym (by_account c cpu authorises (hidden_answer told))
      ∙ log_in_same c cpu authorises told

  answer_same : (c : ℕ) (me : Option (List ℕ)) (command : Command)
      → answer (shown s) c me (masked_command s.accounts true command) ≡ answer s c me command
  answer_same c None command.Exit = refl
  answer_same c (Some me) command.Exit = refl
  answer_same c None (command.Login name password cpu local_ip lobby authorises) =
      login_same c cpu authorises name password
  answer_same c (Some me) (command.Login name password cpu local_ip lobby authorises) = refl
  answer_same c None (command.Join channel key) = refl
  answer_same c (Some me) (command.Join channel key) = refl
  answer_same c (Some me) (command.OpenBattle battle_type nat_type password port max_players game_hash rank map_hash
      engine_name engine_version map title game_name) =
      ap (λ ip. open_battle s me (new_battle me ip battle_type nat_type password port max_players game_hash rank map_hash engine_name engine_version
      map title game_name)) (address_homed s.clients c)
  answer_same c (Some me) (command.JoinBattle id password script_password) =
      ap (λ ip. join_battle s me ip id password script_password) (address_homed s.clients c)
  answer_same c me command = refl

  logs_out_same : (me : Option (List ℕ)) → logs_out (shown s) me ≡ logs_out s me
  logs_out_same None = refl
  logs_out_same (Some me) = refl

  -- the event as its lines are played
  abbrev here : Event → Event
  here e = played s.accounts true (bytes_taken s e) e

  said_same : (c : ℕ) (request_command : Command)
      → (if hears (shown s) c then answer (shown s) c (name_of (shown s) c) (masked_command s.accounts true request_command) else nothing)
      ≡ (if hears s c then answer s c (name_of s c) request_command else nothing)
  said_same c asked =
      ap (λ b. if b then answer (shown s) c (name_of (shown s) c) (masked_command s.accounts true asked) else nothing) (live_homed s.clients c)
      ∙ ap (λ me. if hears s c then answer (shown s) c me (masked_command s.accounts true asked) else nothing) (name_homed s.clients c)
      ∙ ap (λ o. if hears s c then o else nothing) (answer_same c (name_of s c) asked)

  gone_same : (c : ℕ) → departs (shown s) (name_of (shown s) c) (disconnects c) ≡ departs s (name_of s c) (disconnects c)
  gone_same c =
      ap (λ me. departs (shown s) me (disconnects c)) (name_homed s.clients c)
      ∙ ap (λ gone. Done (gone ++ disconnects c ∷ [])) (logs_out_same (name_of s c))

  pub place_same : has_place (shown s) ≡ has_place s
  place_same = ap (λ n. nat_lt n 10000 && nat_lt s.last_client 18446744073709551615) (length_homed s.clients)

  letters_same : (e : Event) → letters_of (outcome (shown s) (here e)) ≡ letters_of (outcome s e)
  letters_same (event.Open ip home) =
      ap (λ b. letters_of (if b then done (connects (s.last_client + 1) ip 0 (shown s)) else nothing)) place_same
      ∙ elim (has_place s) as (λ b. letters_of (if b then done (connects (s.last_client + 1) ip 0 (shown s)) else nothing)
      ≡ letters_of (if b then done (connects (s.last_client + 1) ip home s) else nothing)) [ true ↦ refl | false ↦ refl ]
  letters_same (event.Say c request) = ap letters_of (said_same c request.command)
  letters_same (event.Shut c) = ap letters_of (gone_same c)
  letters_same (event.Drain c n) = refl

  -- to take what there is is to take so much of it
  less_taken : (n : ℕ) (xs : List ℕ) → drop (length (take n xs)) xs ≡ drop n xs
  less_taken zero xs = refl
  less_taken (suc n) [] = refl
  less_taken (suc n) (x ∷ xs) = less_taken n xs

  drain_alike : T (is_sorted nat_cmp s.clients) → (c n : ℕ)
      → change_number s.clients c (drained (length (taken_from n (at_number s.clients c)))) ≡ change_number s.clients c (drained n)
  drain_alike sorted c n =
      change_alike nat_cmp nat_cmp_total nat_cmp-IsAntisymmetric (drained (length (taken_from n (at_number s.clients c)))) (drained n)
      s.clients c sorted (λ x found.
      ap (λ o. record x { unread = drop (length (taken_from n o)) x.unread }) found
      ∙ ap (λ bytes. record x { unread = bytes }) (less_taken n x.unread))

  effect_same : Sound s → (e : Event) → effect (shown s) (here e) ≡ shown (effect s e)
  effect_same sound (event.Open ip home) =
      ap (λ b. state_after (shown s) (if b then done (connects (s.last_client + 1) ip 0 (shown s)) else nothing)) place_same
      ∙ elim (has_place s) as (λ b. state_after (shown s) (if b then done (connects (s.last_client + 1) ip 0 (shown s)) else nothing)
      ≡ shown (state_after s (if b then done (connects (s.last_client + 1) ip home s) else nothing))) [
        | true ↦ ap (λ clients. record (shown s) { last_client = s.last_client + 1; clients = clients })
            (put_homed (s.last_client + 1) ip home s.clients)
        | false ↦ refl
      ]
  effect_same sound (event.Say c request) =
      ap (state_after (shown s)) (said_same c request.command)
      ∙ elim (hears s c) as (λ b. state_after (shown s) (if b then answer s c (name_of s c) request.command else nothing)
      ≡ shown (state_after s (if b then answer s c (name_of s c) request.command else nothing))) [
        | true ↦ of_shown s (answer s c (name_of s c) request.command) (answer_shown s c (name_of s c) request.command)
        | false ↦ refl
      ]
  effect_same sound (event.Shut c) =
      ap (state_after (shown s)) (gone_same c)
      ∙ of_shown s (departs s (name_of s c) (disconnects c))
      (joined (logs_out s (name_of s c)) (disconnects c ∷ []) (logs_out_shown s (name_of s c)) (disconnects_shown c, tt))
  effect_same sound (event.Drain c n) =
      ap (λ clients. record (shown s) { clients = clients })
      (drain_homed c (length (taken_from n (at_number s.clients c))) s.clients ∙ ap homed (drain_alike sound.clients.in_order c n))

  issuer_same : (e : Event) → issuer_of (shown s) (here e) ≡ issuer_of s e
  issuer_same (event.Open ip home) = refl
  issuer_same (event.Say c request) = refl
  issuer_same (event.Shut c) = refl
  issuer_same (event.Drain c n) = refl

  id_same : (b : Bool) (e : Event) → line_id b (here e) ≡ line_id b e
  id_same b (event.Open ip home) = refl
  id_same b (event.Say c request) = refl
  id_same b (event.Shut c) = refl
  id_same b (event.Drain c n) = refl

  batch_same : (e : Event) (d : ℕ) → batch (shown s) (here e) d ≡ batch s e d
  batch_same e d =
      (λ i. print_all (under (line_id (same_number d (issuer_same e i)) (here e))
      (lines_for (record { mine = same_number d (issuer_same e i); name = name_homed s.clients d i }) (letters_same e i))))
      ∙ ap (λ id. print_all (under id
      (lines_for (record { mine = same_number d (issuer_of s e); name = name_of s d }) (letters_of (outcome s e)))))
      (id_same (same_number d (issuer_of s e)) e)

  put_same : Sound s → (e : Event) (d : ℕ) → put_by (shown s) (here e) d ≡ put_by s e d
  put_same sound e d =
      (λ i. put_to s.settings.outbox_limit (batch_same e d i) (at_number (effect_same sound e i).clients d))
      ∙ put_to_homed s.settings.outbox_limit (batch s e d) (effect s e).clients d

  pub next_same : Sound s → (e : Event) → next (shown s) (here e) ≡ shown (next s e)
  next_same sound e =
      (λ i. record (effect_same sound e i) {
        clients = map_values (λ c x. with_batch s.settings.outbox_limit (batch_same e c i) x) (effect_same sound e i).clients;
      })
      ∙ ap (λ clients. record (shown (effect s e)) { clients = clients })
      (delivered_homed s.settings.outbox_limit (batch s e) (effect s e).clients)

  -- to take as many as there are
  take_again : (n : ℕ) (xs : List ℕ) → take (length (take n xs)) xs ≡ take n xs
  take_again zero xs = refl
  take_again (suc n) [] = refl
  take_again (suc n) (x ∷ xs) = ap (λ (ys : List ℕ). x ∷ ys) (take_again n xs)

  as_many : (n : ℕ) (o : Option Client) → taken_from (length (taken_from n o)) o ≡ taken_from n o
  as_many n None = refl
  as_many n (Some x) = take_again n x.unread

  taken_same : (e : Event) (d : ℕ) → taken_by (shown s) (here e) d ≡ taken_by s e d
  taken_same (event.Open ip home) d = refl
  taken_same (event.Say c request) d = refl
  taken_same (event.Shut c) d = refl
  taken_same (event.Drain c n) d =
      ap (λ (bytes : List ℕ). if same_number c d then bytes else [])
      (taken_homed (length (taken_from n (at_number s.clients c))) s.clients c ∙ as_many n (at_number s.clients c))

pub puts_same : (s : State) → Sound s → (history : List Event) (d : ℕ)
    → put_in (shown s) (played_from s history) d ≡ put_in s history d
puts_same s sound [] d = refl
puts_same s sound (e ∷ history) d =
    ap (λ t. put_by (shown s) (here s e) d ++ put_in t (played_from (next s e) history) d) (next_same s sound e)
    ∙ ap (λ (bytes : List ℕ). bytes ++ put_in (shown (next s e)) (played_from (next s e) history) d) (put_same s sound e d)
    ∙ ap (λ (bytes : List ℕ). put_by s e d ++ bytes) (puts_same (next s e) (next_keeps s e sound) history d)

pub takes_same : (s : State) → Sound s → (history : List Event) (d : ℕ)
    → taken_in (shown s) (played_from s history) d ≡ taken_in s history d
takes_same s sound [] d = refl
takes_same s sound (e ∷ history) d =
    ap (λ t. taken_by (shown s) (here s e) d ++ taken_in t (played_from (next s e) history) d) (next_same s sound e)
    ∙ ap (λ (bytes : List ℕ). bytes ++ taken_in (shown (next s e)) (played_from (next s e) history) d) (taken_same s e d)
    ∙ ap (λ (bytes : List ℕ). taken_by s e d ++ bytes) (takes_same (next s e) (next_keeps s e sound) history d)

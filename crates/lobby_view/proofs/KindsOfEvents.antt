-- Each event tells clean lines and keeps the kinds.
use Rattle.std.proofs.Common.{◌≡◌, ℕ, ◌≤◌, ◌+◌, ℤ, List, [], ◌∷◌, ◌++◌, refl, subst, Bool, true, false, length, arith}
use Rattle.std.specs.Prelude.{Option, Some, None, flat_map, if◌then◌else◌, ◌&&◌, is_some, Result, Ok, Err}
use Rattle.std.proofs.lemmas.Bool.{and_parts}
use Rattle.std.specs.Ordering.{nat_cmp}
use Rattle.std.specs.FinMap.{nat_cmp-IsAntisymmetric}
use Rattle.std.specs.Str.{bytes_eq}
use Rattle.std.specs.Option.{option_map_or}
use Rattle.account_book.specs.Account.{Account}
use Rattle.account_book.specs.Book.{login, account_of}
use Rattle.account_book.specs.declared.error.LoginFault.{LoginFault}
use Rattle.account_book.specs.declared.error.LoginFault.TheVariants.{NoAccount, BadPassword}
use Rattle.reply_kinds.specs.declared.Reply.TheVariants as reply
use Rattle.command_grammar.specs.declared.command.Command.{Command}
use Rattle.command_grammar.specs.declared.command.Command.TheVariants as command
use Rattle.command_grammar.specs.Kinds.{keeps_kinds}
use Rattle.command_grammar.specs.Sizes.{argument_bytes}
use Rattle.line_words.specs.Bytes.{is_word, is_sentence}
use Rattle.line_words.specs.Kinds.{is_wide}
use Rattle.line_words.specs.Table.{ByNumber, at_number, at_name, put_number, without_number, change_number, name_cmp}
use Rattle.line_words.proofs.Tables.{name_cmp_same}
use Rattle.lobby_model.specs.declared.event.Event.{Event}
use Rattle.lobby_model.specs.declared.event.Event.TheVariants as event
use Rattle.lobby_model.specs.declared.event.Phase.TheVariants.{Ended}
use Rattle.lobby_model.specs.State.{State, Client, hears, name_of, is_live_client, set_phase}
use Rattle.lobby_model.specs.Texts.{user_is_in, log_in_first}
use Rattle.lobby_model.specs.Outcome.{Happening, Letter, Outcome, Refused, Done, done, letters_of, state_after, all_after, happens}
use Rattle.lobby_model.specs.Battles.{address}
use Rattle.lobby_model.specs.Sessions.{logs_out, logs_in, log_in, user_of, drained, greeted, has_place, departs}
use Rattle.lobby_model.specs.Commands.{answer}
use Rattle.lobby_model.specs.Events.{outcome, effect}
use Rattle.lobby_model.specs.Next.{next}
use Rattle.lobby_model.specs.Sound.{Sound}
use Rattle.lobby_model.proofs.Decided.{opening, saying}
use Rattle.lobby_view.proofs.Everywhere.{Each, each_at, each_found, each_append}
use Rattle.lobby_view.proofs.Clean.{Clean, CleanLetters}
use Rattle.lobby_view.proofs.SoundEvents.{SoundEvent}
use Rattle.lobby_view.proofs.KindsOfUsers.{IsName, UserKinds}
use Rattle.lobby_view.proofs.KindsOfHappenings.{Kinds, CleanAll, MakesUser, message_clean, login_clean, logs_in_kinds, logs_out_clean, kinds_with}
use Rattle.lobby_view.proofs.KindsChecked.{CleanOutcome}
use Rattle.lobby_view.proofs.KindsAnswered.{answer_clean, fault_clean}
use Rattle.lobby_view.proofs.KindsOfClients.{ClientKinds, IsAddressed, counts_fit}

kinds_with_clients : (s : State) → Kinds s → (clients : ByNumber Client) (last : ℕ) → Kinds (record s { clients = clients; last_client = last })
kinds_with_clients s k clients last = kinds_with s k clients last s.users s.channels s.battles k.users k.channels k.battles

all_letters : (s : State) (hs : List Happening) → CleanAll s hs → CleanLetters (flat_map (λ h. h.told) hs)
all_letters s [] c = tt
all_letters s (h ∷ hs) c =
    each_append (λ (l : Letter). Each Clean l.lines) h.told (flat_map (λ h. h.told) hs) c.0 (all_letters (h.after s) hs c.2)

kinds_after : (s : State) (hs : List Happening) → Kinds s → CleanAll s hs → Kinds (all_after s hs)
kinds_after s [] k c = k
kinds_after s (h ∷ hs) k c = kinds_after (h.after s) hs c.1 c.2

ending : (s : State) (hs : List Happening) (f : ByNumber Client → ByNumber Client) → Kinds s → CleanAll s hs
    → CleanAll s (hs ++ happens (λ t. record t { clients = f t.clients }) [] ∷ [])
ending s [] f k c = (tt, kinds_with_clients s k (f s.clients) s.last_client, tt)
ending s (h ∷ hs) f k c = (c.0, c.1, ending (h.after s) hs f c.1 c.2)

module _ (s : State) (sound : Sound s) (k : Kinds s) (clients : ClientKinds s.clients) where
  abbrev pub CleanAfter : Outcome → Type 0
  CleanAfter o = CleanLetters (letters_of o) × Kinds (state_after s o)

  of_outcome : (o : Outcome) → CleanOutcome s o → CleanAfter o
  of_outcome (Refused refusal) c = (((c, tt), tt), k)
  of_outcome (Done hs) c = (all_letters s hs c, kinds_after s hs k c)

  -- the name of a client that is logged in
  its_name : (c : ℕ) (me : List ℕ) → name_of s c ≡ Some me → IsName me
  its_name c me own =
      elim (at_name s.users me) as (λ o. at_name s.users me ≡ o → is_some o ≡ true → IsName me) [
        | None ↦ λ e f. absurd (cc)
        | Some x ↦ λ e f. (each_at name_cmp name_cmp_same UserKinds s.users me x k.users e).name
      ] refl (sound.clients.one_for_each.has_user c me own)

  goes : (c : ℕ) (me : Option (List ℕ)) (f : ByNumber Client → ByNumber Client) → name_of s c ≡ me
      → CleanAfter (departs s me (happens (λ t. record t { clients = f t.clients }) []))
  goes c None f own = of_outcome (departs s None (happens (λ t. record t { clients = f t.clients }) [])) (ending s (logs_out s None) f k tt)
  goes c (Some me) f own =
      of_outcome (departs s (Some me) (happens (λ t. record t { clients = f t.clients }) []))
      (ending s (logs_out s (Some me)) f k (logs_out_clean me s k (its_name c me own)))

  account_kinds : (name word : List ℕ) (account : Account) → login s.accounts name word ≡ Ok account → MakesUser account
  account_kinds name word account is =
      elim (account_of name s.accounts) as (λ o. account_of name s.accounts ≡ o
      → option_map_or (λ (x : Account). if bytes_eq x.password word then Ok x else Err BadPassword) o (Err NoAccount) ≡ Ok account → MakesUser account) [
        | None ↦ λ e f. absurd (cc)
        | Some x ↦ λ e f. elim (bytes_eq x.password word) as (λ b. (if b then Ok x else Err BadPassword) ≡ Ok account → MakesUser account) [
          | true ↦ λ h. let same : x ≡ account = cc in subst MakesUser same (each_found MakesUser (λ y. bytes_eq name y.name) s.accounts x k.accounts e)
          | false ↦ λ h. absurd (cc)
        ] f
      ] refl is

  denied : (text : List ℕ) → Clean (reply.Denied text) → CleanAfter (Refused (reply.Denied text))
  denied text clean = (((clean, tt), tt), k)

  logging_in : (c : ℕ) (cpu : ℤ) (authorises : Bool) (result : Result Account LoginFault) → is_wide cpu ≡ true
      → ((account : Account) → result ≡ Ok account → MakesUser account) → CleanAfter (log_in s c cpu authorises result)
  logging_in c cpu authorises (Err fault) wide makes = denied _ (record { fits = refl; short = omega arith })
  logging_in c cpu authorises (Ok account) wide makes =
      let user = makes account refl cpu authorises wide in
      let its = user_of account cpu authorises in
      elim (is_some (at_name s.users account.name)) as (λ b. CleanAfter (if b then Refused (reply.Denied user_is_in)
      else done (logs_in c account.name its s))) [
        | true ↦ denied _ (record { fits = refl; short = omega arith })
        | false ↦ (
          each_append (λ (l : Letter). Each Clean l.lines) (logs_in c account.name its s).told []
              (login_clean s k c account.name its user) tt,
          logs_in_kinds s k c account.name its user,
        )
      ]

  of_stranger : (c : ℕ) → name_of s c ≡ None → (command : Command) → keeps_kinds command ≡ true → CleanAfter (answer s c None command)
  of_stranger c own command.Blank kinds = (tt, k)
  of_stranger c own (command.Unread fault) kinds = (((fault_clean fault, tt), tt), k)
  of_stranger c own command.Ping kinds = (((record { fits = refl; short = omega arith }, tt), tt), k)
  of_stranger c own command.Exit kinds = goes c None (λ m. set_phase m c Ended) own
  of_stranger c own (command.Login name password cpu local_ip lobby authorises) kinds =
      let o = and_parts (is_word name && is_word password && is_wide cpu && is_word local_ip && is_sentence lobby) true kinds in
      let p = and_parts (is_word name && is_word password && is_wide cpu && is_word local_ip) (is_sentence lobby) o.0 in
      let q = and_parts (is_word name && is_word password && is_wide cpu) (is_word local_ip) p.0 in
      logging_in c cpu authorises (login s.accounts name password) (and_parts (is_word name && is_word password) (is_wide cpu) q.0).1
      (λ account is. account_kinds name password account is)
  of_stranger c own command kinds = (((message_clean log_in_first refl (omega arith), tt), tt), k)

  address_kinds : (c : ℕ) → hears s c ≡ true
      → (is_word (address (at_number s.clients c)) ≡ true) × (length (address (at_number s.clients c)) ≤ 100)
  address_kinds c live =
      elim (at_number s.clients c) as (λ o. at_number s.clients c ≡ o → is_live_client o ≡ true
      → (is_word (address o) ≡ true) × (length (address o) ≤ 100)) [
        | None ↦ λ e l. absurd (cc)
        | Some x ↦ λ e l. each_at nat_cmp nat_cmp-IsAntisymmetric IsAddressed s.clients c x clients.addressed e
      ] refl live

  of_user : (c : ℕ) (me : List ℕ) → name_of s c ≡ Some me → hears s c ≡ true → (command : Command) → keeps_kinds command ≡ true
      → argument_bytes command ≤ 8192 → CleanAfter (answer s c (Some me) command)
  of_user c me own live command.Exit kinds short = goes c (Some me) (λ m. set_phase m c Ended) own
  of_user c me own live command kinds short =
      let ip = address_kinds c live in
      of_outcome (answer s c (Some me) command)
      (answer_clean s k me (its_name c me own) c (counts_fit s sound clients) ip.0 ip.1 command tt kinds short)

  of_client : (c : ℕ) (me : Option (List ℕ)) → name_of s c ≡ me → hears s c ≡ true → (command : Command) → keeps_kinds command ≡ true
      → argument_bytes command ≤ 8192 → CleanAfter (answer s c me command)
  of_client c None own live command kinds short = of_stranger c own command kinds
  of_client c (Some me) own live command kinds short = of_user c me own live command kinds short

  pub event_clean : (e : Event) → SoundEvent e → CleanAfter (outcome s e)
  event_clean (event.Open ip home) fair =
      elim (has_place s) as (λ b. CleanAfter (opening s ip home b)) [
        | true ↦ (((k.greeted, tt), tt), kinds_with_clients s k (put_number s.clients (s.last_client + 1) (greeted ip home)) (s.last_client + 1))
        | false ↦ (tt, k)
      ]
  event_clean (event.Say c request) fair =
      elim (hears s c) as (λ b. hears s c ≡ b → CleanAfter (saying s c request.command b)) [
        | true ↦ λ live. of_client c (name_of s c) refl live request.command fair.0 fair.1
        | false ↦ λ e. (tt, k)
      ] refl
  event_clean (event.Shut c) fair = goes c (name_of s c) (λ m. without_number m c) refl
  event_clean (event.Drain c j) fair = (tt, kinds_with_clients s k (change_number s.clients c (drained j)) s.last_client)

-- before its lines are put and after
pub next_kinds : (s : State) (e : Event) → Kinds (effect s e) → Kinds (next s e)
next_kinds s e k = kinds_with_clients (effect s e) k (next s e).clients (effect s e).last_client

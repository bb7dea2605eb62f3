-- Events that send to nobody, or to one client that is new.
use Rattle.std.proofs.Common.{◌≡◌, ℕ, ◌+◌, List, [], ◌∷◌, ◌++◌, refl, sym, ap, subst, ◌∙◌, Bool, true, false, cond, not, T, append-nil}
use Rattle.std.specs.Prelude.{Some, None, ◌&&◌, ◌||◌, if◌then◌else◌}
use Rattle.std.specs.Ordering.{nat_cmp}
use Rattle.std.specs.Option.{option_map}
use Rattle.std.specs.Cmp.{nat_cmp_total}
use Rattle.std.specs.List.{list_any}
use Rattle.std.specs.FinMap.Entries.{is_sorted, find-put, is_sorted-put}
use Rattle.std.proofs.lemmas.Bool.{and_parts}
use Rattle.reply_kinds.specs.Replies.{print, print_all}
use Rattle.command_grammar.specs.declared.command.Request.{Request}
use Rattle.reply_kinds.specs.declared.Reply.{Reply}
use Rattle.lobby_model.specs.declared.event.Event.{Event}
use Rattle.lobby_model.specs.declared.event.Event.TheVariants as event
use Rattle.line_words.specs.Table.{ByNumber, at_number, put_number, change_number, same_number}
use Rattle.lobby_model.specs.State.{State, Client, is_live, hears, name_of}
use Rattle.lobby_model.specs.Outcome.{Outcome, Refused, Done, state_after, refusal_of}
use Rattle.lobby_model.specs.Sessions.{has_place, greeted, greeting, drained, departs, disconnects}
use Rattle.lobby_model.specs.Commands.{answer}
use Rattle.lobby_model.specs.Events.{effect, refusal, lines_of, under}
use Rattle.lobby_model.specs.Next.{next, batch, delivered, with_batch, has_room_for, is_empty}
use Rattle.lobby_model.specs.Touched.{is_touched, touches}
use Rattle.lobby_model.proofs.Delivered.{with_batch_nil, map_values_none, map_values_one, put_put, same_itself, delivered_at}
use Rattle.line_words.proofs.Tables.{at-without}
use Rattle.lobby_model.proofs.Decided.{saying, given_place, unheard}
use Rattle.lobby_model.proofs.Inside.{departed}

pub quiet : (s : State) (e : Event) (t : State) → ((d : ℕ) → batch s e d ≡ []) → delivered s e t ≡ t
quiet s e t none = ap (λ m. record t { clients = m }) (map_values_none _ t.clients (λ d x. ap (λ b. with_batch s.settings.outbox_limit b x) (none d) ∙ with_batch_nil s.settings.outbox_limit x))

pub next_drain : (s : State) (c n : ℕ) → next s (event.Drain c n) ≡ record s { clients = change_number s.clients c (drained n) }
next_drain s c n = quiet s (event.Drain c n) _ (λ d. refl)

and_true : (b : Bool) → (b && true) ≡ b
and_true true = refl
and_true false = refl

-- a new client gets its greeting, and nobody else anything
module _ (s : State) (ip : List ℕ) (home : ℕ) (place : has_place s ≡ true) where
  pub greeted_at : (d : ℕ) (b : Bool) → same_number d (s.last_client + 1) ≡ b → batch s (event.Open ip home) d ≡ (if b then print (None, greeting s.settings) else [])
  greeted_at d b e =
      ap (λ o. print_all (lines_of s (event.Open ip home) o d)) (given_place s ip home place)
      ∙ ap (λ q. print_all (under (if q then None else None) ((if q then greeting s.settings ∷ [] else []) ++ []))) e
      ∙ elim b as (λ b. print_all (under (if b then None else None) ((if b then greeting s.settings ∷ [] else []) ++ [])) ≡ (if b then print (None, greeting s.settings) else [])) [ true ↦ append-nil (print (None, greeting s.settings)) | false ↦ refl ]

  pub next_open : T (is_sorted nat_cmp s.clients)
      → next s (event.Open ip home) ≡ record s { last_client = s.last_client + 1; clients = put_number s.clients (s.last_client + 1) (with_batch s.settings.outbox_limit (print (None, greeting s.settings)) (greeted ip home)) }
  next_open sorted =
      let limit = s.settings.outbox_limit in
      let m : ByNumber Client = put_number s.clients (s.last_client + 1) (greeted ip home) in
      ap (λ o. delivered s (event.Open ip home) (state_after s o)) (given_place s ip home place)
      ∙ ap (λ (clients : ByNumber Client). record s { last_client = s.last_client + 1; clients = clients }) (
      map_values_one (λ d x. with_batch limit (batch s (event.Open ip home) d) x) m (s.last_client + 1) (greeted ip home)
      (is_sorted-put nat_cmp nat_cmp_total (s.last_client + 1) (greeted ip home) s.clients sorted)
      (find-put nat_cmp nat_cmp_total (s.last_client + 1) (s.last_client + 1) (greeted ip home) s.clients ∙ ap (λ b. cond b (Some (greeted ip home)) (at_number s.clients (s.last_client + 1))) (same_itself (s.last_client + 1)))
      (λ d x e. ap (λ b. with_batch limit b x) (greeted_at d false e) ∙ with_batch_nil limit x)
      ∙ put_put (s.last_client + 1) (greeted ip home) _ s.clients sorted
      ∙ ap (λ b. put_number s.clients (s.last_client + 1) (with_batch limit b (greeted ip home))) (greeted_at (s.last_client + 1) true (same_itself (s.last_client + 1))))

-- a client is touched where it hears and gets something
not_both : (b : Bool) → (not b && b) ≡ false
not_both true = refl
not_both false = refl

pub touched_is : (limit : ℕ) (bytes : List ℕ) (x : Client) → is_touched limit bytes x ≡ (is_live x && not (is_empty bytes))
touched_is limit bytes x =
    elim (is_live x) as (λ l. is_live x ≡ l → (not (is_empty (if l && has_room_for limit x bytes then bytes else []))
    || (not x.cut && (if l then (if has_room_for limit x bytes then record x { unread = x.unread ++ bytes } else record x { cut = true; unread = [] }) else x).cut)) ≡ (l && not (is_empty bytes))) [
      | true ↦ λ live. elim (has_room_for limit x bytes) as (λ r. has_room_for limit x bytes ≡ r → (not (is_empty (if r then bytes else []))
          || (not x.cut && (if r then record x { unread = x.unread ++ bytes } else record x { cut = true; unread = [] }).cut)) ≡ not (is_empty bytes)) [
            | true ↦ λ room. ap (λ b. not (is_empty bytes) || b) (not_both x.cut) ∙ elim (is_empty bytes) as (λ b. (not b || false) ≡ not b) [ true ↦ refl | false ↦ refl ]
            | false ↦ λ room. and_true (not x.cut) ∙ (and_parts _ _ live).0 ∙ sym (ap not (empty_has_room bytes room))
          ] refl
      | false ↦ λ live. not_both x.cut
    ] refl
  where
    empty_has_room : (bytes : List ℕ) → has_room_for limit x bytes ≡ false → is_empty bytes ≡ false
    empty_has_room [] e = absurd (subst T e tt)
    empty_has_room (b ∷ bytes) e = refl

pub quiet_touches : (s : State) (e : Event) (home : ℕ) → ((d : ℕ) → batch s e d ≡ []) → touches s e home ≡ false
quiet_touches s e home none = nobody (effect s e).clients
  where
    untouched : (b : Bool) (x : Client) → (b && is_touched s.settings.outbox_limit [] x) ≡ false
    untouched b x = ap (λ t. b && t) (touched_is s.settings.outbox_limit [] x) ∙ elim b as (λ b. (b && (is_live x && false)) ≡ false) [ true ↦ elim (is_live x) as (λ l. (l && false) ≡ false) [ true ↦ refl | false ↦ refl ] | false ↦ refl ]

    nobody : (m : ByNumber Client) → list_any (λ entry. same_number entry.1.home home && is_touched s.settings.outbox_limit (batch s e entry.0) entry.1) m ≡ false
    nobody [] = refl
    nobody (x ∷ m) = (λ i. (same_number x.1.home home && is_touched s.settings.outbox_limit (none x.0 i) x.1) || list_any (λ entry. same_number entry.1.home home && is_touched s.settings.outbox_limit (batch s e entry.0) entry.1) m)
        ∙ ap (λ b. b || list_any (λ entry. same_number entry.1.home home && is_touched s.settings.outbox_limit (batch s e entry.0) entry.1) m) (untouched (same_number x.1.home home) x.1)
        ∙ nobody m

-- a command of a client that does not hear sends nothing and changes nothing
pub unheard_sends : (s : State) (c : ℕ) (request : Request) (d : ℕ) → hears s c ≡ false → batch s (event.Say c request) d ≡ []
unheard_sends s c request d e = ap (λ o. print_all (lines_of s (event.Say c request) o d)) (unheard s c request e)

pub effect_unheard : (s : State) (c : ℕ) (request : Request) → hears s c ≡ false → effect s (event.Say c request) ≡ s
effect_unheard s c request e = ap (state_after s) (unheard s c request e)

pub next_unheard : (s : State) (c : ℕ) (request : Request) → hears s c ≡ false → next s (event.Say c request) ≡ s
next_unheard s c request e = quiet s (event.Say c request) (effect s (event.Say c request)) (λ d. unheard_sends s c request d e) ∙ effect_unheard s c request e

-- a command that is refused changes no map
refused_keeps : (s : State) (o : Outcome) (reply : Reply) → refusal_of o ≡ Some reply → state_after s o ≡ s
refused_keeps s (Refused refusal) reply e = refl
refused_keeps s (Done happenings) reply e = absurd (cc)

pub effect_refused : (s : State) (c : ℕ) (request : Request) (reply : Reply) → refusal s c request.command ≡ Some reply → effect s (event.Say c request) ≡ s
effect_refused s c request reply e =
    elim (hears s c) as (λ b. state_after s (saying s c request.command b) ≡ s) [
      | true ↦ refused_keeps s (answer s c (name_of s c) request.command) reply e
      | false ↦ refl
    ]

-- a client that is shut is gone
pub shut_removes : (s : State) (c : ℕ) → at_number (next s (event.Shut c)).clients c ≡ None
shut_removes s c =
    delivered_at s (event.Shut c) c
    ∙ ap (λ (t : State). option_map (with_batch s.settings.outbox_limit (batch s (event.Shut c) c)) (at_number t.clients c)) (departed s (name_of s c) (disconnects c))
    ∙ ap (option_map (with_batch s.settings.outbox_limit (batch s (event.Shut c) c))) (at-without nat_cmp nat_cmp_total s.clients c c ∙ ap (λ b. cond (not b) (at_number s.clients c) None) (same_itself c))

-- where it was not logged in, nobody is told
pub unnamed_shut_sends : (s : State) (c : ℕ) → name_of s c ≡ None → (d : ℕ) → batch s (event.Shut c) d ≡ []
unnamed_shut_sends s c unnamed d = ap (λ me. print_all (lines_of s (event.Shut c) (departs s me (disconnects c)) d)) unnamed

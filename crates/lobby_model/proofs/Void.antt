-- A void event does nothing.
use Rattle.std.proofs.Common.{◌≡◌, ℕ, List, [], refl, ap, ◌∙◌, true, false}
use Rattle.std.specs.Prelude.{None, if◌then◌else◌}
use Rattle.std.specs.Ordering.{nat_cmp}
use Rattle.reply_kinds.specs.Replies.{print_all}
use Rattle.lobby_model.specs.declared.event.Event.{Event}
use Rattle.lobby_model.specs.declared.event.Event.TheVariants as event
use Rattle.line_words.specs.Table.{ByNumber, at_number, same_number}
use Rattle.lobby_model.specs.State.{State, Client, is_live_client, hears, name_of, name_of_client}
use Rattle.lobby_model.specs.Outcome.{state_after}
use Rattle.lobby_model.specs.Sessions.{disconnects, departs, drained}
use Rattle.lobby_model.specs.Events.{effect, lines_of}
use Rattle.lobby_model.specs.Next.{next, batch, put_by, put_to, taken_by, taken_from}
use Rattle.lobby_model.specs.Laws.{IsVoid}
use Rattle.line_words.proofs.Tables.{without_absent, change_absent}
use Rattle.lobby_model.proofs.Decided.{no_place}
use Rattle.lobby_model.proofs.Delivered.{put_nothing}
use Rattle.lobby_model.proofs.Quiet.{quiet, effect_unheard, unheard_sends, unnamed_shut_sends}

deaf : (s : State) (c : ℕ) → at_number s.clients c ≡ None → hears s c ≡ false
deaf s c none = ap is_live_client none

unnamed : (s : State) (c : ℕ) → at_number s.clients c ≡ None → name_of s c ≡ None
unnamed s c none = ap name_of_client none

pub same_effect : (s : State) (e : Event) → IsVoid s e → effect s e ≡ s
same_effect s (event.Open ip home) full = ap (state_after s) (no_place s ip home full)
same_effect s (event.Say c request) none = effect_unheard s c request (deaf s c none)
same_effect s (event.Shut c) none =
    ap (λ me. state_after s (departs s me (disconnects c))) (unnamed s c none)
    ∙ ap (λ (m : ByNumber Client). record s { clients = m }) (without_absent nat_cmp s.clients c none)
same_effect s (event.Drain c n) none = ap (λ (m : ByNumber Client). record s { clients = m }) (change_absent nat_cmp (drained n) s.clients c none)

pub sends_nothing : (s : State) (e : Event) → IsVoid s e → (d : ℕ) → batch s e d ≡ []
sends_nothing s (event.Open ip home) full d = ap (λ o. print_all (lines_of s (event.Open ip home) o d)) (no_place s ip home full)
sends_nothing s (event.Say c request) none d = unheard_sends s c request d (deaf s c none)
sends_nothing s (event.Shut c) none d = unnamed_shut_sends s c (unnamed s c none) d
sends_nothing s (event.Drain c n) none d = refl

pub same_state : (s : State) (e : Event) → IsVoid s e → next s e ≡ s
same_state s e void = quiet s e (effect s e) (sends_nothing s e void) ∙ same_effect s e void

pub puts_nothing : (s : State) (e : Event) → IsVoid s e → (c : ℕ) → put_by s e c ≡ []
puts_nothing s e void c =
    ap (λ bytes. put_to s.settings.outbox_limit bytes (at_number (effect s e).clients c)) (sends_nothing s e void c)
    ∙ put_nothing s.settings.outbox_limit (at_number (effect s e).clients c)

pub takes_nothing : (s : State) (e : Event) → IsVoid s e → (c : ℕ) → taken_by s e c ≡ []
takes_nothing s (event.Drain d n) none c =
    ap (λ o. if same_number d c then taken_from n o else []) none
    ∙ elim (same_number d c) as (λ b. ◌≡◌ {A = List ℕ} (if b then [] else []) []) [ true ↦ refl | false ↦ refl ]
takes_nothing s e void c = refl

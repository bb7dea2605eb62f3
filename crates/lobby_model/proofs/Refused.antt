-- A command that is refused changes nothing but what is put to its issuer.
use Rattle.std.proofs.Common.{◌≡◌, ℕ, List, [], ◌++◌, ap, refl, ◌∙◌, true, false}
use Rattle.std.specs.Prelude.{Some, if◌then◌else◌}
use Rattle.command_grammar.specs.declared.command.Request.{Request}
use Rattle.reply_kinds.specs.declared.Reply.{Reply}
use Rattle.lobby_model.specs.declared.event.Event.TheVariants as event
use Rattle.lobby_model.specs.declared.event.Event.{Event}
use Rattle.lobby_model.specs.State.{State, Client, is_live}
use Rattle.lobby_model.specs.Events.{effect, refusal}
use Rattle.lobby_model.specs.Next.{next, batch, with_batch, has_room_for}
use Rattle.lobby_model.specs.Laws.{without_bytes}
use Rattle.line_words.proofs.Tables.{map_values-twice, map_values-same}
use Rattle.lobby_model.proofs.Quiet.{effect_refused}

unread_apart : (limit : ℕ) (bytes : List ℕ) (x : Client) → record (with_batch limit bytes x) { cut = false; unread = [] } ≡ record x { cut = false; unread = [] }
unread_apart limit bytes x =
    elim (is_live x) as (λ l. record (if l then (if has_room_for limit x bytes then record x { unread = x.unread ++ bytes } else record x { cut = true; unread = [] }) else x) { cut = false; unread = [] } ≡ record x { cut = false; unread = [] }) [
      | true ↦ elim (has_room_for limit x bytes) as (λ r. record (if r then record x { unread = x.unread ++ bytes } else record x { cut = true; unread = [] }) { cut = false; unread = [] } ≡ record x { cut = false; unread = [] }) [ true ↦ refl | false ↦ refl ]
      | false ↦ refl
    ]

-- a delivery puts bytes and does nothing else
pub only_bytes : (s : State) (e : Event) → without_bytes (next s e).clients ≡ without_bytes (effect s e).clients
only_bytes s e =
    map_values-twice (λ c x. with_batch s.settings.outbox_limit (batch s e c) x) (λ c (x : Client). record x { cut = false; unread = [] }) (effect s e).clients
    ∙ map_values-same _ _ (effect s e).clients (λ c x. unread_apart s.settings.outbox_limit (batch s e c) x)

module _ (s : State) (c : ℕ) (request : Request) (reply : Reply) (refused : refusal s c request.command ≡ Some reply) where
  same : effect s (event.Say c request) ≡ s
  same = effect_refused s c request reply refused

  pub same_rest : ((next s (event.Say c request)).settings ≡ s.settings) × ((next s (event.Say c request)).accounts ≡ s.accounts)
      × ((next s (event.Say c request)).users ≡ s.users) × ((next s (event.Say c request)).channels ≡ s.channels)
      × ((next s (event.Say c request)).battles ≡ s.battles) × ((next s (event.Say c request)).last_client ≡ s.last_client)
      × ((next s (event.Say c request)).last_battle ≡ s.last_battle)
  same_rest = (
    ap (λ (t : State). t.settings) same,
    ap (λ (t : State). t.accounts) same,
    ap (λ (t : State). t.users) same,
    ap (λ (t : State). t.channels) same,
    ap (λ (t : State). t.battles) same,
    ap (λ (t : State). t.last_client) same,
    ap (λ (t : State). t.last_battle) same,
  )

  pub same_clients : without_bytes (next s (event.Say c request)).clients ≡ without_bytes s.clients
  same_clients = only_bytes s (event.Say c request) ∙ ap (λ (t : State). without_bytes t.clients) same

-- The view of a client, from the replies that were put to it over a history.
use Rattle.std.proofs.Common.{◌≡◌, ℕ, List, [], ◌∷◌, ◌++◌, refl, sym, ap, ◌∙◌, Bool, true, false}
use Rattle.std.specs.Prelude.{Option, Some, None, if◌then◌else◌, ◌&&◌}
use Rattle.std.specs.Option.{option_map}
use Rattle.std.proofs.lemmas.List.{map-append}
use Rattle.account_book.specs.Account.{Account}
use Rattle.line_words.specs.Table.{at_number}
use Rattle.line_words.proofs.Once.{contradiction}
use Rattle.reply_kinds.specs.declared.Reply.{Reply}
use Rattle.lobby_model.specs.declared.event.Event.{Event}
use Rattle.lobby_model.specs.Configuration.{Configuration}
use Rattle.lobby_model.specs.State.{State, Client, is_live, is_live_client, hears, name_of, empty_lobby}
use Rattle.lobby_model.specs.Outcome.{lines_for, letters_of}
use Rattle.lobby_model.specs.Events.{effect, sent, under, outcome, reader_of, issuer_of}
use Rattle.lobby_model.specs.Next.{next, batch, with_batch, has_room_for}
use Rattle.lobby_model.specs.History.{after}
use Rattle.lobby_model.specs.Sound.{Sound}
use Rattle.lobby_model.proofs.Delivered.{delivered_at}
use Rattle.lobby_model.proofs.Users.{names_kept}
use Rattle.lobby_model.proofs.EventsKept.{next_keeps, always_sound}
use Rattle.lobby_view.specs.View.{View, shown_all}
use Rattle.lobby_view.specs.Observe.{observe}
use Rattle.lobby_view.proofs.Basics.{shown_all-append}
use Rattle.lobby_view.proofs.LinesPut.{lines_to, lines_by, lines_put, replies_of}
use Rattle.lobby_view.proofs.Events.{event_seen}

without_ids : (id : Option ℕ) (replies : List Reply) → replies_of (under id replies) ≡ replies
without_ids id [] = refl
without_ids id (r ∷ replies) = ap (λ rest. r ∷ rest) (without_ids id replies)

-- one that lives after a batch lived before it, and got it whole
got_whole : (s : State) (e : Event) (d : ℕ) (client : Client) → is_live (with_batch s.settings.outbox_limit (batch s e d) client) ≡ true
    → (is_live client ≡ true) × (lines_to s e (Some client) d ≡ sent s e d)
got_whole s e d client =
    let bytes = batch s e d in
    let fits = has_room_for s.settings.outbox_limit client bytes in
    let with_if : Bool → Client = λ r. if r then record client { unread = client.unread ++ bytes } else record client { cut = true; unread = [] } in
    elim (is_live client) as (λ b. is_live client ≡ b
    → is_live (if b then with_if fits else client) ≡ true
    → (is_live client ≡ true) × ((if b && fits then sent s e d else []) ≡ sent s e d)) [
      | true ↦ λ lives. elim fits as
          (λ r. is_live (with_if r) ≡ true
          → (is_live client ≡ true) × ((if r then sent s e d else []) ≡ sent s e d)) [ true ↦ λ after. (lives, refl) | false ↦ λ after. absurd (cc) ]
      | false ↦ λ dies after. contradiction (is_live client) after dies
    ] refl

heard_in : (s : State) (e : Event) (d : ℕ) (o : Option Client)
    → is_live_client (option_map (with_batch s.settings.outbox_limit (batch s e d)) o) ≡ true
    → (is_live_client o ≡ true) × (lines_to s e o d ≡ sent s e d)
heard_in s e d None hear = absurd (cc)
heard_in s e d (Some client) hear = got_whole s e d client hear

heard : (s : State) (e : Event) (d : ℕ) → hears (next s e) d ≡ true → (hears (effect s e) d ≡ true) × (lines_by s e d ≡ sent s e d)
heard s e d hear = heard_in s e d (at_number (effect s e).clients d) (ap is_live_client (sym (delivered_at s e d)) ∙ hear)

-- each client that is logged in and hears has the view that the lobby shows it
abbrev pub AreShown : State → (ℕ → View) → Type 0
AreShown s views = (c : ℕ) (u : List ℕ) → name_of s c ≡ Some u → hears s c ≡ true → views c ≡ observe s u

one_event : (s : State) (e : Event) (views : ℕ → View) → Sound s → AreShown s views
    → AreShown (next s e) (λ c. shown_all (views c) (replies_of (lines_by s e c)))
one_event s e views sound known d u name hear =
    let got = heard s e d hear in
    ap (λ lines. shown_all (views d) (replies_of lines)) got.1
    ∙ ap (shown_all (views d)) (without_ids _ (lines_for (reader_of s (issuer_of s e) d) (letters_of (outcome s e))))
    ∙ event_seen s sound d u (views d) (known d u) e (sym (names_kept s e d) ∙ name) got.0

along : (s : State) (history : List Event) (views : ℕ → View) → Sound s → AreShown s views
    → AreShown (after s history) (λ c. shown_all (views c) (replies_of (lines_put s history c)))
along s [] views sound known = known
along s (e ∷ history) views sound known =
    let views_then : ℕ → View = λ c. shown_all (views c) (replies_of (lines_by s e c)) in
    λ c u name hear.
    ap (shown_all (views c)) (map-append (λ line. line.1) (lines_by s e c) (lines_put (next s e) history c))
    ∙ shown_all-append (views c) (replies_of (lines_by s e c)) (replies_of (lines_put (next s e) history c))
    ∙ along (next s e) history views_then (next_keeps s e sound) (one_event s e views sound known) c u name hear

module _ (settings : Configuration) (accounts : List Account) where
  -- a client that is logged in and hears, and folded the replies of all lines that were put to it, whatever its view was at first
  pub view_of_replies : (history : List Event) (start : View) (c : ℕ) (u : List ℕ)
      → name_of (after (empty_lobby settings accounts) history) c ≡ Some u
      → hears (after (empty_lobby settings accounts) history) c ≡ true
      → shown_all start (replies_of (lines_put (empty_lobby settings accounts) history c)) ≡ observe (after (empty_lobby settings accounts) history) u
  view_of_replies history start c u =
      along (empty_lobby settings accounts) history (λ d. start) (always_sound settings accounts []) (λ d n name hear. absurd (cc)) c u

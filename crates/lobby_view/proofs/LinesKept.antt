-- In every legal history all lines can be read again, and none is longer than 20,480 bytes.
use Rattle.std.proofs.Common.{◌≡◌, ℕ, ◌≤◌, List, [], ◌∷◌, false, length, arith, length-append}
use Rattle.std.specs.Prelude.{IsTrue}
use Rattle.std.specs.List.{AllByRecursion}
use Rattle.account_book.specs.Account.{Account, IsHeld}
use Rattle.line_framer.specs.Frames.{is_spoilt}
use Rattle.reply_kinds.specs.Replies.{Line, Fits, IsId, line_text, print}
use Rattle.lobby_model.specs.declared.event.Event.{Event}
use Rattle.lobby_model.specs.Configuration.{Configuration, is_configuration}
use Rattle.lobby_model.specs.State.{State, empty_lobby}
use Rattle.lobby_model.specs.Events.{sent}
use Rattle.lobby_model.specs.Next.{next}
use Rattle.lobby_model.specs.History.{after, put_in}
use Rattle.lobby_model.specs.Sound.{Sound}
use Rattle.lobby_model.proofs.EventsKept.{next_keeps, always_sound}
use Rattle.lobby_view.specs.Bytes.{frame_limit}
use Rattle.lobby_view.specs.Legal.{IsLegal, IsLegalHistory}
use Rattle.lobby_view.proofs.Everywhere.{Each}
use Rattle.lobby_view.proofs.LinesPut.{lines_put}
use Rattle.lobby_view.proofs.Clean.{Readable, readable_sent, readable_put}
use Rattle.lobby_view.proofs.SoundEvents.{SoundEvent, id_sound, legal_sound, all_sound}
use Rattle.lobby_view.proofs.KindsOfHappenings.{Kinds}
use Rattle.lobby_view.proofs.KindsOfClients.{ClientKinds, effect_clients, next_clients}
use Rattle.lobby_view.proofs.KindsOfEvents.{event_clean, next_kinds}
use Rattle.lobby_view.proofs.Printed.{put_not_spoilt}
use Rattle.lobby_view.proofs.LegalSettings.{kinds_at_start}

-- a state that legal events lead to
record Reached (s : State) : Type 0 where
  sound : Sound s
  kinds : Kinds s
  clients : ClientKinds s.clients

stays : (s : State) (e : Event) → Reached s → SoundEvent e → Reached (next s e)
stays s e r fair = record {
  sound = next_keeps s e r.sound;
  kinds = next_kinds s e (event_clean s r.sound r.kinds r.clients e fair).1;
  clients = next_clients s e (effect_clients s r.sound r.clients e fair);
}

sent_readable : (s : State) (e : Event) → Reached s → SoundEvent e → (c : ℕ) → Each Readable (sent s e c)
sent_readable s e r fair c = readable_sent s e (id_sound e fair) (event_clean s r.sound r.kinds r.clients e fair).0 c

reached_after : (s : State) (history : List Event) → Reached s → Each SoundEvent history → Reached (after s history)
reached_after s [] r all = r
reached_after s (e ∷ history) r all = reached_after (next s e) history (stays s e r all.0) all.1

short_printed : (lines : List Line) → Each Readable lines → AllByRecursion (λ line. length (print line) ≤ 20480) lines
short_printed [] all = tt
short_printed (line ∷ lines) all =
    let short = all.0.short in
    (omega (arith, length-append (line_text line.0 line.1) (10 ∷ [])), short_printed lines all.1)

keep_kinds : (lines : List Line) → Each Readable lines → AllByRecursion (λ line. IsId line.0 × Fits line.1) lines
keep_kinds [] all = tt
keep_kinds (line ∷ lines) all = ((all.0.id, all.0.fits), keep_kinds lines all.1)

module _ (settings : Configuration) (accounts : List Account) (chosen : IsTrue (is_configuration settings))
    (known : AllByRecursion IsHeld accounts) (history : List Event) (legal : IsLegalHistory history) where
  start : Reached (empty_lobby settings accounts)
  start = record {
    sound = always_sound settings accounts [];
    kinds = kinds_at_start settings accounts chosen known;
    clients = record { addressed = tt; few = omega arith };
  }

  pub all_readable : (c : ℕ) → Each Readable (lines_put (empty_lobby settings accounts) history c)
  all_readable c = readable_put SoundEvent Reached stays sent_readable (empty_lobby settings accounts) history c start (all_sound history legal)

  -- lines of one more event, put or not
  readable : (e : Event) → IsLegal e → (c : ℕ) → Each Readable (sent (after (empty_lobby settings accounts) history) e c)
  readable e fair c =
      sent_readable (after (empty_lobby settings accounts) history) e
      (reached_after (empty_lobby settings accounts) history start (all_sound history legal)) (legal_sound e fair) c

  pub sent_keeps : (e : Event) → IsLegal e → (c : ℕ)
      → AllByRecursion (λ line. IsId line.0 × Fits line.1) (sent (after (empty_lobby settings accounts) history) e c)
  sent_keeps e fair c = keep_kinds (sent (after (empty_lobby settings accounts) history) e c) (readable e fair c)

  pub sent_short : (e : Event) → IsLegal e → (c : ℕ)
      → AllByRecursion (λ line. length (print line) ≤ 20480) (sent (after (empty_lobby settings accounts) history) e c)
  sent_short e fair c = short_printed (sent (after (empty_lobby settings accounts) history) e c) (readable e fair c)

  pub never_spoilt : (c : ℕ) → is_spoilt (put_in (empty_lobby settings accounts) history c) frame_limit ≡ false
  never_spoilt c = put_not_spoilt (empty_lobby settings accounts) history c (all_readable c)

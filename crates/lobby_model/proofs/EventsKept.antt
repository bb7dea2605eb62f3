-- Each event keeps the lobby sound, and so does each history.
use Rattle.std.proofs.Common.{◌≡◌, ℕ, List, [], ◌∷◌, refl, true, false}
use Rattle.std.specs.Prelude.{Option, Some, None, IsSome, is_some}
use Rattle.account_book.specs.Account.{Account}
use Rattle.command_grammar.specs.declared.command.Command.{Command}
use Rattle.line_words.specs.Table.{at_number}
use Rattle.lobby_model.specs.declared.event.Event.{Event}
use Rattle.lobby_model.specs.declared.event.Event.TheVariants as event
use Rattle.lobby_model.specs.Configuration.{Configuration}
use Rattle.lobby_model.specs.State.{State, Client, is_live_client, hears, name_of, empty_lobby}
use Rattle.lobby_model.specs.Outcome.{state_after}
use Rattle.lobby_model.specs.Sessions.{has_place}
use Rattle.lobby_model.specs.Commands.{answer}
use Rattle.lobby_model.specs.Events.{effect}
use Rattle.lobby_model.specs.Next.{next}
use Rattle.lobby_model.specs.History.{after}
use Rattle.lobby_model.specs.Laws.{OneForEach}
use Rattle.lobby_model.specs.Sound.{Sound}
use Rattle.lobby_model.proofs.Decided.{opening, saying}
use Rattle.lobby_model.proofs.SessionsKept as sessions
use Rattle.lobby_model.proofs.CommandsKept as commands

-- one who hears is there
found : (s : State) (c : ℕ) → IsSome (at_number s.clients c) → (client : Client) × (at_number s.clients c ≡ Some client)
found s c there =
    elim (at_number s.clients c) as (λ o. is_some o ≡ true → (client : Client) × (o ≡ Some client)) [
      | None ↦ λ e. absurd (cc)
      | Some client ↦ λ e. (client, refl)
    ] there

is_there : (s : State) (c : ℕ) → hears s c ≡ true → IsSome (at_number s.clients c)
is_there s c h = elim (at_number s.clients c) as (λ o. is_live_client o ≡ true → is_some o ≡ true) [ None ↦ λ e. e | Some client ↦ λ e. refl ] h

pub answer_keeps : (s : State) (c : ℕ) (me : Option (List ℕ)) (command : Command) → Sound s → IsSome (at_number s.clients c) → name_of s c ≡ me
    → Sound (state_after s (answer s c me command))
answer_keeps s c me command sound there named = let at_c = found s c there in commands.answer_keeps s sound c at_c.0 at_c.1 me named command

pub effect_keeps : (s : State) (e : Event) → Sound s → Sound (effect s e)
effect_keeps s (event.Open ip home) sound =
    elim (has_place s) as (λ b. Sound (state_after s (opening s ip home b))) [ true ↦ sessions.connects_keeps s sound ip home s | false ↦ sound ]
effect_keeps s (event.Say c request) sound =
    elim (hears s c) as (λ b. hears s c ≡ b → Sound (state_after s (saying s c request.command b))) [
      | true ↦ λ h. let at_c = found s c (is_there s c h) in commands.answer_keeps s sound c at_c.0 at_c.1 (name_of s c) refl request.command
      | false ↦ λ h. sound
    ] refl
effect_keeps s (event.Shut c) sound = sessions.departs_keeps s sound c _ (sessions.disconnects_unnames c) (name_of s c) refl
effect_keeps s (event.Drain c n) sound = sessions.drains_keeps s sound c n

pub next_keeps : (s : State) (e : Event) → Sound s → Sound (next s e)
next_keeps s e sound = sessions.delivered_keeps s e (effect_keeps s e sound)

after_keeps : (s : State) (history : List Event) → Sound s → Sound (after s history)
after_keeps s [] sound = sound
after_keeps s (e ∷ history) sound = after_keeps (next s e) history (next_keeps s e sound)

empty_sound : (settings : Configuration) (accounts : List Account) → Sound (empty_lobby settings accounts)
empty_sound settings accounts = record {
  clients = record {
    in_order = tt;
    users_in_order = tt;
    given = λ c client e. absurd (cc);
    one_for_each = record { single = λ c d name e. absurd (cc); has_user = λ c name e. absurd (cc); has_client = λ name e. absurd (cc) };
  };
  channels = record { in_order = tt; each = λ channel names e. absurd (cc) };
  battles = record { in_order = tt; given = λ id battle e. absurd (cc); each = λ id battle e. absurd (cc); one = λ name i j a b e. absurd (cc) };
  askers = record {
    once = λ id battle e. absurd (cc);
    are_users = λ id battle name e. absurd (cc);
    outside = λ name i j a b e. absurd (cc);
    one = λ name i j a b e. absurd (cc);
  };
}

pub always_sound : (settings : Configuration) (accounts : List Account) (history : List Event) → Sound (after (empty_lobby settings accounts) history)
always_sound settings accounts history = after_keeps (empty_lobby settings accounts) history (empty_sound settings accounts)

pub one_for_each : (settings : Configuration) (accounts : List Account) (history : List Event)
    → OneForEach (after (empty_lobby settings accounts) history)
one_for_each settings accounts history = (always_sound settings accounts history).clients.one_for_each

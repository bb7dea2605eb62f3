-- What is only said, asked or refused changes no view, nor does who asks to join a battle.
use Rattle.std.proofs.Common.{◌≡◌, ℕ, List, [], ◌∷◌, ◌++◌, refl, sym, ap, ◌∙◌, Bool, true, false}
use Rattle.std.specs.Prelude.{if◌then◌else◌, map, length}
use Rattle.reply_kinds.specs.declared.Reply.{Reply}
use Rattle.reply_kinds.specs.declared.Reply.TheVariants as reply
use Rattle.channel_book.specs.Channels.{Channels}
use Rattle.room_lists.specs.Room.{Room}
use Rattle.lobby_model.specs.State.{State}
use Rattle.lobby_model.specs.Outcome.{Letter, happens, only_told, lines_for}
use Rattle.lobby_model.specs.Battles.{change_room}
use Rattle.lobby_view.specs.View.{View, shown_all}
use Rattle.lobby_view.specs.Observe.{observe, shared}
use Rattle.lobby_view.proofs.Basics.{Seen, IsQuiet, reader}
use Rattle.lobby_view.proofs.Changed.{not_shared}

abbrev pub AllQuiet : List Reply → Type 0
AllQuiet [] = Unit {0}
AllQuiet (line ∷ lines) = IsQuiet line × AllQuiet lines

abbrev pub QuietLetters : List Letter → Type 0
QuietLetters [] = Unit {0}
QuietLetters (l ∷ letters) = AllQuiet l.lines × QuietLetters letters

quiet_shown : (v : View) (lines : List Reply) → AllQuiet lines → shown_all v lines ≡ v
quiet_shown v [] quiet = refl
quiet_shown v (line ∷ lines) quiet = ap (λ w. shown_all w lines) (quiet.0 v) ∙ quiet_shown v lines quiet.1

quiet-append : (xs ys : List Reply) → AllQuiet xs → AllQuiet ys → AllQuiet (xs ++ ys)
quiet-append [] ys p q = q
quiet-append (x ∷ xs) ys p q = (p.0, quiet-append xs ys p.1 q)

quiet_for : (mine : Bool) (u : List ℕ) (letters : List Letter) → QuietLetters letters → AllQuiet (lines_for (reader mine u) letters)
quiet_for mine u [] quiet = tt
quiet_for mine u (l ∷ letters) quiet =
    quiet-append (if l.to (reader mine u) then l.lines else []) (lines_for (reader mine u) letters)
    (elim (l.to (reader mine u)) as (λ b. AllQuiet (if b then l.lines else [])) [ true ↦ quiet.0 | false ↦ tt ]) (quiet_for mine u letters quiet.1)

pub told_seen : (s : State) (mine : Bool) (u : List ℕ) (letters : List Letter) → QuietLetters letters → Seen s mine u (only_told letters)
told_seen s mine u letters quiet = quiet_shown (observe s u) (lines_for (reader mine u) letters) (quiet_for mine u letters quiet)

-- a change of nothing that members share
pub hidden_seen : (s : State) (mine : Bool) (u : List ℕ) (id : ℕ) (f : Room → Room) → ((room : Room) → shared (f room) ≡ shared room)
    → (letters : List Letter) → QuietLetters letters → Seen s mine u (happens (λ t. change_room t id f) letters)
hidden_seen s mine u id f hides letters quiet = told_seen s mine u letters quiet ∙ sym (not_shared id f hides u s)

pub quiet_list : (channels : Channels) → AllQuiet (map (λ e. reply.Channel e.0 (length e.1)) channels ++ reply.EndOfChannels ∷ [])
quiet_list [] = ((λ v. refl), tt)
quiet_list (e ∷ channels) = ((λ v. refl), quiet_list channels)

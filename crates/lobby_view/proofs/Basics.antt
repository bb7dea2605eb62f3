-- What a user is told of what happens, and what its view makes of it.
use Rattle.std.proofs.Common.{◌≡◌, ℕ, List, [], ◌∷◌, ◌++◌, refl, sym, ap, subst, ◌∙◌, Bool, true, false}
use Rattle.std.specs.Prelude.{Some, map, flat_map, if◌then◌else◌}
use Rattle.std.proofs.lemmas.Grind.{flat_map-append}
use Rattle.reply_kinds.specs.declared.Reply.{Reply}
use Rattle.line_words.specs.Table.{same_name}
use Rattle.line_words.proofs.Tables.{same_name_is}
use Rattle.room_lists.specs.Room.{Room}
use Rattle.lobby_model.specs.State.{State}
use Rattle.lobby_model.specs.Outcome.{Reader, Letter, Happening, Outcome, Refused, Done, lines_for, all_after}
use Rattle.lobby_model.specs.Sessions.{to_others}
use Rattle.lobby_view.specs.View.{View, OwnRoom, shown, shown_all}
use Rattle.lobby_view.specs.Observe.{observe}

-- user u, as the one whose event it is or as another
abbrev pub reader : Bool → List ℕ → Reader
reader mine u = record { mine = mine; name = Some u }

-- what u is told of a thing that happens makes its view what the lobby then shows it
abbrev pub Seen : State → Bool → List ℕ → Happening → Type 0
Seen s mine u h = shown_all (observe s u) (lines_for (reader mine u) h.told) ≡ observe (h.after s) u

-- one thing that a user does is seen by each, if by itself and by any other
pub seen_by_each : (s : State) (mine : Bool) (me : List ℕ) (h : Happening) → Seen s mine me h
    → ((u : List ℕ) → same_name u me ≡ false → Seen s mine u h) → (u : List ℕ) → Seen s mine u h
seen_by_each s mine me h own other u =
    elim (same_name u me) as (λ b. same_name u me ≡ b → Seen s mine u h) [
      | true ↦ λ is. subst (λ n. Seen s mine n h) (sym (same_name_is u me is)) own
      | false ↦ λ apart. other u apart
    ] refl

-- of each of them, in the state before it
abbrev pub AllSeen : State → Bool → List ℕ → List Happening → Type 0
AllSeen s mine u [] = Unit {0}
AllSeen s mine u (h ∷ happenings) = Seen s mine u h × AllSeen (h.after s) mine u happenings

abbrev pub IsQuiet : Reply → Type 0
IsQuiet line = (v : View) → shown v line ≡ v

abbrev pub SeenOutcome : State → Bool → List ℕ → Outcome → Type 0
SeenOutcome s mine u (Refused refusal) = IsQuiet refusal
SeenOutcome s mine u (Done happenings) = AllSeen s mine u happenings

pub shown_all-append : (v : View) (xs ys : List Reply) → shown_all v (xs ++ ys) ≡ shown_all (shown_all v xs) ys
shown_all-append v [] ys = refl
shown_all-append v (x ∷ xs) ys = shown_all-append (shown v x) xs ys

-- what is seen of each is seen of all
pub all_seen : (s : State) (mine : Bool) (u : List ℕ) (happenings : List Happening) → AllSeen s mine u happenings
    → shown_all (observe s u) (lines_for (reader mine u) (flat_map (λ h. h.told) happenings)) ≡ observe (all_after s happenings) u
all_seen s mine u [] seen = refl
all_seen s mine u (h ∷ happenings) seen =
    let later = flat_map (λ h. h.told) happenings in
    ap (shown_all (observe s u)) (flat_map-append (λ l. if l.to (reader mine u) then l.lines else []) h.told later)
    ∙ shown_all-append (observe s u) (lines_for (reader mine u) h.told) (lines_for (reader mine u) later)
    ∙ ap (λ v. shown_all v (lines_for (reader mine u) later)) seen.0
    ∙ all_seen (h.after s) mine u happenings seen.1

-- of what one does not see who goes, the others see all
pub others_see : (u : List ℕ) (letters : List Letter) → lines_for (reader false u) (map to_others letters) ≡ lines_for (reader false u) letters
others_see u [] = refl
others_see u (l ∷ letters) = ap (λ rest. (if l.to (reader false u) then l.lines else []) ++ rest) (others_see u letters)

abbrev pub owned : ℕ → Room → OwnRoom
owned id room = record { battle = id; room = room }

-- the view of one who is in this battle, whose room is this
abbrev pub inside : View → ℕ → Room → View
inside v id room = record v { own = Some (owned id room) }

-- lines that each change the own room
module _ {X : Type 0} (line : X → Reply) (f : X → Room → Room) where
  abbrev pub all_done : List X → Room → Room
  all_done [] room = room
  all_done (x ∷ xs) room = all_done xs (f x room)

  pub room_lines_shown : (id : ℕ) → ((v : View) (x : X) (room : Room) → shown (inside v id room) (line x) ≡ inside v id (f x room))
      → (v : View) (xs : List X) (room : Room) → shown_all (inside v id room) (map line xs) ≡ inside v id (all_done xs room)
  room_lines_shown id each v [] room = refl
  room_lines_shown id each v (x ∷ xs) room =
      ap (λ w. shown_all w (map line xs)) (each v x room) ∙ room_lines_shown id each v xs (f x room)

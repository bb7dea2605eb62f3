-- What is known under one login, once parts of it changed.
use Rattle.std.proofs.Common.{◌≡◌, ◌∙◌, ℕ, List, refl, ap}
use Rattle.std.specs.Prelude.{Option}
use Rattle.line_words.specs.Table.{ByName, ByNumber}
use Rattle.lobby_view.specs.View.{View, Known, Listed, OwnRoom}
use Rattle.noted_map.specs.Undoable.{Undoable, Changes}

-- what is known, by its parts
abbrev pub parts : List ℕ → Undoable (ByName Known) → Undoable (ByNumber Listed) → Undoable (ByName (List (List ℕ))) → Undoable (Option OwnRoom) → Undoable View
parts me users battles channels room =
    record {
      now = record { me = me; users = users.now; battles = battles.now; channels = channels.now; own = room.now };
      before = record { me = me; users = users.before; battles = battles.before; channels = channels.before; own = room.before };
      noting = users.noting;
    }

module _ (me : List ℕ) (users : Undoable (ByName Known)) (battles : Undoable (ByNumber Listed)) (channels : Undoable (ByName (List (List ℕ)))) (room : Undoable (Option OwnRoom)) where
  pub own_change : (room.noting ≡ users.noting) → (f : Option OwnRoom → Option OwnRoom) (new : Undoable (Option OwnRoom)) → Changes f room new
      → Changes (λ (v : View). record v { own = f v.own }) (parts me users battles channels room) (parts me users battles channels new)
  own_change same f new changes = record {
    now = ap (λ (o : Option OwnRoom). record { me = me; users = users.now; battles = battles.now; channels = channels.now; own = o }) changes.now;
    before = λ e. ap (λ (o : Option OwnRoom). record { me = me; users = users.before; battles = battles.before; channels = channels.before; own = o }) (changes.before (same ∙ e));
    noting = refl;
  }

-- nothing changed
pub unchanged : {A : Type 0} (u : Undoable A) → Changes (λ a. a) u u
unchanged u = record { now = refl; before = λ e. refl; noting = refl }

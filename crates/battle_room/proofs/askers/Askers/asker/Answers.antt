use Rattle.std.proofs.Common.{◌∙◌, ap}
use Rattle.std.specs.Prelude.{ℕ, List, find}
use Rattle.line_words.specs.Table.{same_name}
use Rattle.room_lists.specs.Room as room
use Rattle.room_lists.proofs.Indexed.{value_found}
use Rattle.battle_room.proofs.askers.Askers.asker.Goals as goal

pub returns : goal.returns
returns c =
    c.get.ensures.value
    ∙ value_found (λ (name : List ℕ). name) (λ (a : room.Asker). a.name) c.args.name.now c.self.inside.by_name.entries c.self.invariant.0
    ∙ ap (λ (ms : List room.Asker). find (λ a. same_name c.args.name.now a.name) ms) c.self.view_is

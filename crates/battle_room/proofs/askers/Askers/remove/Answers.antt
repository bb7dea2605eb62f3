use Rattle.std.proofs.Common.{◌∙◌, ap, rules}
use Rattle.std.specs.Prelude.{ℕ, List, find}
use Rattle.line_words.specs.Table.{same_name}
use Rattle.room_lists.specs.Room as room
use Rattle.room_lists.proofs.Indexed.{value_found}
use Rattle.battle_room.proofs.Named.{index_left, values_left}
use Rattle.battle_room.proofs.askers.Askers.remove.Goals as goal

pub invariant_of-self : goal.invariant_of-self
invariant_of-self c = (index_left (λ (a : room.Asker). a.name) c.args.name.now c.self.inside.by_name.entries _ c.self.invariant.0 (search rules), c.shift_remove.ensures.unique)

pub returns-clause-rest : goal.returns-clause-rest
returns-clause-rest c = values_left (λ (a : room.Asker). a.name) c.args.name.now c.self.inside.by_name.entries _ c.self.invariant.0 (search rules) c.args.self.now c.self.view_is c.self.invariant.1

pub returns-clause-given : goal.returns-clause-given
returns-clause-given c =
    c.shift_remove.ensures.value
    ∙ value_found (λ (name : List ℕ). name) (λ (a : room.Asker). a.name) c.args.name.now c.self.inside.by_name.entries c.self.invariant.0
    ∙ ap (λ (asked : List room.Asker). find (λ a. same_name c.args.name.now a.name) asked) c.self.view_is

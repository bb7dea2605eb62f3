use Rattle.std.proofs.Common.{◌∙◌, ap}
use Rattle.std.specs.Prelude.{ℕ, List, map}
use Rattle.line_words.specs.Table.{is_among}
use Rattle.room_lists.specs.Room as room
use Rattle.room_lists.proofs.Indexed.{has_value}
use Rattle.battle_room.proofs.askers.Askers.has.Goals as goal

pub returns : goal.returns
returns c =
    c.contains_key.ensures
    ∙ has_value (λ (name : List ℕ). name) (λ (a : room.Asker). a.name) c.args.name.now c.self.inside.by_name.entries c.self.invariant.0
    ∙ ap (λ (ms : List room.Asker). is_among c.args.name.now (map (λ a. a.name) ms)) c.self.view_is

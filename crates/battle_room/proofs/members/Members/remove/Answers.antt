use Rattle.std.proofs.Common.{rules}
use Rattle.room_lists.specs.Room as room
use Rattle.battle_room.proofs.Named.{index_left, values_left}
use Rattle.battle_room.proofs.members.Members.remove.Goals as goal

pub invariant_of-self : goal.invariant_of-self
invariant_of-self g c = (index_left (λ (m : room.Member). m.name) c.args.name.now c.self.inside.by_name.entries _ c.self.invariant.0 (search rules), c.shift_remove.ensures.unique)

pub returns : goal.returns
returns g c = values_left (λ (m : room.Member). m.name) c.args.name.now c.self.inside.by_name.entries _ c.self.invariant.0 (search rules) c.args.self.now c.self.view_is c.self.invariant.1

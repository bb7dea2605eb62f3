use Rattle.std.proofs.Common.{◌≡◌, map, take}
use Rattle.room_lists.specs.Room as room
use Rattle.view_room.proofs.members.Members.of.Given as goal

abbrev pub invariant-loop-name : goal.invariant-loop-name
invariant-loop-name l = l.members.items ≡ map room.new_member (take l.name-index l.names)

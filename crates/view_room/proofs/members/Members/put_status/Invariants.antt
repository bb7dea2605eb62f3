use Rattle.std.proofs.Common.{◌≡◌, ◌++◌, take, drop}
use Rattle.std.specs.Prelude.{map, if◌then◌else◌}
use Rattle.line_words.specs.Table.{same_name}
use Rattle.room_lists.specs.Room as room
use Rattle.view_room.proofs.members.Members.put_status.Given as goal

abbrev pub invariant-loop-member : goal.invariant-loop-member
invariant-loop-member l = l.member-items
    ≡ map (λ m. if same_name l.name m.name then room.member_with l.status l.colour m else m) (take l.member-index l.initial.member-items) ++ drop l.member-index l.initial.member-items

use Rattle.std.proofs.Common.{to_z, of_z, w64, ◌∙◌, ap, sym, rules}
use Rattle.std.specs.Prelude.{if◌then◌else◌}
use Rattle.std.specs.List.{slice_set}
use Rattle.std.proofs.lemmas.List.Edits.{map_over_more}
use Rattle.line_words.specs.Table.{same_name}
use Rattle.room_lists.specs.Room as room
use Rattle.view_room.proofs.members.Members.put_status.Goals as goal

pub loop-member-preserved : goal.loop-member-preserved
loop-member-preserved c =
    let f = λ (m : room.Member). if same_name c.args.name.now m.name then room.member_with c.args.status (to_z w64 (of_z w64 c.args.colour)) m else m in
    ap (slice_set c.loop-member.member-items c.loop-member.member-index) (c.put_status.ensures ∙ ap f (sym c.member-item.is))
    ∙ map_over_more f c.deref_mut-member-items.result.now c.loop-member.member-items c.loop-member.member-index c.member-item.result (search rules) c.loop-member.invariant c.member-item.is

use Rattle.std.proofs.Common.{◌∙◌, ap, sym}
use Rattle.std.specs.Ordering.{nat_cmp}
use Rattle.std.specs.Cmp.{nat_cmp_total}
use Rattle.std.specs.BTreeMap.{is_at}
use Rattle.std.specs.Map.{set_value}
use Rattle.line_words.proofs.Ties.{none_of}
use Rattle.line_words.proofs.Written.{set_is_change, none_is_change}
use Rattle.lobby_battles.specs.Battles.{room_after, room_changed}
use Rattle.lobby_post.proofs.Refusals.{on_err}
use Rattle.lobby_battles.proofs.Base.{set_same}
use Rattle.lobby_battles.proofs.battles.Battles.change_room.Goals as goal

pub returns-in_err-change_room-clause-err : goal.returns-in_err-change_room-clause-err
returns-in_err-change_room-clause-err c =
    on_err c.from_residual.result ((c.get_mut.follows.holds c.change_room.new.self).0
    ∙ ap (set_value (is_at (nat_cmp c.args.number)) c.args.self.now.by_number.entries) c.in_err-change_room.ensures.err
    ∙ set_same nat_cmp c.args.number c.in-Some.battle.now c.args.self.now.by_number.entries (sym c.in-Some.ensures.value))

pub returns-in_ok-change_room-clause-battles : goal.returns-in_ok-change_room-clause-battles
returns-in_ok-change_room-clause-battles c =
    (c.get_mut.follows.holds c.change_room.new.self).0
    ∙ ap (set_value (is_at (nat_cmp c.args.number)) c.args.self.now.by_number.entries) (c.in_ok-change_room.ensures.ok)
    ∙ set_is_change nat_cmp nat_cmp_total (room_changed (room_after c.args.change)) c.args.number c.in-Some.battle.now c.args.self.now.by_number.entries c.get_mut.ensures.ordered
    (sym c.in-Some.ensures.value)

pub returns-in_default-clause-battles : goal.returns-in_default-clause-battles
returns-in_default-clause-battles c =
    (λ i. (c.get_mut.follows.holds-at-none i).entries)
    ∙ none_is_change nat_cmp nat_cmp_total (room_changed (room_after c.args.change)) c.args.number c.args.self.now.by_number.entries
    (sym (none_of c.get_mut.result c.in_default.not-Some ∙ c.get_mut.ensures.value))

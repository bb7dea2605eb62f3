use Rattle.std.proofs.Common.{◌∙◌, ap, sym}
use Rattle.std.specs.Ordering.{nat_cmp}
use Rattle.std.specs.Cmp.{nat_cmp_total}
use Rattle.std.specs.BTreeMap.{is_at}
use Rattle.std.specs.Map.{set_value}
use Rattle.line_words.proofs.Tables.{lookup_is_find}
use Rattle.line_words.proofs.Ties.{none_of}
use Rattle.line_words.proofs.Written.{set_is_change, none_is_change}
use Rattle.room_lists.specs.Room.{has_member, with_member}
use Rattle.lobby_battles.specs.Battles.{room_changed}
use Rattle.lobby_post.proofs.Refusals.{on_err}
use Rattle.lobby_battles.proofs.Base.{set_same}
use Rattle.lobby_battles.proofs.battles.Battles.add_member.Goals as goal

pub add_member-requires : goal.add_member-requires
add_member-requires c =
    ap (λ name. has_member name c.in-Some.battle.now.room) c.copy.ensures
    ∙ c.requires c.args.number c.in-Some.battle.now (sym (c.in-Some.ensures.value ∙ lookup_is_find nat_cmp c.args.number c.args.self.now.by_number.entries))

pub returns-in_err-add_member-clause-err : goal.returns-in_err-add_member-clause-err
returns-in_err-add_member-clause-err c =
    on_err c.from_residual.result ((c.get_mut.follows.holds c.add_member.new.self).0
    ∙ ap (set_value (is_at (nat_cmp c.args.number)) c.args.self.now.by_number.entries) c.in_err-add_member.ensures.err
    ∙ set_same nat_cmp c.args.number c.in-Some.battle.now c.args.self.now.by_number.entries (sym c.in-Some.ensures.value))

pub returns-in_ok-add_member-clause-battles : goal.returns-in_ok-add_member-clause-battles
returns-in_ok-add_member-clause-battles c =
    (c.get_mut.follows.holds c.add_member.new.self).0
    ∙ ap (set_value (is_at (nat_cmp c.args.number)) c.args.self.now.by_number.entries) (c.in_ok-add_member.ensures.ok ∙ ap (λ name. room_changed (with_member name) c.in-Some.battle.now) c.copy.ensures)
    ∙ set_is_change nat_cmp nat_cmp_total (room_changed (with_member c.args.name.now)) c.args.number c.in-Some.battle.now c.args.self.now.by_number.entries c.get_mut.ensures.ordered
    (sym c.in-Some.ensures.value)

pub returns-in_default-clause-battles : goal.returns-in_default-clause-battles
returns-in_default-clause-battles c =
    (λ i. (c.get_mut.follows.holds-at-none i).entries)
    ∙ none_is_change nat_cmp nat_cmp_total (room_changed (with_member c.args.name.now)) c.args.number c.args.self.now.by_number.entries
    (sym (none_of c.get_mut.result c.in_default.not-Some ∙ c.get_mut.ensures.value))

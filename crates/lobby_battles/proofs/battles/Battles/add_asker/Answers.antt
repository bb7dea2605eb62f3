use Rattle.std.proofs.Common.{◌∙◌, ap, sym}
use Rattle.std.specs.Ordering.{nat_cmp}
use Rattle.std.specs.Cmp.{nat_cmp_total}
use Rattle.std.specs.BTreeMap.{is_at}
use Rattle.std.specs.Map.{set_value}
use Rattle.line_words.proofs.Tables.{lookup_is_find}
use Rattle.line_words.proofs.Ties.{none_of}
use Rattle.line_words.proofs.Written.{set_is_change, none_is_change}
use Rattle.room_lists.specs.Room.{has_asker, has_member, with_asker}
use Rattle.lobby_battles.specs.Battles.{room_changed}
use Rattle.lobby_post.proofs.Refusals.{on_err}
use Rattle.lobby_battles.proofs.Base.{set_same}
use Rattle.lobby_battles.proofs.battles.Battles.add_asker.Goals as goal

pub add_asker-requires-clause-member : goal.add_asker-requires-clause-member
add_asker-requires-clause-member c =
    ap (λ name. has_member name c.in-Some.battle.now.room) c.copy.ensures
    ∙ c.requires.member c.args.number c.in-Some.battle.now (sym (c.in-Some.ensures.value ∙ lookup_is_find nat_cmp c.args.number c.args.self.now.by_number.entries))

pub add_asker-requires-clause-asker : goal.add_asker-requires-clause-asker
add_asker-requires-clause-asker c =
    ap (λ name. has_asker name c.in-Some.battle.now.room) c.copy.ensures
    ∙ c.requires.asker c.args.number c.in-Some.battle.now (sym (c.in-Some.ensures.value ∙ lookup_is_find nat_cmp c.args.number c.args.self.now.by_number.entries))

pub returns-in_err-add_asker-clause-err : goal.returns-in_err-add_asker-clause-err
returns-in_err-add_asker-clause-err c =
    on_err c.from_residual.result ((c.get_mut.follows.holds c.add_asker.new.self).0
    ∙ ap (set_value (is_at (nat_cmp c.args.number)) c.args.self.now.by_number.entries) c.in_err-add_asker.ensures.err
    ∙ set_same nat_cmp c.args.number c.in-Some.battle.now c.args.self.now.by_number.entries (sym c.in-Some.ensures.value))

pub returns-in_ok-add_asker-clause-battles : goal.returns-in_ok-add_asker-clause-battles
returns-in_ok-add_asker-clause-battles c =
    (c.get_mut.follows.holds c.add_asker.new.self).0
    ∙ ap (set_value (is_at (nat_cmp c.args.number)) c.args.self.now.by_number.entries) (c.in_ok-add_asker.ensures.ok ∙ ap (λ name. room_changed (with_asker name c.args.script_password) c.in-Some.battle.now) c.copy.ensures)
    ∙ set_is_change nat_cmp nat_cmp_total (room_changed (with_asker c.args.name.now c.args.script_password)) c.args.number c.in-Some.battle.now c.args.self.now.by_number.entries c.get_mut.ensures.ordered
    (sym c.in-Some.ensures.value)

pub returns-in_default-clause-battles : goal.returns-in_default-clause-battles
returns-in_default-clause-battles c =
    (λ i. (c.get_mut.follows.holds-at-none i).entries)
    ∙ none_is_change nat_cmp nat_cmp_total (room_changed (with_asker c.args.name.now c.args.script_password)) c.args.number c.args.self.now.by_number.entries
    (sym (none_of c.get_mut.result c.in_default.not-Some ∙ c.get_mut.ensures.value))

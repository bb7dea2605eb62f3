use Rattle.std.proofs.Common.{◌≡◌, ◌∙◌, ap, sym, true, false}
use Rattle.std.specs.Prelude.{Some, if◌then◌else◌}
use Rattle.std.specs.Ordering.{nat_cmp}
use Rattle.std.specs.Cmp.{nat_cmp_total}
use Rattle.std.specs.BTreeMap.{is_at}
use Rattle.std.specs.Map.{remove_entry, set_value}
use Rattle.line_words.specs.Table.{at_number, without_number, change_number}
use Rattle.line_words.proofs.Tables.{lookup_is_find}
use Rattle.line_words.proofs.Written.{remove_is_without, remove_entry-set_value, set_is_change}
use Rattle.room_lists.specs.Room.{without_member}
use Rattle.lobby_model.specs.State.{Battle}
use Rattle.lobby_model.specs.Battles.{is_founder}
use Rattle.lobby_battles.specs.Battles.{left_at, room_changed}
use Rattle.lobby_battles.proofs.battles.Battles.leave.Goals as goal

pub returns-then-is_founder-clause-battles : goal.returns-then-is_founder-clause-battles
returns-then-is_founder-clause-battles c =
    let there : at_number c.args.self.now.by_number.entries c.args.number ≡ Some c.in-Some.battle.now = sym (c.in-Some.ensures.value
    ∙ lookup_is_find nat_cmp c.args.number c.args.self.now.by_number.entries) in
    let founds : is_founder c.args.name.now c.in-Some.battle.now ≡ true = sym c.is_founder.ensures ∙ c.if-is_founder.true in
    c.remove.ensures.entries
    ∙ ap (remove_entry (is_at (nat_cmp c.args.number))) (c.get_mut.follows.holds c.in-Some.battle.now).0
    ∙ remove_entry-set_value (is_at (nat_cmp c.args.number)) c.in-Some.battle.now c.args.self.now.by_number.entries
    ∙ remove_is_without nat_cmp nat_cmp_total c.args.number c.args.self.now.by_number.entries c.get_mut.ensures.ordered
    ∙ sym (ap (left_at c.args.self.now.by_number.entries c.args.number c.args.name.now) there
    ∙ ap (λ b. if b then without_number c.args.self.now.by_number.entries c.args.number
    else change_number c.args.self.now.by_number.entries c.args.number (room_changed (without_member c.args.name.now))) founds)

pub returns-else-is_founder-clause-battles : goal.returns-else-is_founder-clause-battles
returns-else-is_founder-clause-battles c =
    let there : at_number c.args.self.now.by_number.entries c.args.number ≡ Some c.in-Some.battle.now = sym (c.in-Some.ensures.value
    ∙ lookup_is_find nat_cmp c.args.number c.args.self.now.by_number.entries) in
    let founds : is_founder c.args.name.now c.in-Some.battle.now ≡ false = sym c.is_founder.ensures ∙ c.if-is_founder.false in
    (c.get_mut.follows.holds _).0
    ∙ ap (set_value (is_at (nat_cmp c.args.number)) c.args.self.now.by_number.entries) (λ i. room_changed (λ room. (c.drop_member.ensures
    ∙ ap (λ (battle : Battle). without_member c.args.name.now battle.room) c.battle.view_is) i) (c.battle.view_is i))
    ∙ set_is_change nat_cmp nat_cmp_total (room_changed (without_member c.args.name.now)) c.args.number c.in-Some.battle.now
    c.args.self.now.by_number.entries c.get_mut.ensures.ordered (sym c.in-Some.ensures.value)
    ∙ sym (ap (left_at c.args.self.now.by_number.entries c.args.number c.args.name.now) there
    ∙ ap (λ b. if b then without_number c.args.self.now.by_number.entries c.args.number
    else change_number c.args.self.now.by_number.entries c.args.number (room_changed (without_member c.args.name.now))) founds)

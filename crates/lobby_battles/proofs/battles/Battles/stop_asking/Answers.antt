use Rattle.std.proofs.Common.{◌∙◌, ap, sym}
use Rattle.std.specs.Ordering.{nat_cmp}
use Rattle.std.specs.Cmp.{nat_cmp_total}
use Rattle.std.specs.BTreeMap.{is_at}
use Rattle.std.specs.Map.{set_value}
use Rattle.line_words.proofs.Ties.{none_of}
use Rattle.line_words.proofs.Written.{set_is_change, none_is_change}
use Rattle.room_lists.specs.Room.{without_asker}
use Rattle.lobby_model.specs.State.{Battle}
use Rattle.lobby_battles.specs.Battles.{room_changed}
use Rattle.lobby_battles.proofs.battles.Battles.stop_asking.Goals as goal

pub returns-in-Some-clause-battles : goal.returns-in-Some-clause-battles
returns-in-Some-clause-battles c =
    (c.get_mut.follows.holds _).0
    ∙ ap (set_value (is_at (nat_cmp c.args.number)) c.args.self.now.by_number.entries) (λ i. room_changed (λ room. (c.drop_asker.ensures
    ∙ ap (λ (battle : Battle). without_asker c.args.name.now battle.room) c.battle.view_is) i) (c.battle.view_is i))
    ∙ set_is_change nat_cmp nat_cmp_total (room_changed (without_asker c.args.name.now)) c.args.number c.in-Some.battle.now c.args.self.now.by_number.entries c.get_mut.ensures.ordered
    (sym c.in-Some.ensures.value)

pub returns-in_default-clause-battles : goal.returns-in_default-clause-battles
returns-in_default-clause-battles c =
    (λ i. (c.get_mut.follows.holds-at-none i).entries)
    ∙ none_is_change nat_cmp nat_cmp_total (room_changed (without_asker c.args.name.now)) c.args.number c.args.self.now.by_number.entries
    (sym (none_of c.get_mut.result c.in_default.not-Some ∙ c.get_mut.ensures.value))

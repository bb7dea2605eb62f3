use Rattle.std.proofs.Common.{◌≡◌, ◌∙◌, ap, sym, rules}
use Rattle.std.specs.Ordering.{nat_cmp}
use Rattle.std.specs.Cmp.{nat_cmp_total}
use Rattle.std.specs.BTreeMap.{is_at}
use Rattle.std.specs.Map.{set_value}
use Rattle.line_words.proofs.Ties.{none_of}
use Rattle.line_words.proofs.Written.{set_is_change, none_is_change}
use Rattle.lobby_model.specs.State.{updated}
use Rattle.lobby_battles.specs.Info.{info_changed}
use Rattle.lobby_battles.proofs.battles.Battles.update.Goals as goal

pub returns-in-Some-clause-battles : goal.returns-in-Some-clause-battles
returns-in-Some-clause-battles c =
    let is : c.update.new.self ≡ info_changed (updated c.args.spectators c.args.locked c.args.map_hash c.args.map) c.in-Some.battle.now = search rules in
    (c.get_mut.follows.holds c.update.new.self).0
    ∙ ap (set_value (is_at (nat_cmp c.args.number)) c.args.self.now.by_number.entries) (is)
    ∙ set_is_change nat_cmp nat_cmp_total (info_changed (updated c.args.spectators c.args.locked c.args.map_hash c.args.map)) c.args.number c.in-Some.battle.now c.args.self.now.by_number.entries c.get_mut.ensures.ordered
    (sym c.in-Some.ensures.value)

pub returns-in_default-clause-battles : goal.returns-in_default-clause-battles
returns-in_default-clause-battles c =
    (λ i. (c.get_mut.follows.holds-at-none i).entries)
    ∙ none_is_change nat_cmp nat_cmp_total (info_changed (updated c.args.spectators c.args.locked c.args.map_hash c.args.map)) c.args.number c.args.self.now.by_number.entries
    (sym (none_of c.get_mut.result c.in_default.not-Some ∙ c.get_mut.ensures.value))

use Rattle.std.proofs.Common.{◌∙◌, ap, subst, w64, ℤ}
use Rattle.std.proofs.lemmas.Int.{to_z-of_z}
use Rattle.status_bits.specs.Fields.{merge}
use Rattle.status_bits.specs.BattleWord.{battle_table}
use Rattle.room_lists.specs.Room.{status_of}
use Rattle.lobby_model.specs.State.{Battle}
use Rattle.lobby_model.specs.Battles.{set_own_status}
use Rattle.battle_rules.specs.Answers.{Obeyed}
use Rattle.battle_rules.proofs.InBattles.{has_so}
use Rattle.battle_rules.proofs.battles.my_battle_status.Goals as goal

pub returns : goal.returns
returns c =
    subst (λ (z : ℤ). Obeyed c.args.by.now.maps.now.plain c.args.by.now.client c.args.post.now c.give_status.new.post c.in_ok-give_status.field-0
    (set_own_status c.args.by.now.maps.now.plain c.args.by.now.me.now c.args.asked z)) (to_z-of_z w64 c.args.colour c.ranges.colour)
    (has_so c.args.by.now.maps.now.plain c.args.by.now.client c.args.post.now c.give_status.new.post c.args.by.now.me.now c.in_ok-number.number c.in_ok-number.battle.now
    c.args.asked c.merge_battle-status.result _ c.in_ok-give_status.field-0 c.in_ok-number.ensures.ok
    (c.merge_battle-status.ensures.word
    ∙ ap (λ w. merge battle_table w c.args.asked) (c.shown_by.ensures
    ∙ ap (λ (b : Battle). status_of c.args.by.now.me.now b.room) c.battle.view_is))
    c.in_ok-give_status.ensures.change c.in_ok-give_status.ensures.told)

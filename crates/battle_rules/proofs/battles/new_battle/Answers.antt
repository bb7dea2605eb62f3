use Rattle.std.proofs.Common.{◌∙◌, sym, ap, refl, subst}
use Rattle.std.specs.Global.{Box}
use Rattle.std.proofs.lemmas.Result.{IfOk-weaker}
use Rattle.room_lists.specs.Room.{Room}
use Rattle.lobby_model.specs.Battles.{open_battle}
use Rattle.lobby_model.specs.State.{Battle}
use Rattle.lobby_battles.specs.Battles.{IsNew}
use Rattle.battle_rules.specs.Opening.{started}
use Rattle.battle_rules.proofs.battles.new_battle.Goals as goal

-- what holds of a value that there may be
pub returns-in-Ok-clause-asked : goal.returns-in-Ok-clause-asked
returns-in-Ok-clause-asked c =
    IfOk-weaker c.boxed_battle.result _ _ (λ (battle : Box Battle) is.
    c.in_ok-opened.ensures
    ∙ (λ i. open_battle c.args.by.now.maps.now.plain c.args.by.now.me.now
    (started c.in_ok-opened.opened (sym c.in-Ok.ensures.password i) (sym c.in-Ok.ensures.game_hash i) (sym c.in-Ok.ensures.room i)))
    ∙ ap (open_battle c.args.by.now.maps.now.plain c.args.by.now.me.now) (sym is)) c.boxed_battle.ensures

pub returns-in-Ok-clause-alone : goal.returns-in-Ok-clause-alone
returns-in-Ok-clause-alone c =
    IfOk-weaker c.boxed_battle.result _ _ (λ (battle : Box Battle) is. subst (λ (b : Battle). IsNew b c.args.by.now.me.now) (sym is)
    (subst (λ (room : Room). IsNew (started c.in_ok-opened.opened c.in-Ok.inside.password c.in-Ok.inside.game_hash room) c.args.by.now.me.now) (sym c.in-Ok.ensures.room)
    (record { members = refl; askers = refl }))) c.boxed_battle.ensures

use Rattle.std.proofs.Common.{◌∙◌, sym, subst}
use Rattle.std.proofs.lemmas.Result.{on_ok_weaker}
use Rattle.lobby_model.specs.State.{Battle}
use Rattle.lobby_post.specs.Posted.{Told}
use Rattle.battle_rules.specs.BattleTalk.{bots_gone}
use Rattle.battle_rules.proofs.InBattles.{leaves_told}
use Rattle.battle_rules.proofs.battles.tell_leaving.Goals as goal

pub returns : goal.returns
returns c =
    on_ok_weaker _ (leaves_told c.args.maps.now.plain c.args.post.now c.tell_leaving_all.new.post c.args.number c.args.name.now c.args.battle.now
    c.tell_bots_gone.new.post c.args.leaving (sym c.is_founder.ensures ∙ c.if-is_founder.false)
    (subst (λ (b : Battle). Told c.args.maps.now.plain c.args.post.now c.tell_bots_gone.new.post
    (bots_gone c.args.leaving c.args.number c.args.name.now b.room)) c.battle.view_is c.in_ok-tell_bots_gone.ensures)) c.tell_leaving_all.ensures

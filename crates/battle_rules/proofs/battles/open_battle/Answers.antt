use Rattle.std.proofs.Common.{[], ◌∷◌, subst}
use Rattle.reply_kinds.specs.declared.Reply.TheVariants as reply
use Rattle.lobby_model.specs.State.{Battle}
use Rattle.lobby_model.specs.Outcome.{everyone, tell, user}
use Rattle.lobby_model.specs.Battles.{opened_line}
use Rattle.lobby_post.specs.Posted.{Told}
use Rattle.battle_rules.proofs.InBattles.{opened_so}
use Rattle.battle_rules.proofs.battles.open_battle.Goals as goal

pub returns-in-Ok : goal.returns-in-Ok
returns-in-Ok c =
    opened_so c.args.by.now.maps.now.plain c.args.by.now.client c.args.post.now c.tell_opening.new.post c.args.by.now.me.now c.in_ok-number.number
    c.copy.result c.in_ok-battle.battle _ c.in_ok-battle.ensures.asked c.in_ok-in_no_battle.ensures.ok c.in_ok-asks_nowhere.ensures.ok c.in_ok-number.ensures.ok
    c.in_ok-number.ensures.number c.in_ok-number.ensures.last c.copy.ensures c.requires.me c.in_ok-battle.ensures.alone
    (subst (λ (battle : Battle). Told c.args.by.now.maps.now.plain c.args.post.now c.tell_opening.new.post (tell everyone (opened_line c.in_ok-number.number battle.info ∷ [])
    ∷ tell (user c.args.by.now.me.now) (reply.OpenBattle c.in_ok-number.number ∷ reply.RequestBattleStatus ∷ []) ∷ [])) c.deref.ensures c.in-Ok.ensures)

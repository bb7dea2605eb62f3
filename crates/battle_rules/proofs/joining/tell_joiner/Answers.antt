use Rattle.std.proofs.Common.{ap, ◌∙◌, subst, [], ◌∷◌, ◌++◌, w64, rules}
use Rattle.std.proofs.lemmas.Int.{to_z-of_z}
use Rattle.std.specs.Prelude.{None}
use Rattle.reply_kinds.specs.declared.Reply.TheVariants as reply
use Rattle.lobby_model.specs.State.{Battle}
use Rattle.lobby_model.specs.Outcome.{tell, user}
use Rattle.lobby_model.specs.Battles.{room_lines}
use Rattle.lobby_post.specs.Posted.{Told, blank}
use Rattle.lobby_battles.specs.Recipients.{written}
use Rattle.lobby_battles.proofs.Written.{settled, written_then}
use Rattle.battle_rules.proofs.Joins.{told_recipient}
use Rattle.battle_rules.proofs.joining.tell_joiner.Goals as goal

pub write_room-requires : goal.write_room-requires
write_room-requires c = settled c.args.recipient _ _ _ c.in_ok-write_line-2.ensures

pub returns : goal.returns
returns c =
    subst (λ (b : Battle). Told c.args.maps.now.plain c.args.post.now c.address_user.new.post (tell (user c.args.name.now)
    (reply.JoinBattle c.args.number b.game_hash ∷ reply.JoinedBattle c.args.number c.args.name.now None
    ∷ (room_lines c.args.number b.room ++ reply.RequestBattleStatus ∷ [])) ∷ [])) c.battle.view_is
    (told_recipient c.args.maps.now.plain c.args.post.now c.write_line-3.new.post c.address_user.new.post c.args.name.now _ c.args.recipient c.requires
    (written_then c.args.recipient (blank c.args.post.now) c.write_line.new.post c.write_line-3.new.post (reply.JoinBattle c.args.number c.battle.inside.game_hash ∷ [])
    (reply.JoinedBattle c.args.number c.args.name.now None ∷ (room_lines c.args.number c.battle.inside.room ++ reply.RequestBattleStatus ∷ []))
    (c.in_ok-write_line.ensures
    ∙ ap (λ hash. written c.args.recipient c.begin_own.new.self (reply.JoinBattle c.args.number hash ∷ []))
    (to_z-of_z w64 c.battle.inside.game_hash (search rules))
    ∙ ap (λ p. written c.args.recipient p (reply.JoinBattle c.args.number c.battle.inside.game_hash ∷ [])) c.begin_own.ensures)
    (written_then c.args.recipient _ c.write_line-2.new.post c.write_line-3.new.post (reply.JoinedBattle c.args.number c.args.name.now None ∷ [])
    (room_lines c.args.number c.battle.inside.room ++ reply.RequestBattleStatus ∷ []) c.in_ok-write_line-2.ensures
    (written_then c.args.recipient _ c.write_room.new.post c.write_line-3.new.post (room_lines c.args.number c.battle.inside.room)
    (reply.RequestBattleStatus ∷ []) c.in_ok-write_room.ensures c.in_ok-write_line-3.ensures)))
    c.in_ok-address_user.ensures.own c.in_ok-address_user.ensures.sent)

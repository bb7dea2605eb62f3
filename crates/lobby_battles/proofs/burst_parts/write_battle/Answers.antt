use Rattle.std.proofs.Common.{to_z, of_z, ◌≡◌, ◌∙◌, ap, [], ◌∷◌, rules, w64}
use Rattle.reply_kinds.specs.declared.Reply.TheVariants as reply
use Rattle.lobby_model.specs.State.{Battle}
use Rattle.lobby_post.specs.Posted.{with_own}
use Rattle.lobby_battles.proofs.RoomLines.{battle_told}
use Rattle.lobby_battles.proofs.burst_parts.write_battle.Goals as goal

pub returns : goal.returns
returns c =
    let kept : to_z w64 (of_z w64 c.battle.inside.opened.map_hash) ≡ c.battle.inside.opened.map_hash = search rules in
    battle_told c.args.post.now c.write_own.new.self c.write_own-2.new.self c.write_guests.new.post c.args.number c.args.battle.now
    c.battle.inside.opened c.battle.inside.spectators c.battle.inside.locked
    (c.in_ok-write_own.ensures ∙ ap (λ line. with_own c.args.post.now (line ∷ [])) c.told.ensures)
    (c.in_ok-write_own-2.ensures ∙ ap (λ hash. with_own c.write_own.new.self
    (reply.UpdateBattleInfo c.args.number c.battle.inside.spectators c.battle.inside.locked hash c.battle.inside.opened.map ∷ [])) kept)
    c.in_ok-write_guests.ensures (ap (λ (b : Battle). b.info) c.battle.view_is)

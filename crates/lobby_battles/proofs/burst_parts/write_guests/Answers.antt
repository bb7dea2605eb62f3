use Rattle.std.proofs.Common.{◌∙◌, ap, sym, [], ◌∷◌, not}
use Rattle.std.specs.Prelude.{None, if◌then◌else◌}
use Rattle.reply_kinds.specs.declared.Reply.TheVariants as reply
use Rattle.lobby_post.specs.Posted.{with_own}
use Rattle.lobby_post.proofs.Telling.{with_own_none}
use Rattle.lobby_battles.proofs.RoomLines.{guest_told}
use Rattle.lobby_battles.proofs.burst_parts.write_guests.Goals as goal
use Rattle.lobby_battles.proofs.burst_parts.write_guests.Goals.{then-not-is_founder+in_ok-write_own, else-not-is_founder}

pub loop-name-preserved : goal.loop-name-preserved
loop-name-preserved c =
    guest_told (λ name. reply.JoinedBattle c.args.number name None) c.args.battle.now.info.founder c.args.post.now c.loop-name.post
    c.if-not-is_founder.post c.names-name-items.result.now c.loop-name.name-index c.name-item.result c.is_founder.result
    c.loop-name-test.true c.name-item.is c.is_founder.ensures c.loop-name.invariant
    (elim c.if-not-is_founder.branch [
      | then-not-is_founder+in_ok-write_own w ↦ w.post-is ∙ w.in_ok-write_own.ensures
          ∙ ap (λ b. with_own c.loop-name.post (if not b then reply.JoinedBattle c.args.number c.name-item.result None ∷ [] else []))
          (sym w.if-not-is_founder.true)
      | else-not-is_founder w ↦ w.post-is ∙ sym (with_own_none c.loop-name.post)
          ∙ ap (λ b. with_own c.loop-name.post (if not b then reply.JoinedBattle c.args.number c.name-item.result None ∷ [] else []))
          (sym w.if-not-is_founder.false)
    ])

use Rattle.std.proofs.Common.{to_z, of_z, ◌≡◌, ◌∙◌, [], ◌∷◌, ap, sym, map, arith, rules, w64}
use Rattle.reply_kinds.specs.declared.Reply.TheVariants as reply
use Rattle.lobby_model.specs.Battles.{status_line}
use Rattle.std.proofs.lemmas.List.{take_all}
use Rattle.lobby_battles.specs.Recipients.{written}
use Rattle.lobby_battles.proofs.Written.{written_more}
use Rattle.lobby_battles.proofs.RoomLines.{put_one_line}
use Rattle.lobby_battles.proofs.room_lines.write_statuses.Goals as goal

pub loop-member-init : goal.loop-member-init
loop-member-init c = sym c.requires

pub loop-member-preserved : goal.loop-member-preserved
loop-member-preserved c =
    let kept : to_z w64 (of_z w64 c.colour.result) ≡ c.colour.result = search rules in
    put_one_line (written c.args.recipient) (written_more c.args.recipient) (status_line) c.args.post.now c.loop-member.post c.write_line.new.post
    c.members-member-items.result.now c.loop-member.member-index c.member-item.result c.loop-member-test.true c.member-item.is c.loop-member.invariant
    (c.in_ok-write_line.ensures ∙ (λ i. written c.args.recipient c.loop-member.post
    (reply.ClientBattleStatus (c.name.ensures i) ((c.word-status.ensures.same ∙ c.status.ensures) i) ((kept ∙ c.colour.ensures) i) ∷ [])))

pub returns : goal.returns
returns c =
    c.loop-member.invariant
    ∙ ap (λ xs. written c.args.recipient c.args.post.now (map (status_line) xs))
    (take_all c.loop-member.member-index c.members-member-items.result.now (omega (arith, c.loop-member-test.false)) ∙ c.members-member-items.ensures.members)

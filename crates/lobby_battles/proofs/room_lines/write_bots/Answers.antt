use Rattle.std.proofs.Common.{to_z, of_z, ◌≡◌, ◌∙◌, [], ◌∷◌, ap, sym, map, arith, rules, w64}
use Rattle.reply_kinds.specs.declared.Reply.TheVariants as reply
use Rattle.lobby_model.specs.Battles.{bot_line}
use Rattle.std.proofs.lemmas.List.{take_all}
use Rattle.lobby_battles.specs.Recipients.{written}
use Rattle.lobby_battles.proofs.Written.{written_more}
use Rattle.lobby_battles.proofs.RoomLines.{put_one_line}
use Rattle.lobby_battles.proofs.room_lines.write_bots.Goals as goal

pub loop-bot-init : goal.loop-bot-init
loop-bot-init c = sym c.requires

pub loop-bot-preserved : goal.loop-bot-preserved
loop-bot-preserved c =
    let kept : to_z w64 (of_z w64 c.colour.result) ≡ c.colour.result = search rules in
    put_one_line (written c.args.recipient) (written_more c.args.recipient) (bot_line c.args.number) c.args.post.now c.loop-bot.post c.write_line.new.post
    c.bots-bot-items.result.now c.loop-bot.bot-index c.bot-item.result c.loop-bot-test.true c.bot-item.is c.loop-bot.invariant
    (c.in_ok-write_line.ensures ∙ (λ i. written c.args.recipient c.loop-bot.post
    (reply.AddBot c.args.number (c.name.ensures i) (c.owner.ensures i) ((c.word-status.ensures.same ∙ c.status.ensures) i) ((kept ∙ c.colour.ensures) i)
    (c.ai.ensures i) ∷ [])))

pub returns : goal.returns
returns c =
    c.loop-bot.invariant
    ∙ ap (λ xs. written c.args.recipient c.args.post.now (map (bot_line c.args.number) xs))
    (take_all c.loop-bot.bot-index c.bots-bot-items.result.now (omega (arith, c.loop-bot-test.false)) ∙ c.bots-bot-items.ensures)

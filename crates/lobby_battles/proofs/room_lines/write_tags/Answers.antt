use Rattle.std.proofs.Common.{◌∙◌, ap, sym, map, arith, [], ◌∷◌}
use Rattle.reply_kinds.specs.declared.Reply.TheVariants as reply
use Rattle.std.proofs.lemmas.List.{take_all}
use Rattle.lobby_battles.specs.Recipients.{written}
use Rattle.lobby_battles.proofs.Written.{written_more}
use Rattle.lobby_battles.proofs.RoomLines.{put_one_line}
use Rattle.lobby_battles.proofs.room_lines.write_tags.Goals as goal

pub loop-pair-init : goal.loop-pair-init
loop-pair-init c = sym c.requires

pub loop-pair-preserved : goal.loop-pair-preserved
loop-pair-preserved c =
    put_one_line (written c.args.recipient) (written_more c.args.recipient) (λ t. reply.SetScriptTags (t ∷ [])) c.args.post.now c.loop-pair.post c.write_line.new.post
    c.tags-pair-items.result.now c.loop-pair.pair-index c.pair-item.result c.loop-pair-test.true c.pair-item.is c.loop-pair.invariant
    (c.in_ok-write_line.ensures ∙ ap (λ xs. written c.args.recipient c.loop-pair.post (reply.SetScriptTags xs ∷ [])) c.from_ref.ensures.value)

pub returns : goal.returns
returns c =
    c.loop-pair.invariant
    ∙ ap (λ xs. written c.args.recipient c.args.post.now (map (λ t. reply.SetScriptTags (t ∷ [])) xs))
    (take_all c.loop-pair.pair-index c.tags-pair-items.result.now (omega (arith, c.loop-pair-test.false)) ∙ c.tags-pair-items.ensures)

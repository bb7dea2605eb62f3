use Rattle.std.proofs.Common.{◌∙◌, ap, sym, map, arith, [], ◌∷◌}
use Rattle.reply_kinds.specs.declared.Reply.TheVariants as reply
use Rattle.std.proofs.lemmas.List.{take_all}
use Rattle.lobby_battles.specs.Recipients.{written}
use Rattle.lobby_battles.proofs.Written.{written_more}
use Rattle.lobby_battles.proofs.RoomLines.{put_one_line}
use Rattle.lobby_battles.proofs.room_lines.write_units.Goals as goal

pub loop-unit-init : goal.loop-unit-init
loop-unit-init c = sym c.requires

pub loop-unit-preserved : goal.loop-unit-preserved
loop-unit-preserved c =
    put_one_line (written c.args.recipient) (written_more c.args.recipient) (λ unit. reply.DisableUnits (unit ∷ [])) c.args.post.now c.loop-unit.post c.write_line.new.post
    c.units-unit-items.result.now c.loop-unit.unit-index c.unit-item.result c.loop-unit-test.true c.unit-item.is c.loop-unit.invariant
    (c.in_ok-write_line.ensures ∙ ap (λ xs. written c.args.recipient c.loop-unit.post (reply.DisableUnits xs ∷ [])) c.from_ref.ensures.value)

pub returns : goal.returns
returns c =
    c.loop-unit.invariant
    ∙ ap (λ xs. written c.args.recipient c.args.post.now (map (λ unit. reply.DisableUnits (unit ∷ [])) xs))
    (take_all c.loop-unit.unit-index c.units-unit-items.result.now (omega (arith, c.loop-unit-test.false)) ∙ c.units-unit-items.ensures)

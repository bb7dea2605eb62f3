use Rattle.std.proofs.Common.{◌≡◌, [], ◌∷◌, map, take}
use Rattle.reply_kinds.specs.declared.Reply.TheVariants as reply
use Rattle.lobby_battles.specs.Recipients.{written}
use Rattle.lobby_battles.proofs.room_lines.write_units.Given as goal

abbrev pub invariant-loop-unit : goal.invariant-loop-unit
invariant-loop-unit l = l.post ≡ written l.recipient l.initial.post (map (λ unit. reply.DisableUnits (unit ∷ [])) (take l.unit-index l.unit-items))

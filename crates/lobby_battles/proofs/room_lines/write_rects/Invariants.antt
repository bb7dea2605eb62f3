use Rattle.std.proofs.Common.{◌≡◌, ◌<◌, length, take}
use Rattle.lobby_battles.specs.Recipients.{written}
use Rattle.lobby_battles.proofs.RoomLines.{rects_told}
use Rattle.lobby_battles.proofs.room_lines.write_rects.Given as goal

abbrev pub invariant-loop-ally : goal.invariant-loop-ally
invariant-loop-ally l = record { all : 0 < l.ally → length l.places ≡ 16; told : l.post ≡ written l.recipient l.initial.post (rects_told (take l.ally l.places)) }

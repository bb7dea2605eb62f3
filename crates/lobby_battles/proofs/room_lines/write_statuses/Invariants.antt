use Rattle.std.proofs.Common.{◌≡◌, map, take}
use Rattle.lobby_model.specs.Battles.{status_line}
use Rattle.lobby_battles.specs.Recipients.{written}
use Rattle.lobby_battles.proofs.room_lines.write_statuses.Given as goal

abbrev pub invariant-loop-member : goal.invariant-loop-member
invariant-loop-member l = l.post ≡ written l.recipient l.initial.post (map status_line (take l.member-index l.member-items))

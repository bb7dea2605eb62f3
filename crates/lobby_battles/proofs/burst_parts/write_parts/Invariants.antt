use Rattle.lobby_battles.specs.OnlineUsers.{plain_user}
use Rattle.lobby_battles.proofs.Newcomer.{Tells, users_lent}
use Rattle.lobby_battles.proofs.burst_parts.write_parts.Given as goal

abbrev pub invariant-loop-user : goal.invariant-loop-user
invariant-loop-user l = Tells l.part l.name (plain_user l.online_user) l.initial.post l.post (users_lent l.yielded) l.is_told

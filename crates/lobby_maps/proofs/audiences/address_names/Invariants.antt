use Rattle.std.proofs.Common.{◌≡◌, take}
use Rattle.lobby_post.specs.Posted.{addressed}
use Rattle.lobby_maps.specs.Fit.{clients_of}
use Rattle.lobby_maps.proofs.audiences.address_names.Given as goal

abbrev pub invariant-loop-i : goal.invariant-loop-i
invariant-loop-i l = l.post ≡ addressed l.initial.post (clients_of l.online.users.entries (take l.i l.names))

use Rattle.std.proofs.Common.{◌≡◌, map, take}
use Rattle.lobby_post.specs.Posted.{addressed}
use Rattle.lobby_maps.specs.Fit.{clients_of}
use Rattle.lobby_maps.proofs.audiences.address_askers.Given as goal

abbrev pub invariant-loop-asker : goal.invariant-loop-asker
invariant-loop-asker l = l.post ≡ addressed l.initial.post (clients_of l.online.users.entries (map (λ a. a.name) (take l.asker-index l.askers)))

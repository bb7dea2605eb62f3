use Rattle.std.proofs.Common.{◌≡◌, map}
use Rattle.std.specs.Map.Iter.{deref}
use Rattle.lobby_post.specs.Posted.{addressed}
use Rattle.lobby_maps.proofs.audiences.address_all.Given as goal

abbrev pub invariant-loop-client : goal.invariant-loop-client
invariant-loop-client l = l.post ≡ addressed l.initial.post (map deref l.yielded)

use Rattle.std.proofs.Common.{◌≡◌, map, take}
use Rattle.lobby_post.specs.Posted.{addressed}
use Rattle.lobby_maps.specs.Fit.{clients_of}
use Rattle.lobby_maps.proofs.audiences.address_members.Given as goal

abbrev pub invariant-loop-member : goal.invariant-loop-member
invariant-loop-member l = l.post ≡ addressed l.initial.post (clients_of l.online.users.entries (map (λ m. m.name) (take l.member-index l.members)))

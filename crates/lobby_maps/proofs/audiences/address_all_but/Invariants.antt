use Rattle.std.proofs.Common.{◌≡◌, map}
use Rattle.std.specs.Prelude.{filter, not, ◌||◌}
use Rattle.std.specs.Map.Iter.{deref}
use Rattle.lobby_post.specs.Posted.{addressed}
use Rattle.lobby_maps.specs.Fit.{is_some_number}
use Rattle.lobby_maps.proofs.audiences.address_all_but.Given as goal

abbrev pub invariant-loop-client : goal.invariant-loop-client
invariant-loop-client l =
    l.post ≡ addressed l.initial.post (filter (λ c. not (is_some_number l.first c || is_some_number l.second c)) (map deref l.yielded))

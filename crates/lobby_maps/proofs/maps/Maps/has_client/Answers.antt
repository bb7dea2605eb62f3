use Rattle.std.proofs.Common.{◌≡◌}
use Rattle.lobby_post.specs.Mail.{plain}
use Rattle.lobby_maps.specs.Dirty.{those_there}
use Rattle.lobby_maps.proofs.Lists.{listed_as, waits_there}
use Rattle.lobby_maps.proofs.maps.Maps.has_client.Goals as goal

pub returns-clause-waiting : goal.returns-clause-waiting
returns-clause-waiting c = rw (← c.self.view_is) (λ home within.
    listed_as (λ list other. those_there (plain c.self.inside.clients.slots) list ≡ list) c.self.inside.clients c.self.inside.clients home within
    (waits_there c.self.inside.clients home))

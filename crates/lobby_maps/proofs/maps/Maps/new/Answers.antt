use Rattle.std.proofs.Common.{◌∙◌}
use Rattle.lobby_maps.proofs.Lists.{list_at, none_wait}
use Rattle.lobby_maps.proofs.maps.Maps.new.Goals as goal

pub returns-clause-dirty : goal.returns-clause-dirty
returns-clause-dirty c = λ home within. list_at c.new.result home within ∙ none_wait c.new.result home c.new.ensures.nobody

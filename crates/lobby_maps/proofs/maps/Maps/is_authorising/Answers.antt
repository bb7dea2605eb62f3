use Rattle.std.proofs.Common.{◌∙◌, ap}
use Rattle.line_words.specs.Table.{at_name}
use Rattle.lobby_model.specs.State.{State}
use Rattle.lobby_model.specs.Battles.{is_authorising}
use Rattle.lobby_maps.proofs.Plain.{plainly}
use Rattle.lobby_maps.proofs.maps.Maps.is_authorising.Goals as goal

pub returns : goal.returns
returns c = c.is_authorising.ensures ∙ ap (λ (s : State). is_authorising (at_name s.users c.args.name.now)) (plainly c.self.view_is)

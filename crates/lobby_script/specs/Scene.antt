-- What a script has come to.
use Rattle.std.specs.Prelude.{Bool, true, false, not, ◌&&◌, List, [], ◌∷◌, is_some}
use Rattle.lobby_model.specs.declared.event.Event.{Event}
use Rattle.line_words.specs.Table.{ByNumber, at_number}
use Rattle.lobby_model.specs.Schedule.{World, new_world}
use Rattle.lobby_script.specs.declared.action.Action.{Action}
use Rattle.lobby_script.specs.declared.action.Action.TheVariants as action
use Rattle.lobby_script.specs.declared.label.Label.{Label}
use Rattle.lobby_script.specs.Prepared.{Prepared, can_be_set}

-- What was set, the world with all its events, and the clients by label
pub record Scene : Type 0 where
  pub prepared : Prepared
  pub world : World
  pub events : List Event
  pub labels : ByNumber Label

-- with this set, before the first open
abbrev pub unopened : Prepared → Scene
unopened prepared = record {
  prepared = prepared;
  world = new_world prepared.settings prepared.accounts;
  events = [];
  labels = [];
}

abbrev pub has_no_label : ByNumber Label → Bool
has_no_label [] = true
has_no_label (entry ∷ labels) = false

-- What is set stands before the first open; a label is opened once, and everything else is for one that was opened
abbrev pub is_allowed : Scene → Action → Bool
is_allowed s (action.Set setting) = has_no_label s.labels && can_be_set s.prepared setting
is_allowed s (action.Open label ip) = not (is_some (at_number s.labels label))
is_allowed s (action.Client label order) = is_some (at_number s.labels label)

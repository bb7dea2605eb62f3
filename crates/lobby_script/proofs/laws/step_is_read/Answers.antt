use Rattle.std.proofs.Common.{List, ℕ}
use Rattle.record_lines.specs.Steps.{Step, Open, Send, Take, Read, Shut, SaysStep}
use Rattle.lobby_script.specs.Actions.{Says, action_of}
use Rattle.lobby_script.proofs.OneAction.{says_same}
use Rattle.lobby_script.proofs.laws.step_is_read.Goals as goal

says : (line : List ℕ) (step : Step) → SaysStep line step → Says line (action_of step)
says line (Open label ip) h = record { rest = h.rest; whole = h.whole; arguments = h.arguments }
says line (Send label bytes) h = record { rest = h.rest; whole = h.whole; arguments = h.arguments }
says line (Take label) h = record { rest = h.rest; whole = h.whole; arguments = h.arguments }
says line (Read label count) h = record { rest = h.rest; whole = h.whole; arguments = h.arguments }
says line (Shut label) h = record { rest = h.rest; whole = h.whole; arguments = h.arguments }

pub returns-clause-says : goal.returns-clause-says
returns-clause-says c = says

pub returns-clause-only : goal.returns-clause-only
returns-clause-only c = λ line step action written said. says_same line action (action_of step) said (says line step written)

use Rattle.std.proofs.Common.{[], ◌∷◌}
use Rattle.record_lines.specs.Escapes.{line_feed, tab, carriage_return, backslash}
use Rattle.lobby_script.proofs.escapes.escaped_byte.Goals as goal

pub returns-in-110-clause-sound : goal.returns-in-110-clause-sound
returns-in-110-clause-sound c = (92 ∷ 110 ∷ [], line_feed, let h = c.in_ok-letter.ensures.cases.0 in cc)

pub returns-in-116-clause-sound : goal.returns-in-116-clause-sound
returns-in-116-clause-sound c = (92 ∷ 116 ∷ [], tab, let h = c.in_ok-letter.ensures.cases.0 in cc)

pub returns-in-114-clause-sound : goal.returns-in-114-clause-sound
returns-in-114-clause-sound c = (92 ∷ 114 ∷ [], carriage_return, let h = c.in_ok-letter.ensures.cases.0 in cc)

pub returns-in-92-clause-sound : goal.returns-in-92-clause-sound
returns-in-92-clause-sound c = (92 ∷ 92 ∷ [], backslash, let h = c.in_ok-letter.ensures.cases.0 in cc)

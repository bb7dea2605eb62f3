use Rattle.std.proofs.Common.{◌≡◌, ℕ, List, ◌++◌, length}
use Rattle.std.specs.Io.KnownBytes.{Appends}
use Rattle.lobby_script.specs.Lines.{lines_of, lines_left}
use Rattle.lobby_script.specs.Scene.{Scene}
use Rattle.lobby_script.specs.Script.{PlaysTo}
use Rattle.lobby_script.specs.Player.{IsAt}
use Rattle.lobby_script.proofs.script.play_lines.Given as goal

-- the lines so far play, and what they show is written
abbrev pub invariant-loop-line : goal.invariant-loop-line
invariant-loop-line g l = record {
  next : (goal.iterator-loop-line g).can_next l.line-iterator;
  ends : (goal.iterator-loop-line g).is_finite l.line-iterator;
  played : (front : List (List ℕ)) × (lines_of l.script ≡ front ++ lines_left l.line-iterator.rest) × (l.number ≡ length front)
      × ((out : List ℕ) × (scene : Scene) × PlaysTo front out scene × IsAt l.player scene × Appends (g.W.Write.contents l.initial.writer) (g.W.Write.contents l.writer) out);
}

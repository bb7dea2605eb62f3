use Rattle.std.proofs.Common.{◌-◌, length}
use Rattle.record_play.specs.Replays.{GoesOn}
use Rattle.record_play.proofs.replay.Replay.play_until.Given as goal

abbrev pub invariant-loop-line : goal.invariant-loop-line
invariant-loop-line l = GoesOn l.place l.fn.self l.self

abbrev pub decreases-loop-line : goal.decreases-loop-line
decreases-loop-line l = length l.self.lines.items - l.self.played

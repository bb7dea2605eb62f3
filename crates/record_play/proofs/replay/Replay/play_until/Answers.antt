use Rattle.record_play.proofs.Played.{goes_more, none_before, on_ok}
use Rattle.record_play.proofs.replay.Replay.play_until.Goals as goal

pub loop-line-preserved : goal.loop-line-preserved
loop-line-preserved c =
    goes_more c.args.place c.args.self.now c.loop-line.self c.in-Some.line c.play_next.new.self c.loop-line.invariant c.in-Some.ensures.some.1
    c.in-Some.ensures.some.0 c.in_ok-play_next.ensures.ok

pub returns-clause-all : goal.returns-clause-all
returns-clause-all c =
    let replay = c.loop-line.self in
    on_ok c.ends_before.result
    (λ rises. none_before c.args.place 0 0 replay.lines.items replay.missing replay.played rises c.in_default.ensures.none)

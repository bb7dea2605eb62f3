use Rattle.std.proofs.Common.{◌+◌, ◌-◌, arith, length, drop, length-drop}
use Rattle.std.proofs.lemmas.List.{take_all}
use Rattle.record_play.proofs.Left.{lacks_from}
use Rattle.record_play.proofs.order.last_line.Goals.{in-Some, in-None}
use Rattle.record_play.proofs.order.last_line.Goals as goal

pub returns-clause-rest : goal.returns-clause-rest
returns-clause-rest c =
    let text = c.args.text.now in elim c.match-memrchr.branch [
      | in-Some w ↦
          let at = w.in-Some.at in
          let last = w.in-Some.ensures in
          let all = take_all (length text - (at + 1)) (drop (at + 1) text) (omega (arith, length-drop (at + 1) text)) in
          rw (w.start-is, all) (lacks_from 10 (at + 1) text (omega (arith, last.0.high)) last.0.after)
      | in-None w ↦
          let all = take_all (length text - 0) (drop 0 text) (omega (arith, length-drop 0 text)) in
          rw (w.start-is, all) (lacks_from 10 0 text (omega arith) w.in-None.ensures)
    ]

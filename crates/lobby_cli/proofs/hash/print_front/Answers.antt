use Rattle.std.proofs.Common.{◌≤◌, take, drop, length, arith, subst, sym, length-drop}
use Rattle.std.proofs.lemmas.List.{take_rest}
use Rattle.std.specs.Io.KnownBytes.{Appends}
use Rattle.lobby_cli.proofs.Known.{Appends-more, Appends-Keeps}
use Rattle.lobby_cli.proofs.hash.print_front.Goals as goal
use Rattle.lobby_cli.proofs.hash.print_front.Goals.{in-Ok, in-Err}

pub loop-preserved : goal.loop-preserved
loop-preserved g c =
    let left = length-drop c.loop.written c.args.text.now in
    elim c.match-write.branch [
      | in-Ok w ↦
          let rest = take_rest c.args.text.now c.loop.written in
          let gained = subst (λ part. Appends (g.W.Write.contents c.loop.output)
          (g.W.Write.contents c.write.new.self)
          (take w.in-Ok.count part)) rest w.in-Ok.ensures.bytes in
          let fits : w.in-Ok.count ≤ length (drop c.loop.written c.args.text.now) =
          subst (λ part. w.in-Ok.count ≤ length part) rest w.in-Ok.ensures.bound in (
            omega (arith, w.written-is),
            subst (λ n. Appends (g.W.Write.contents c.args.output.now)
                (g.W.Write.contents c.write.new.self) (take n c.args.text.now)) (sym w.written-is)
                (Appends-more _ _ _ c.args.text.now c.loop.written w.in-Ok.count c.loop.invariant.1 gained),
          )
      | in-Err w ↦ (
        omega (arith, w.written-is),
        subst (λ n. Appends (g.W.Write.contents c.args.output.now)
            (g.W.Write.contents c.write.new.self) (take n c.args.text.now)) (sym w.written-is)
            (Appends-Keeps _ _ _ _ c.loop.invariant.1 w.in-Err.ensures.bytes),
      )
    ]

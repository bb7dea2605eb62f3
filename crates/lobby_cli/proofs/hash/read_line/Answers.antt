use Rattle.std.proofs.Common.{◌≤◌, ◌∙◌, sym, take, length, arith, length-take}
use Rattle.std.proofs.lemmas.List.{take-take}
use Rattle.lobby_cli.proofs.Lines.{begins_ended, begins_whole, begins_longer}
use Rattle.lobby_cli.proofs.hash.read_line.Goals as goal

pub returns-in-Byte-eq10 : goal.returns-in-Byte-eq10
returns-in-Byte-eq10 g c =
    let front = length-take c.loop.len c.loop.line in
    let within : c.len_without_return.result ≤ c.loop.len = omega arith in
    let shorn = sym (take-take c.len_without_return.result c.loop.len c.loop.line within)
    ∙ c.len_without_return.ensures.line in (
      omega arith,
      begins_ended (g.R.Read.remaining c.args.input.now) _ _
          (take c.loop.len c.loop.line) _ _ 8192 c.loop.invariant.2 c.loop.invariant.3
          c.in-Byte-eq10.ensures c.in-Byte-eq10.field-0-test (omega arith) shorn,
    )

pub returns-in-Byte : goal.returns-in-Byte
returns-in-Byte g c =
    let front = length-take c.loop.len c.loop.line in
    let full : 8192 ≤ length (take c.loop.len c.loop.line) =
    omega (arith, c.told-line, c.loop.invariant.1) in
    begins_longer (g.R.Read.remaining c.args.input.now) _ _
    (take c.loop.len c.loop.line) c.in-Byte.field-0 8192 c.loop.invariant.2 c.loop.invariant.3
    c.in-Byte.ensures c.in-Byte.field-0-test.1 full

pub returns-in-End : goal.returns-in-End
returns-in-End g c =
    let front = length-take c.loop.len c.loop.line in (
      omega arith,
      begins_whole (g.R.Read.remaining c.args.input.now) _
          (take c.loop.len c.loop.line) 8192 c.loop.invariant.2 c.loop.invariant.3 c.in-End.ensures (omega arith),
    )

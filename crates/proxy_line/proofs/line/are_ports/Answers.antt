use Rattle.std.proofs.Common.{refl, sym, ◌∙◌}
use Rattle.std.proofs.lemmas.Bool.{false≢true}
use Rattle.proxy_line.proofs.Texts.{ports_round}
use Rattle.proxy_line.proofs.line.are_ports.Goals as goal

pub returns-then-is_port : goal.returns-then-is_port
returns-then-is_port c =
    let parts = c.in-Some.ensures in (
      λ second. (c.in-Some.source.now, c.in-Some.destination.now, parts.whole, c.if-is_port.ensures.0 refl, c.is_port-then-is_port.ensures.0 second),
      λ are. c.is_port-then-is_port.ensures.1 (ports_round c.args.text.now c.in-Some.source.now c.in-Some.destination.now parts are).1,
    )

pub returns-else-is_port : goal.returns-else-is_port
returns-else-is_port c = (
  λ first. absurd (false≢true (sym c.if-is_port.false ∙ first)),
  λ are. c.is_port.ensures.1 (ports_round c.args.text.now c.in-Some.source.now c.in-Some.destination.now c.in-Some.ensures are).0,
)

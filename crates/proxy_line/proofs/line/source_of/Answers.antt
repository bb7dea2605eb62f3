use Rattle.std.proofs.Common.{ap, refl, sym, subst, Some}
use Rattle.std.proofs.lemmas.Bool.{false≢true}
use Rattle.proxy_line.proofs.Readings.{finds_none}
use Rattle.proxy_line.specs.Routes.{ArePorts, IsRoute, LeadsWithAddress}
use Rattle.proxy_line.proofs.line.source_of.Goals as goal

pub returns-in_err-source : goal.returns-in_err-source
returns-in_err-source c =
    rw c.from_residual.ensures (finds_none (IsRoute c.args.route.now) (λ source is. c.in_err-source.ensures.complete source is.0 is.3))

pub returns-in_err-ports : goal.returns-in_err-ports
returns-in_err-ports c =
    rw c.from_residual-in_err-ports.ensures (finds_none (IsRoute c.args.route.now) (λ source is.
    let behind = (c.in_ok-source.ensures.complete source is.0 is.3).1 in
    c.in_err-ports.ensures.complete is.1 is.2 (subst (λ rest. LeadsWithAddress rest is.1 is.2) (sym behind) is.4)))

pub returns-then-are_ports : goal.returns-then-are_ports
returns-then-are_ports c = record {
  sound = (c.in_ok-source.rest.now, c.in_ok-ports.field-0-0, c.in_ok-ports.ports.now, c.in_ok-source.ensures.sound, c.in_ok-ports.ensures.sound, c.if-are_ports.ensures.0 refl);
  complete = λ source is. ap Some (c.in_ok-source.ensures.complete source is.0 is.3).0;
}

pub returns-else-are_ports : goal.returns-else-are_ports
returns-else-are_ports c = finds_none (IsRoute c.args.route.now) (λ source is.
    let behind = (c.in_ok-source.ensures.complete source is.0 is.3).1 in
    let ports = (c.in_ok-ports.ensures.complete is.1 is.2 (subst (λ rest. LeadsWithAddress rest is.1 is.2) (sym behind) is.4)).1 in
    false≢true (c.if-are_ports.ensures.1 (subst ArePorts (sym ports) is.5)))

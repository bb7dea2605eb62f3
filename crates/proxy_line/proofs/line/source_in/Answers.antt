use Rattle.std.proofs.Common.{Some, None, sym, ◌∙◌, inl, inr, drop}
use Rattle.std.specs.Prelude.{codes}
use Rattle.std.proofs.lemmas.Bool.Decides.{Decides-eqb}
use Rattle.std.proofs.lemmas.Slice.Eq.{strip_prefix_is, starts_is, bytes_eq-Decides}
use Rattle.proxy_line.proofs.Sources.{of_route, of_unknown}
use Rattle.proxy_line.proofs.line.source_in.Goals.{then-eq, else-eq}
use Rattle.proxy_line.proofs.line.source_in.Goals as goal

pub returns-in_err-source_of : goal.returns-in_err-source_of
returns-in_err-source_of c =
    let begins = strip_prefix_is Decides-eqb c.args.text.now (codes "PROXY TCP4 ") (Some c.in-Some.route) c.in-Some.ensures.cases in
    rw c.from_residual.ensures (of_route c.args.text.now c.in-Some.route.now begins None c.in_err-source_of.ensures)

pub returns-in-Some : goal.returns-in-Some
returns-in-Some c =
    let begins = strip_prefix_is Decides-eqb c.args.text.now (codes "PROXY TCP4 ") (Some c.in-Some.route) c.in-Some.ensures.cases in
    of_route c.args.text.now c.in-Some.route.now begins (Some c.in_ok-source_of.field-0) c.in_ok-source_of.ensures

pub returns-then-starts_with : goal.returns-then-starts_with
returns-then-starts_with c =
    let other = strip_prefix_is Decides-eqb c.args.text.now (codes "PROXY TCP4 ") None c.in_default.ensures.cases in
    of_unknown c.args.text.now other (elim c.if-eq.branch [
      | then-eq w ↦ inl ((bytes_eq-Decides c.args.text.now c.as_slice.result.now).0 (sym w.if-eq.ensures) ∙ c.as_slice.ensures)
      | else-eq w ↦
          let begins = (starts_is Decides-eqb c.args.text.now (codes "PROXY UNKNOWN ") w.starts_with.result w.starts_with.ensures.value).0 in
          inr (drop 14 c.args.text.now, begins (sym w.value-is ∙ c.if-starts_with.true))
    ])

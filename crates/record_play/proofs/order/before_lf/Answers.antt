use Rattle.std.proofs.lemmas.Bool.Decides.{Decides-eqb}
use Rattle.std.proofs.lemmas.Slice.Eq.{strip_suffix_is}
use Rattle.record_play.proofs.Left.{lf_parted, lf_missing}
use Rattle.record_play.proofs.order.before_lf.Goals as goal

pub returns-clause-some : goal.returns-clause-some
returns-clause-some c =
    let lf = c.as_slice.result.now in
    lf_parted c.args.lines.now lf c.strip_suffix.result c.as_slice.ensures
    (strip_suffix_is Decides-eqb c.args.lines.now lf c.strip_suffix.result c.strip_suffix.ensures.cases)

pub returns-clause-none : goal.returns-clause-none
returns-clause-none c =
    let lf = c.as_slice.result.now in
    lf_missing c.args.lines.now lf c.strip_suffix.result c.as_slice.ensures
    (strip_suffix_is Decides-eqb c.args.lines.now lf c.strip_suffix.result c.strip_suffix.ensures.cases)

use Rattle.std.proofs.Common.{◌∙◌}
use Rattle.lobby_script.specs.Acts.{labelled}
use Rattle.lobby_script.proofs.Shown.{line_labelled, none_labelled, written_more, written_all}
use Rattle.lobby_script.proofs.show.write_lines.Goals as goal

pub loop-line-preserved : goal.loop-line-preserved
loop-line-preserved g c =
    let line = c.in-Some.line.now in
    let name = c.as_bytes-name.ensures.value ∙ c.format.ensures.text in
    let wrote = rw name at c.in_ok-write_line.ensures in
    let so_far = c.loop-line.invariant in
    let more = written_more _ _ _ so_far.0 _ _ _ _ so_far.1 wrote so_far.2 (line_labelled c.args.label c.loop-line.rest.now line c.in-Some.behind.now c.in-Some.ensures) in
    (_, more.0, more.1)

pub returns : goal.returns
returns g c =
    let so_far = c.loop-line.invariant in
    written_all _ _ so_far.0 _ (labelled c.args.label c.loop-line.rest.now) so_far.1 so_far.2 (none_labelled c.args.label c.loop-line.rest.now c.in_default.ensures)

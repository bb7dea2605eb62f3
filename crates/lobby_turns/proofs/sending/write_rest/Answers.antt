use Rattle.std.proofs.Common.{[], ◌++◌, take, drop, refl, sym, ap, ◌∙◌}
use Rattle.std.proofs.lemmas.List.{take-append-drop}
use Rattle.lobby_holds.specs.Wire.{and_more}
use Rattle.lobby_holds.specs.Snapshot.{Carried}
use Rattle.lobby_holds.proofs.Parts.{went_written, nothing_sent}
use Rattle.lobby_turns.proofs.sending.write_rest.Goals as goal

pub returns-in-Took-clause-went : goal.returns-in-Took-clause-went
returns-in-Took-clause-went g c = λ others pass.
    let rest = c.rest-rest.result.now in
    let n = c.in-Took.count in
    let new = c.count_written.ensures in
    went_written others c.args.conn.now c.count_written.new.self _ _ pass (take n rest)
    (ap (λ (x : Carried). x.session) new)
    (ap (λ (x : Carried). x.unfed) new)
    (sym c.rest-rest.ensures
    ∙ sym (take-append-drop n rest)
    ∙ ap (λ l. take n rest ++ l) (ap (drop n) c.rest-rest.ensures ∙ sym (ap (λ (x : Carried). x.unwritten) new)))
    c.in-Took.ensures.written
    c.in-Took.ensures.read

pub returns-in_default-clause-went : goal.returns-in_default-clause-went
returns-in_default-clause-went g c = λ others pass.
    went_written others c.args.conn.now c.args.conn.now _ _ pass [] refl refl refl
    (c.write-sent.ensures.written ∙ ap (λ n. and_more (g.L.Link.wire c.args.link.now).written (take n c.rest-rest.result.now)) (nothing_sent c.write-sent.result c.in_default.not-Took))
    c.write-sent.ensures.read

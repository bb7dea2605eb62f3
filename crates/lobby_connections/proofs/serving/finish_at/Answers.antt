use Rattle.std.proofs.Common.{◌≡◌, rules, refl}
use Rattle.std.specs.Prelude.{Some}
use Rattle.slab.specs.Slab.{get}
use Rattle.lobby_connections.proofs.Notes.{kept}
use Rattle.lobby_connections.proofs.Standings.{finishes_on, serves_found, serves_lent}
use Rattle.lobby_connections.proofs.serving.finish_at.Goals as goal

pub returns-clause-notes : goal.returns-clause-notes
returns-clause-notes g c =
    let found : get c.args.seats.now c.args.key ≡ Some c.in-Some.seat.now = search rules in
    kept c.args.seats.now c.args.key c.in-Some.seat.now _ found refl

pub returns-clause-serves : goal.returns-clause-serves
returns-clause-serves g c = λ start most.
    let found : get c.args.seats.now c.args.key ≡ Some c.in-Some.seat.now = search rules in
    let s = c.serve_or_shut-pass in
    serves_found start c.args.seats.now c.args.pass s.result.0 most c.args.key _ _ c.in-Some.seat.now _ found
    (serves_lent start c.in-Some.seat.now.connection c.lend.new.self c.args.pass _ s.result.0 most _ _ c.lend.ensures
    (finishes_on start _ _ c.args.pass s.result.0 most c.args.progress _ s.ensures.serves s.ensures.had))

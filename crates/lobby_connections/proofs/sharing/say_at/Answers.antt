use Rattle.std.proofs.Common.{◌≡◌, rules, refl}
use Rattle.std.specs.Prelude.{Some}
use Rattle.slab.specs.Slab.{get}
use Rattle.lobby_lock.specs.Passes.{pass_after}
use Rattle.lobby_connections.proofs.Notes.{kept}
use Rattle.lobby_connections.proofs.Standings.{says_on, serves_found}
use Rattle.lobby_connections.proofs.sharing.say_at.Goals as goal

pub returns-clause-notes : goal.returns-clause-notes
returns-clause-notes g c =
    let found : get c.args.seats.now c.args.key ≡ Some c.in-Some.seat.now = search rules in
    kept c.args.seats.now c.args.key c.in-Some.seat.now _ found refl

pub returns-clause-says : goal.returns-clause-says
returns-clause-says g c = λ start most few.
    let found : get c.args.seats.now c.args.key ≡ Some c.in-Some.seat.now = search rules in
    let s = c.share_hold in
    serves_found start c.args.seats.now (pass_after c.args.held.now) (pass_after s.new.held) most c.args.key _ _ c.in-Some.seat.now _ found
    (says_on start c.in-Some.seat.now.connection _ (pass_after c.args.held.now) (pass_after s.new.held) most c.args.allowance c.args.progress s.result few refl refl s.ensures.allowance s.ensures.serves s.ensures.shares)

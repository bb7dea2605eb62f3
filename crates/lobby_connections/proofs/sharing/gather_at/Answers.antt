use Rattle.std.proofs.Common.{◌≡◌, rules, refl}
use Rattle.std.specs.Prelude.{Some}
use Rattle.slab.specs.Slab.{get}
use Rattle.lobby_connections.proofs.Notes.{kept}
use Rattle.lobby_connections.proofs.sharing.gather_at.Goals as goal

pub returns-clause-notes : goal.returns-clause-notes
returns-clause-notes g c =
    let found : get c.args.seats.now c.args.key ≡ Some c.in-Some.seat.now = search rules in
    kept c.args.seats.now c.args.key c.in-Some.seat.now _ found refl

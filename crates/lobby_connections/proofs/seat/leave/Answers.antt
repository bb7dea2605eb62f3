use Rattle.std.proofs.Common.{◌≡◌, rules, refl}
use Rattle.std.specs.Prelude.{Some}
use Rattle.slab.specs.Slab.{get}
use Rattle.lobby_connections.proofs.Notes.{wrote}
use Rattle.lobby_connections.specs.Claims.{left_over}
use Rattle.lobby_connections.proofs.seat.leave.Goals as goal

pub returns-in-Some : goal.returns-in-Some
returns-in-Some c =
    let found : get c.args.seats.now c.args.key ≡ Some c.in-Some.seat.now = search rules in
    wrote c.args.seats.now c.args.key c.in-Some.seat.now _ left_over found refl

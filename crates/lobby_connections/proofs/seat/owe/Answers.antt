use Rattle.std.proofs.Common.{◌≡◌, rules, refl}
use Rattle.std.specs.Prelude.{Some}
use Rattle.slab.specs.Slab.{get}
use Rattle.lobby_connections.proofs.Notes.{wrote}
use Rattle.lobby_connections.specs.Claims.{owing}
use Rattle.lobby_connections.proofs.seat.owe.Goals as goal

pub returns-in-Some : goal.returns-in-Some
returns-in-Some c =
    let found : get c.args.seats.now c.args.key ≡ Some c.in-Some.seat.now = search rules in
    wrote c.args.seats.now c.args.key c.in-Some.seat.now _ owing found refl

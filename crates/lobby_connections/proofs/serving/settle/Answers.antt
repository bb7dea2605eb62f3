use Rattle.std.proofs.Common.{◌≡◌, rules}
use Rattle.std.specs.Prelude.{Some}
use Rattle.slab.specs.Slab.{get}
use Rattle.lobby_connections.proofs.Standings.{same_lent}
use Rattle.lobby_connections.proofs.serving.settle.Goals as goal

pub returns-in-Some : goal.returns-in-Some
returns-in-Some c =
    let found : get c.args.seats.now c.args.key ≡ Some c.in-Some.seat.now = search rules in
    same_lent c.args.seats.now c.args.key c.in-Some.seat.now c.settle.new.self c.settle.ensures found

use Rattle.std.proofs.Common.{◌≡◌, ◌∙◌, ap, true, false}
use Rattle.std.specs.Prelude.{Bool, List, Option, Some, None, if◌then◌else◌, is_some}
use Rattle.battle_room.specs.declared.error.RoomError.{RoomError}
use Rattle.battle_room.specs.declared.error.RoomError.TheVariants.{NoRequest}
use Rattle.room_lists.specs.Room as room
use Rattle.battle_room.proofs.Named.{found_is_among, all_left}
use Rattle.battle_room.proofs.room.Room.take_ask.Goals as goal

abbrev refusal : Bool → Option RoomError
refusal asks = if asks then None else Some NoRequest

pub returns-in-Some-clause-refused : goal.returns-in-Some-clause-refused
returns-in-Some-clause-refused g c =
    let asks : true ≡ room.has_asker c.args.name.now c.args.self.now =
    ap (λ (o : Option room.Asker). is_some o) c.in-Some.ensures.given ∙ found_is_among (λ (a : room.Asker). a.name) c.args.name.now c.args.self.now.askers in
    ap refusal asks

pub returns-in-None-clause-refused : goal.returns-in-None-clause-refused
returns-in-None-clause-refused g c =
    let asks : false ≡ room.has_asker c.args.name.now c.args.self.now =
    ap (λ (o : Option room.Asker). is_some o) c.in-None.ensures.given ∙ found_is_among (λ (a : room.Asker). a.name) c.args.name.now c.args.self.now.askers in
    ap refusal asks

pub returns-in-None-clause-err : goal.returns-in-None-clause-err
returns-in-None-clause-err g c =
    c.remove_asker.ensures.rest
    ∙ ap (λ (askers : List room.Asker). record c.args.self.now { askers = askers }) (all_left (λ (a : room.Asker). a.name) c.args.name.now c.args.self.now.askers c.in-None.ensures.given)

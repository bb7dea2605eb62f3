use Rattle.std.proofs.Common.{◌∙◌, ap, sym}
use Rattle.std.specs.Prelude.{ℕ, List, map}
use Rattle.std.proofs.lemmas.List.{map-id}
use Rattle.room_lists.specs.Room as room
use Rattle.room_lists.proofs.Indexed.{names_same}
use Rattle.battle_room.proofs.members.Members.names.Goals as goal

pub returns : goal.returns
returns g c =
    c.as_slice.ensures ∙ c.keys.ensures.rest ∙ sym (map-id _)
    ∙ names_same (λ (name : List ℕ). name) (λ (m : room.Member). m.name) c.self.inside.by_name.entries c.self.invariant.0
    ∙ ap (map (λ (m : room.Member). m.name)) c.self.view_is

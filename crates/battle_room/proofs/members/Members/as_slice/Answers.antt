use Rattle.std.proofs.Common.{◌∙◌, ap, sym, subst}
use Rattle.std.specs.Prelude.{ℕ, List, map}
use Rattle.std.specs.List.{IsDistinct}
use Rattle.std.specs.Map.{values_of}
use Rattle.line_words.specs.Table.{same_name}
use Rattle.room_lists.specs.Room as room
use Rattle.room_lists.proofs.Indexed.{distinct_values}
use Rattle.battle_room.proofs.members.Members.as_slice.Goals as goal

pub returns-clause-distinct : goal.returns-clause-distinct
returns-clause-distinct g c =
    subst (λ (ms : List room.Member). IsDistinct same_name (map (λ m. m.name) ms)) (sym (c.as_slice-2.ensures ∙ c.values.ensures.rest ∙ ap values_of c.as_slice.ensures.entries))
    (distinct_values (λ (name : List ℕ). name) (λ (m : room.Member). m.name) c.self.inside.by_name.entries c.self.invariant.0 c.as_slice.ensures.unique)

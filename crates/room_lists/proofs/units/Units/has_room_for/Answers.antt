use Rattle.std.proofs.Common.{◌∙◌, ap, not, length}
use Rattle.std.specs.Prelude.{ℕ, List, nat_lt}
use Rattle.room_lists.specs.Units.{with_units}
use Rattle.room_lists.proofs.Listed.{with_units_are}
use Rattle.room_lists.proofs.units.Units.has_room_for.Goals as goal

pub returns : goal.returns
returns c =
    c.has_room_for.ensures
    ∙ ap (λ (us : List (List ℕ)). not (nat_lt 1024 (length us)))
    (with_units_are c.self.inside.units c.args.words.now ∙ ap (λ (us : List (List ℕ)). with_units us c.args.words.now) c.self.view_is)

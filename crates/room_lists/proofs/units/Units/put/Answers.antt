use Rattle.std.proofs.Common.{◌≡◌, ◌∙◌, ap, subst}
use Rattle.std.specs.Prelude.{ℕ, List, OnOk}
use Rattle.room_lists.specs.Units.{with_units}
use Rattle.room_lists.proofs.Listed.{with_units_are}
use Rattle.room_lists.proofs.units.Units.put.Goals as goal

pub returns-clause-ok : goal.returns-clause-ok
returns-clause-ok c =
    subst (λ (us : List (List ℕ)). OnOk c.put.result (c.put.new.self ≡ us))
    (with_units_are c.self.inside.units c.into_vec.result.items
    ∙ ap (λ (us : List (List ℕ)). with_units us c.into_vec.result.items) c.self.view_is ∙ ap (with_units c.args.self.now) c.into_vec.ensures)
    c.put.ensures.ok

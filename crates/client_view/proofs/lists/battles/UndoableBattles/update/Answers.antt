use Rattle.std.proofs.Common.{w64, ℤ, subst}
use Rattle.std.proofs.lemmas.Int.{to_z-of_z}
use Rattle.std.specs.Prelude.{OnOk}
use Rattle.line_words.specs.Table.{ByNumber, change_number}
use Rattle.noted_map.specs.Undoable.{Undoable, Changes}
use Rattle.lobby_model.specs.State.{updated}
use Rattle.lobby_view.specs.View.{Listed, change_listed_info}
use Rattle.client_view.specs.Battles.{with_update}
use Rattle.client_view.specs.declared.lists.battles.Update.{Update}
use Rattle.client_view.proofs.lists.battles.UndoableBattles.update.Goals as goal

pub returns-clause-ok : goal.returns-clause-ok
returns-clause-ok c =
    subst (λ (z : ℤ). OnOk c.edit.result
    (Changes (λ battles. change_number battles c.args.number (change_listed_info (updated c.args.spectators c.args.locked z c.args.map))) c.args.self.now c.edit.new.self)) (to_z-of_z w64 c.args.map_hash c.ranges.map_hash)
    (subst (λ (update : Update). OnOk c.edit.result (Changes (λ battles. change_number battles c.args.number (with_update update)) c.args.self.now c.edit.new.self)) c.of-update.ensures
    (subst (λ (old : Undoable (ByNumber Listed)). OnOk c.edit.result (Changes (λ battles. change_number battles c.args.number (with_update c.of-update.result)) old c.edit.new.self))
    c.self.view_is c.edit.ensures.ok))

use Rattle.std.proofs.Common.{◌∙◌, sym, ap}
use Rattle.std.proofs.lemmas.Result.{IfOk-weaker}
use Rattle.std.specs.Prelude.{is_some, option_copied}
use Rattle.line_words.specs.Table.{same_name}
use Rattle.line_words.proofs.Tables.{same_name_is}
use Rattle.room_lists.specs.Room.{Asker, has_asker}
use Rattle.battle_room.proofs.Named.{found_is_among}
use Rattle.lobby_model.specs.State.{Battle}
use Rattle.battle_rules.proofs.Obeying.{found_passes}
use Rattle.battle_rules.proofs.battle_guards.asker_named.Goals as goal

pub returns-clause-name : goal.returns-clause-name
returns-clause-name c =
    IfOk-weaker c.or_refuse.result _ _ (λ asker is.
    sym (same_name_is c.args.name.now asker.now.name
    (found_passes (λ (a : Asker). same_name c.args.name.now a.name) c.battle.inside.room.askers asker.now
    (sym c.asker.ensures ∙ ap option_copied is)))) c.or_refuse.ensures.ok

pub returns-clause-has : goal.returns-clause-has
returns-clause-has c =
    IfOk-weaker c.or_refuse.result _ _ (λ asker is.
    ap (λ (b : Battle). has_asker c.args.name.now b.room) (sym c.battle.view_is)
    ∙ sym (found_is_among (λ (a : Asker). a.name) c.args.name.now c.battle.inside.room.askers)
    ∙ ap is_some (sym c.asker.ensures ∙ ap option_copied is)) c.or_refuse.ensures.ok

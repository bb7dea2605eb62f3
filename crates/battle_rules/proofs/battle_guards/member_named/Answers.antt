use Rattle.std.proofs.Common.{◌∙◌, refl, sym, ap}
use Rattle.std.proofs.lemmas.Result.{IfErr-weaker, IfOk-weaker}
use Rattle.std.specs.Prelude.{is_some, option_copied}
use Rattle.lobby_model.specs.State.{Battle}
use Rattle.room_lists.specs.Room.{Member, has_member}
use Rattle.battle_room.proofs.Named.{found_is_among}
use Rattle.battle_rules.proofs.battle_guards.member_named.Goals as goal

pub returns-clause-has : goal.returns-clause-has
returns-clause-has c =
    IfOk-weaker c.or_refuse.result _ _ (λ member is.
    ap (λ (b : Battle). has_member c.args.name.now b.room) (sym c.battle.view_is)
    ∙ sym (found_is_among (λ (m : Member). m.name) c.args.name.now c.battle.inside.room.members)
    ∙ ap is_some (sym c.member.ensures ∙ ap option_copied is)) c.or_refuse.ensures.ok

pub returns-clause-err : goal.returns-clause-err
returns-clause-err c =
    IfErr-weaker c.or_refuse.result _ _ (λ why because. rw because.0 (
      refl,
      ap (λ (b : Battle). has_member c.args.name.now b.room) (sym c.battle.view_is)
          ∙ sym (found_is_among (λ (m : Member). m.name) c.args.name.now c.battle.inside.room.members)
          ∙ ap is_some (sym c.member.ensures ∙ ap option_copied because.1),
    )) c.or_refuse.ensures.err

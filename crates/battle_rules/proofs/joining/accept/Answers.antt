use Rattle.std.proofs.Common.{◌∙◌, ap}
use Rattle.line_words.specs.Table.{same_name}
use Rattle.lobby_model.specs.State.{name_of}
use Rattle.lobby_model.specs.Outcome.{is_named}
use Rattle.battle_rules.proofs.Founders.{other_than}
use Rattle.battle_rules.proofs.InBattles.{is_member}
use Rattle.battle_rules.proofs.joining.accept.Goals as goal

-- the issuer is a member of the battle, and not the one who asks
pub tell_joining-requires : goal.tell_joining-requires
tell_joining-requires c =
    ap (λ client. is_named (same_name c.args.name.now) (name_of c.args.by.now.maps.now.plain client)) c.requires.issuer
    ∙ ap (is_named (same_name c.args.name.now)) c.requires.me
    ∙ other_than c.args.name.now c.args.by.now.me.now c.in_ok-number.battle.now.room c.in_ok-number.ensures.outside c.in_ok-asker.ensures.has
    (is_member c.args.by.now.maps.now.plain c.args.by.now.me.now c.in_ok-number.number c.in_ok-number.battle.now c.in_ok-number.ensures.ok)

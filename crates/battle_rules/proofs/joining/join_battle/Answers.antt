use Rattle.std.proofs.Common.{◌∙◌, ap}
use Rattle.line_words.specs.Table.{same_name}
use Rattle.line_words.proofs.Tables.{same_name_itself}
use Rattle.lobby_model.specs.State.{name_of}
use Rattle.lobby_model.specs.Outcome.{is_named}
use Rattle.battle_rules.proofs.joining.join_battle.Goals as goal

pub tell_joining-requires : goal.tell_joining-requires
tell_joining-requires c =
    ap (λ client. is_named (same_name c.args.by.now.me.now) (name_of c.args.by.now.maps.now.plain client)) c.requires.issuer
    ∙ ap (is_named (same_name c.args.by.now.me.now)) c.requires.me ∙ same_name_itself c.args.by.now.me.now

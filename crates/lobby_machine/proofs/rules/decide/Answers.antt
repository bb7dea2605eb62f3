use Rattle.std.proofs.Common.{◌∙◌, subst}
use Rattle.std.specs.Prelude.{Err}
use Rattle.lobby_model.specs.State.{name_of}
use Rattle.lobby_model.specs.Outcome.{Outcome}
use Rattle.lobby_model.specs.Commands.{answer}
use Rattle.lobby_post.specs.Posted.{begun}
use Rattle.battle_rules.specs.Answers.{Answers, Denied, refusal_reply}
use Rattle.battle_rules.specs.declared.refusal.Stop.{Stop}
use Rattle.lobby_machine.proofs.Spoken.{refused}
use Rattle.lobby_machine.proofs.rules.decide.Goals as goal

pub returns-in_ok-refuse-in-Err-Refused : goal.returns-in_ok-refuse-in-Err-Refused
returns-in_ok-refuse-in-Err-Refused c =
    let outcome : Outcome = answer c.args.maps.now.plain c.args.client (name_of c.args.maps.now.plain c.args.client) c.args.command.now in
    let d : Denied c.begin.new.self c.answer.new.post c.in-Err-Refused.refusal outcome =
    subst (λ (why : Stop). Answers c.args.maps.now.plain c.args.client c.begin.new.self c.answer.new.post outcome (Err why)) c.in-Err-Refused.field-0-is
    c.in-Err-Refused.ensures in
    refused c.args.maps.now.plain c.args.client (begun c.args.client c.args.id) c.answer.new.post c.refuse.new.post
    (refusal_reply c.in-Err-Refused.refusal) outcome
    d.is (d.kept ∙ c.begin.ensures) c.in_ok-refuse-in-Err-Refused.ensures

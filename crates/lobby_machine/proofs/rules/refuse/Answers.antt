use Rattle.std.proofs.Common.{◌∙◌, subst, ap, [], ◌∷◌}
use Rattle.reply_kinds.specs.declared.Reply.{Reply}
use Rattle.lobby_model.specs.Outcome.{tell, issuer}
use Rattle.lobby_post.specs.Posted.{Told}
use Rattle.battle_rules.specs.Answers.{reply_saying}
use Rattle.lobby_machine.proofs.rules.refuse.Goals as goal

pub returns : goal.returns
returns c = λ s. subst (λ (r : Reply). Told s c.args.post.now c.tell_issuer.new.self (tell issuer (r ∷ []) ∷ []))
    (c.line.ensures ∙ ap (reply_saying c.args.refusal) c.text-text.ensures)
    (c.in_ok-tell_issuer.ensures s)

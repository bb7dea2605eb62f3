use Rattle.std.proofs.Common.{◌∙◌, ap, subst, [], ◌∷◌}
use Rattle.reply_kinds.specs.declared.Reply.{Reply}
use Rattle.lobby_model.specs.State.{Battle, name_of}
use Rattle.lobby_model.specs.Outcome.{tell, everyone}
use Rattle.lobby_model.specs.Battles.{opened_line}
use Rattle.lobby_post.specs.Posted.{Told}
use Rattle.lobby_post.proofs.Telling.{told_then}
use Rattle.battle_rules.proofs.battles.tell_opening.Goals as goal

pub tell_opener-requires : goal.tell_opener-requires
tell_opener-requires c =
    ap (name_of c.args.maps.now.plain) c.in_ok-tell_all.ensures.issuer ∙ c.requires

pub returns : goal.returns
returns c = told_then c.args.maps.now.plain c.args.post.now c.tell_all.new.post c.tell_opener.new.post _ _
    (subst (λ (b : Battle). Told c.args.maps.now.plain c.args.post.now c.tell_all.new.post (tell everyone (opened_line c.args.number b.info ∷ []) ∷ []))
    c.battle.view_is
    (subst (λ (r : Reply). Told c.args.maps.now.plain c.args.post.now c.tell_all.new.post (tell everyone (r ∷ []) ∷ [])) c.told.ensures
    c.in_ok-tell_all.ensures)) c.in_ok-tell_opener.ensures

use Rattle.std.proofs.Common.{ap, refl}
use Rattle.std.specs.Prelude.{not}
use Rattle.lobby_post.proofs.Telling.{told_then}
use Rattle.battle_rules.proofs.Obeying.{passes}
use Rattle.lobby_machine.proofs.rules.channels.say_private.Goals as goal

pub returns : goal.returns
returns c =
    passes c.args.by.now.maps.now.plain c.args.by.now.client c.args.post.now c.tell_user.new.post _ _ _ _ (ap not c.in_ok-user_named.ensures.ok)
    (told_then c.args.by.now.maps.now.plain c.args.post.now c.tell_issuer.new.self c.tell_user.new.post _ _
    (c.in_ok-tell_issuer.ensures c.args.by.now.maps.now.plain) c.in_ok-tell_user.ensures) refl tt

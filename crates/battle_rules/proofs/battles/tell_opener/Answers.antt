use Rattle.std.proofs.Common.{◌≡◌, ap, ◌∙◌, [], ◌∷◌}
use Rattle.reply_kinds.specs.declared.Reply.TheVariants as reply
use Rattle.lobby_model.specs.State.{name_of}
use Rattle.lobby_post.specs.Posted.{Posted, blank, with_own}
use Rattle.lobby_post.proofs.Telling.{with_own_more}
use Rattle.lobby_battles.proofs.RoomLines.{put_then}
use Rattle.battle_rules.proofs.InBattles.{told_own_user}
use Rattle.battle_rules.proofs.battles.tell_opener.Goals as goal

pub returns : goal.returns
returns c =
    let is : c.write_own-2.new.self ≡ with_own (blank c.args.post.now) (reply.OpenBattle c.args.number ∷ reply.RequestBattleStatus ∷ []) =
    put_then with_own with_own_more (blank c.args.post.now) c.write_own.new.self c.write_own-2.new.self (reply.OpenBattle c.args.number ∷ [])
    (reply.RequestBattleStatus ∷ [])
    (c.in_ok-write_own.ensures ∙ ap (λ p. with_own p (reply.OpenBattle c.args.number ∷ [])) c.begin_own.ensures) c.in_ok-write_own-2.ensures in
    told_own_user c.args.maps.now.plain c.args.post.now c.write_own-2.new.self c.address_user.new.post c.args.me.now _
    (c.in_ok-address_user.ensures.own (ap (λ (p : Posted). name_of c.args.maps.now.plain p.issuer) is ∙ c.requires)) is

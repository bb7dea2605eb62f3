use Rattle.std.proofs.Common.{◌∙◌, ap, subst, map, [], ◌∷◌}
use Rattle.std.proofs.lemmas.Result.{on_ok_weaker}
use Rattle.reply_kinds.specs.declared.Reply.TheVariants as reply
use Rattle.line_words.specs.Table.{put_name}
use Rattle.lobby_model.specs.State.{State}
use Rattle.lobby_model.specs.Outcome.{tell, issuer}
use Rattle.lobby_model.specs.Sessions.{burst}
use Rattle.lobby_post.specs.Posted.{Told, with_own}
use Rattle.lobby_battles.specs.OnlineUsers.{plain_user}
use Rattle.lobby_maps.proofs.Bursts.{burst_told}
use Rattle.lobby_maps.proofs.Plain.{plainly}
use Rattle.lobby_maps.proofs.maps.Maps.tell_burst.Goals as goal

pub returns : goal.returns
returns c =
    on_ok_weaker _ (λ sent.
    subst (λ (s : State). Told s c.args.post.now c.address_issuer.new.self
    (tell issuer (burst s.settings.motd c.args.name.now (put_name s.users c.args.name.now (plain_user c.args.online_user.now)) s.battles) ∷ []))
    (plainly c.self.view_is)
    (burst_told _ c.args.post.now c.begin_own.new.self c.write_own.new.self c.write_motd.new.post c.write_parts.new.post c.write_parts-2.new.post
    c.write_battles.new.post c.write_own-2.new.self c.address_issuer.new.self _ _ _ _
    c.begin_own.ensures c.in_ok-write_own.ensures
    (c.in_ok-write_motd.ensures ∙ ap (λ motd. with_own c.write_own.new.self (map (λ line. reply.Motd line) motd)) (c.as_slice.ensures
    ∙ c.motd.ensures))
    c.in_ok-write_parts.ensures c.in_ok-write_parts-2.ensures
    c.in_ok-write_battles.ensures c.in_ok-write_own-2.ensures sent)) c.address_issuer.ensures

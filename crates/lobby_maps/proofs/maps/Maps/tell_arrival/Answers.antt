use Rattle.std.proofs.Common.{◌≡◌, ◌∙◌, ◌==◌, ap, sym, subst, [], ◌∷◌, length, rules}
use Rattle.std.specs.Prelude.{None, if◌then◌else◌}
use Rattle.std.proofs.lemmas.Result.{on_ok_weaker}
use Rattle.lobby_model.specs.State.{State}
use Rattle.lobby_model.specs.Outcome.{tell, others}
use Rattle.lobby_model.specs.Sessions.{added, arrival}
use Rattle.reply_kinds.specs.declared.Reply.TheVariants as reply
use Rattle.reply_kinds.specs.Replies.{printed_line}
use Rattle.lobby_post.specs.Posted.{Told, telling, with_others}
use Rattle.lobby_battles.specs.OnlineUsers.{plain_user}
use Rattle.lobby_maps.proofs.Arrivals.{arrival_told, not_zero}
use Rattle.lobby_maps.proofs.Walks.{reaches_everyone}
use Rattle.lobby_maps.proofs.Plain.{plainly}
use Rattle.lobby_maps.proofs.maps.Maps.tell_arrival.Goals as goal
use Rattle.lobby_maps.proofs.maps.Maps.tell_arrival.Goals.{then-status-ne0+in_ok-write_more_for_others, else-status-ne0}

pub returns : goal.returns
returns c =
    let is : c.if-status-ne0.post ≡ (if c.word-status.result == 0 then c.write_for_others.new.self else with_others c.write_for_others.new.self
    (reply.ClientStatus c.args.name.now c.word-status.result ∷ [])) =
    elim c.if-status-ne0.branch [
      | then-status-ne0+in_ok-write_more_for_others w ↦ w.post-is ∙ w.in_ok-write_more_for_others.ensures
          ∙ ap (λ b. if b then c.write_for_others.new.self else with_others c.write_for_others.new.self
          (reply.ClientStatus c.args.name.now c.word-status.result ∷ [])) (sym (not_zero c.word-status.result w.if-status-ne0.true))
      | else-status-ne0 w ↦ w.post-is ∙ ap (λ n. if n == 0 then c.write_for_others.new.self else with_others c.write_for_others.new.self
          (reply.ClientStatus c.args.name.now c.word-status.result ∷ [])) (sym w.if-status-ne0.false)
    ] in
    let first : c.write_for_others.new.self ≡ telling c.args.post.now [] (printed_line None (added c.args.name.now (plain_user c.args.online_user.now)))
    (length (printed_line None (added c.args.name.now (plain_user c.args.online_user.now)))) = search rules in
    on_ok_weaker _ (λ sent.
    subst (λ (s : State). Told s c.args.post.now c.address_all.new.post (tell others (arrival c.args.name.now (plain_user c.args.online_user.now)) ∷ []))
    (plainly c.self.view_is)
    (arrival_told _ c.args.post.now c.write_for_others.new.self c.if-status-ne0.post c.address_all.new.post c.args.name.now
    (plain_user c.args.online_user.now) c.word-status.result c.word-status.ensures.same
    first is (record {
      clients = _;
      reached = reaches_everyone _ _ _ c.address_all.ensures.rising c.self.invariant.1.listed;
      is =
          sent;
    }))) c.address_all.ensures.sent

use Rattle.std.proofs.Common.{◌≡◌, ◌∙◌, ◌<◌, [], ◌∷◌, ap, sym, subst, length, slice_index_or, Bool, List, ℕ}
use Rattle.std.specs.Prelude.{if◌then◌else◌}
use Rattle.std.specs.Ordering.{is_eq}
use Rattle.reply_kinds.specs.declared.Reply.TheVariants as reply
use Rattle.line_words.specs.Table.{same_name}
use Rattle.room_lists.specs.Room.{Bot, member_names}
use Rattle.lobby_model.specs.Outcome.{tell, users}
use Rattle.lobby_model.specs.Sessions.{to_others}
use Rattle.lobby_post.specs.Posted.{Posted, Told}
use Rattle.lobby_post.proofs.Telling.{told_nothing}
use Rattle.battle_rules.specs.declared.battles.Leaving.{Leaving}
use Rattle.battle_rules.proofs.InBattles.{bot_told, gone}
use Rattle.battle_rules.proofs.battles.tell_bots_gone.Goals as goal
use Rattle.battle_rules.proofs.battles.tell_bots_gone.Goals.{then-is_eq+in-Seen+in_ok-tell_room-in-Seen, then-is_eq+in-Unseen+in_ok-tell_others_in_room-in-Unseen, else-is_eq}

pub loop-bot-preserved : goal.loop-bot-preserved
loop-bot-preserved c =
    let names : List (List ℕ) = member_names c.args.room.now in
    let bot : Bot = c.bot-item.result in
    let same : same_name c.args.owner.now bot.owner ≡ c.is_eq.result =
    sym (c.is_eq.ensures ∙ ap is_eq c.cmp.ensures ∙ ap (same_name c.args.owner.now) c.owner.ensures) in
    let told : Told c.args.maps.now.plain c.loop-bot.post c.if-is_eq.post
    (if same_name c.args.owner.now bot.owner then gone c.args.leaving c.args.number names (bot ∷ []) else []) =
    elim c.if-is_eq.branch [
      | then-is_eq+in-Seen+in_ok-tell_room-in-Seen w ↦
          subst (λ (b : Bool). Told c.args.maps.now.plain c.loop-bot.post c.if-is_eq.post
          (if b then gone c.args.leaving c.args.number names (bot ∷ []) else [])) (sym (same ∙ w.if-is_eq.true))
          (subst (λ (l : Leaving). Told c.args.maps.now.plain c.loop-bot.post c.if-is_eq.post (gone l c.args.number names (bot ∷ []))) (sym w.in-Seen.is)
          (subst (λ (p : Posted). Told c.args.maps.now.plain c.loop-bot.post p (tell (users names) (reply.RemoveBot c.args.number bot.name ∷ []) ∷ []))
          (sym w.post-is)
          (subst (λ (n : List ℕ). Told c.args.maps.now.plain c.loop-bot.post w.tell_room.new.post
          (tell (users names) (reply.RemoveBot c.args.number n ∷ []) ∷ [])) w.name.ensures w.in_ok-tell_room-in-Seen.ensures)))
      | then-is_eq+in-Unseen+in_ok-tell_others_in_room-in-Unseen w ↦
          subst (λ (b : Bool). Told c.args.maps.now.plain c.loop-bot.post c.if-is_eq.post
          (if b then gone c.args.leaving c.args.number names (bot ∷ []) else [])) (sym (same ∙ w.if-is_eq.true))
          (subst (λ (l : Leaving). Told c.args.maps.now.plain c.loop-bot.post c.if-is_eq.post (gone l c.args.number names (bot ∷ []))) (sym w.in-Unseen.is)
          (subst (λ (p : Posted). Told c.args.maps.now.plain c.loop-bot.post p
          (to_others (tell (users names) (reply.RemoveBot c.args.number bot.name ∷ [])) ∷ [])) (sym w.post-is)
          (subst (λ (n : List ℕ). Told c.args.maps.now.plain c.loop-bot.post w.tell_others_in_room.new.post
          (to_others (tell (users names) (reply.RemoveBot c.args.number n ∷ [])) ∷ [])) w.name.ensures
          w.in_ok-tell_others_in_room-in-Unseen.ensures)))
      | else-is_eq w ↦
          subst (λ (b : Bool). Told c.args.maps.now.plain c.loop-bot.post c.if-is_eq.post
          (if b then gone c.args.leaving c.args.number names (bot ∷ []) else [])) (sym (same ∙ w.if-is_eq.false))
          (subst (λ (p : Posted). Told c.args.maps.now.plain c.loop-bot.post p []) (sym w.post-is) (told_nothing c.args.maps.now.plain c.loop-bot.post))
    ] in
    bot_told c.args.maps.now.plain c.args.post.now c.loop-bot.post c.if-is_eq.post c.args.leaving c.args.number names c.args.owner.now
    c.args.room.now.bots c.loop-bot.bot-index bot bot
    (subst (λ (xs : List Bot). c.loop-bot.bot-index < length xs) c.bots-bot-items.ensures c.loop-bot-test.true)
    (c.bot-item.is ∙ ap (λ (xs : List Bot). slice_index_or xs c.loop-bot.bot-index bot) c.bots-bot-items.ensures)
    c.loop-bot.invariant told

use Rattle.std.proofs.Common.{◌≡◌, ◌∙◌, ℕ, List, [], ◌∷◌, ap, sym, subst, false, rules}
use Rattle.std.specs.Prelude.{Some, is_some}
use Rattle.room_lists.specs.Room.{Bot}
use Rattle.room_lists.specs.Room.{bot_of, is_full_of_bots, member_names, with_bot}
use Rattle.lobby_model.specs.State.{State, Battle, battle_of}
use Rattle.lobby_model.specs.Texts.{bot_name_taken, too_many_bots}
use Rattle.lobby_model.specs.Outcome.{tell, users, done, message, refuse_if}
use Rattle.lobby_model.specs.Battles.{bot_line, in_room}
use Rattle.lobby_model.specs.Rooms.{add_bot, new_bot}
use Rattle.lobby_post.specs.Posted.{Posted, Told}
use Rattle.lobby_maps.specs.declared.change.Change.{Change}
use Rattle.lobby_maps.specs.declared.change.Change.TheVariants.{InBattles}
use Rattle.lobby_battles.specs.declared.battles.BattleChange.TheVariants.{InRoom}
use Rattle.lobby_battles.specs.declared.battles.RoomChange.TheVariants.{AddBot}
use Rattle.battle_rules.specs.Answers.{Obeyed}
use Rattle.lobby_maps.specs.Changes.{CanBe, changed}
use Rattle.battle_rules.proofs.InBattles.{in_battle_so}
use Rattle.battle_rules.proofs.Obeying.{passes}
use Rattle.battle_rules.proofs.rooms.add_bot.Goals as goal

-- one who adds a bot to its battle
bot_added : (s : State) (c : ℕ) (old new : Posted) (me : List ℕ) (number : ℕ) (battle : Battle) (bot made : Bot) (change : Change)
    → battle_of s me ≡ Some (number, battle) → is_some (bot_of bot.name battle.room) ≡ false → is_full_of_bots battle.room ≡ false → made ≡ bot
    → change ≡ InBattles (InRoom number (AddBot made)) → Told s old new (tell (users (member_names battle.room)) (bot_line number bot ∷ []) ∷ [])
    → Obeyed s c old new change (add_bot s me bot)
bot_added s c old new me number battle bot made change own free room same is told =
    let so : change ≡ InBattles (InRoom number (AddBot bot)) = is ∙ ap (λ (b : Bot). InBattles (InRoom number (AddBot b))) same in
    in_battle_so s c old new me number battle own change _
    (subst (λ b. Obeyed s c old new change (refuse_if b (message bot_name_taken) (refuse_if (is_full_of_bots battle.room) (message too_many_bots)
    (done (in_room number battle (with_bot bot) (bot_line number bot)))))) (sym free)
    (passes s c old new (is_full_of_bots battle.room) (message too_many_bots) (in_room number battle (with_bot bot) (bot_line number bot)) change room told
    (sym (ap (changed s c) so)) (subst (CanBe s.clients s.users s.channels s.battles c) (sym so) tt)))

pub returns : goal.returns
returns c =
    bot_added c.args.by.now.maps.now.plain c.args.by.now.client c.args.post.now c.tell_room.new.post c.args.by.now.me.now c.in_ok-number.number c.in_ok-number.battle.now
    (new_bot c.args.name.now c.args.by.now.me.now c.args.asked c.args.colour c.args.ai.now) c.new-bot.result c.in_room.result
    c.in_ok-number.ensures.ok c.in_ok-free_bot_name.ensures.ok c.in_ok-room_for_bot.ensures.ok
    (search (rules, c.new-bot.ensures, c.copy.ensures, c.in_ok-name.ensures, c.in_ok-ai.ensures, c.as_slice.ensures.value, c.as_slice-2.ensures.value, c.merge_battle-status.ensures.word, c.zero.ensures))
    (search (rules, c.in_room.ensures))
    (search (rules, c.in_ok-tell_room.ensures, c.word.ensures.same, c.merge_battle-status.ensures.word, c.zero.ensures, c.battle.view_is))

-- What a command comes to in the machine: a refusal, or letters told and a change.
use Rattle.std.specs.Prelude.{◌≡◌, ℕ, List, Result, Ok, Err}
use Rattle.reply_kinds.specs.declared.Reply.{Reply}
use Rattle.reply_kinds.specs.declared.Reply.TheVariants as reply
use Rattle.lobby_model.specs.State.{State}
use Rattle.lobby_model.specs.Texts.{fault_text, log_in_first, already_in, invalid_login, user_is_in}
use Rattle.lobby_model.specs.Texts.{already_in_channel, not_in_channel, no_such_user, already_in_battle}
use Rattle.lobby_model.specs.Texts.{already_asking, no_number_left, no_such_battle, battle_is_locked, wrong_password}
use Rattle.lobby_model.specs.Texts.{not_in_battle, not_the_founder, no_such_request, no_such_member}
use Rattle.lobby_model.specs.Texts.{cannot_kick_yourself, no_such_bot, not_your_bot, bot_name_taken, too_many_bots}
use Rattle.lobby_model.specs.Texts.{too_many_tags, too_many_units}
use Rattle.lobby_model.specs.Outcome.{Outcome, Refused, letters_of, state_after}
use Rattle.lobby_post.specs.Posted.{Posted, Told}
use Rattle.battle_rules.specs.declared.refusal.Refusal.{Refusal}
use Rattle.battle_rules.specs.declared.refusal.Refusal.TheVariants.{Fault, LogInFirst, AlreadyIn, InvalidLogin}
use Rattle.battle_rules.specs.declared.refusal.Refusal.TheVariants.{UserIsIn, AlreadyInChannel, NotInChannel}
use Rattle.battle_rules.specs.declared.refusal.Refusal.TheVariants.{NoSuchUser, OpensInBattle, OpensAsking}
use Rattle.battle_rules.specs.declared.refusal.Refusal.TheVariants.{NoNumberLeft, JoinsInBattle, JoinsAsking}
use Rattle.battle_rules.specs.declared.refusal.Refusal.TheVariants.{NoSuchBattle, BattleIsLocked, WrongPassword}
use Rattle.battle_rules.specs.declared.refusal.Refusal.TheVariants.{NotInBattle, NotTheFounder, NoSuchRequest}
use Rattle.battle_rules.specs.declared.refusal.Refusal.TheVariants.{NoSuchMember, CannotKickYourself, NoSuchBot}
use Rattle.battle_rules.specs.declared.refusal.Refusal.TheVariants.{NotYourBot, BotNameTaken, TooManyBots}
use Rattle.battle_rules.specs.declared.refusal.Refusal.TheVariants.{TooManyTags, TooManyUnits}
use Rattle.battle_rules.specs.declared.refusal.Stop.{Stop}
use Rattle.battle_rules.specs.declared.refusal.Stop.TheVariants as stop
use Rattle.lobby_maps.specs.declared.change.Change.{Change}
use Rattle.lobby_maps.specs.Changes.{CanBe, changed}

-- why, in words
abbrev pub refusal_text : Refusal → List ℕ
refusal_text (Fault fault) = fault_text fault
refusal_text LogInFirst = log_in_first
refusal_text AlreadyIn = already_in
refusal_text InvalidLogin = invalid_login
refusal_text UserIsIn = user_is_in
refusal_text (AlreadyInChannel channel) = already_in_channel
refusal_text NotInChannel = not_in_channel
refusal_text NoSuchUser = no_such_user
refusal_text OpensInBattle = already_in_battle
refusal_text OpensAsking = already_asking
refusal_text NoNumberLeft = no_number_left
refusal_text JoinsInBattle = already_in_battle
refusal_text JoinsAsking = already_asking
refusal_text NoSuchBattle = no_such_battle
refusal_text BattleIsLocked = battle_is_locked
refusal_text WrongPassword = wrong_password
refusal_text NotInBattle = not_in_battle
refusal_text NotTheFounder = not_the_founder
refusal_text NoSuchRequest = no_such_request
refusal_text NoSuchMember = no_such_member
refusal_text CannotKickYourself = cannot_kick_yourself
refusal_text NoSuchBot = no_such_bot
refusal_text NotYourBot = not_your_bot
refusal_text BotNameTaken = bot_name_taken
refusal_text TooManyBots = too_many_bots
refusal_text TooManyTags = too_many_tags
refusal_text TooManyUnits = too_many_units

-- the line that says so, in these words
abbrev pub reply_saying : Refusal → List ℕ → Reply
reply_saying (Fault fault) text = reply.ServerMsg text
reply_saying LogInFirst text = reply.ServerMsg text
reply_saying AlreadyIn text = reply.Denied text
reply_saying InvalidLogin text = reply.Denied text
reply_saying UserIsIn text = reply.Denied text
reply_saying (AlreadyInChannel channel) text = reply.JoinFailed channel text
reply_saying NotInChannel text = reply.ServerMsg text
reply_saying NoSuchUser text = reply.ServerMsg text
reply_saying OpensInBattle text = reply.OpenBattleFailed text
reply_saying OpensAsking text = reply.OpenBattleFailed text
reply_saying NoNumberLeft text = reply.OpenBattleFailed text
reply_saying JoinsInBattle text = reply.JoinBattleFailed text
reply_saying JoinsAsking text = reply.JoinBattleFailed text
reply_saying NoSuchBattle text = reply.JoinBattleFailed text
reply_saying BattleIsLocked text = reply.JoinBattleFailed text
reply_saying WrongPassword text = reply.JoinBattleFailed text
reply_saying NotInBattle text = reply.ServerMsg text
reply_saying NotTheFounder text = reply.ServerMsg text
reply_saying NoSuchRequest text = reply.ServerMsg text
reply_saying NoSuchMember text = reply.ServerMsg text
reply_saying CannotKickYourself text = reply.ServerMsg text
reply_saying NoSuchBot text = reply.ServerMsg text
reply_saying NotYourBot text = reply.ServerMsg text
reply_saying BotNameTaken text = reply.ServerMsg text
reply_saying TooManyBots text = reply.ServerMsg text
reply_saying TooManyTags text = reply.ServerMsg text
reply_saying TooManyUnits text = reply.ServerMsg text

abbrev pub refusal_reply : Refusal → Reply
refusal_reply refusal = reply_saying refusal (refusal_text refusal)

-- A command was told and comes to a change
pub record Obeyed (s : State) (c : ℕ) (old new : Posted) (done : Change) (outcome : Outcome) : Type 0 where
  pub told : Told s old new (letters_of outcome)
  pub effect : state_after s outcome ≡ changed s c done
  pub can_be : CanBe s.clients s.users s.channels s.battles c done

-- A command was refused, before anything was told
pub record Denied (old new : Posted) (refusal : Refusal) (outcome : Outcome) : Type 0 where
  pub is : outcome ≡ Refused (refusal_reply refusal)
  pub kept : new ≡ old

abbrev pub Answers : State → ℕ → Posted → Posted → Outcome → Result Change Stop → Type 0
Answers s c old new outcome (Ok done) = Obeyed s c old new done outcome
Answers s c old new outcome (Err (stop.Refused refusal)) = Denied old new refusal outcome
Answers s c old new outcome (Err stop.Memory) = Unit {0}

-- why a guard stops: memory was refused, or its command is, and then this holds
abbrev pub Refuses : Refusal → Type 0 → Stop → Type 0
Refuses refusal P (stop.Refused refused) = (refused ≡ refusal) × P
Refuses refusal P stop.Memory = Unit {0}

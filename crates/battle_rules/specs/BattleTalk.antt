-- What is told of battles, where one function tells what several commands owe.
use Rattle.std.specs.Prelude.{ℕ, ℤ, List, [], ◌∷◌, map, flat_map, Option}
use Rattle.reply_kinds.specs.declared.Reply.TheVariants as reply
use Rattle.room_lists.specs.Room.{Room, bots_of, member_names}
use Rattle.lobby_model.specs.State.{Battle}
use Rattle.lobby_model.specs.Outcome.{Happening, Letter, tell, users}
use Rattle.lobby_model.specs.Sessions.{to_others, unseen}
use Rattle.lobby_model.specs.Battles.{leaves_own}
use Rattle.battle_rules.specs.declared.battles.Leaving.{Leaving}
use Rattle.battle_rules.specs.declared.battles.Leaving.TheVariants.{Seen, Unseen}
use Rattle.lobby_battles.specs.declared.battles.BattleChange.TheVariants.{InRoom, StopAsking}
use Rattle.lobby_battles.specs.declared.battles.RoomChange.TheVariants as room
use Rattle.lobby_maps.specs.declared.change.Change.{Change}
use Rattle.lobby_maps.specs.declared.change.Change.TheVariants.{InBattles}

-- what happens as one leaves, as its lines are sent
abbrev pub shown : Leaving → Happening → Happening
shown Seen h = h
shown Unseen h = unseen h

abbrev pub shown_to : Leaving → Letter → Letter
shown_to Seen l = l
shown_to Unseen l = to_others l

-- that the bots of one who leaves go, bot by bot
abbrev pub bots_gone : Leaving → ℕ → List ℕ → Room → List Letter
bots_gone leaving number owner room = map (λ b.
    shown_to leaving (tell (users (member_names room)) (reply.RemoveBot number b.name ∷ []))) (bots_of owner room)

-- that one who logs out leaves the battle that it is in
abbrev pub left_battle_letters : List ℕ → Option (ℕ × Battle) → List Letter
left_battle_letters me own = flat_map (λ h. (unseen h).told) (leaves_own me own)

-- the change by which one stops asking to join a battle
abbrev pub stops_asking : ℕ → List ℕ → Change
stops_asking number name = InBattles (StopAsking number name)

-- the change that gives a member a status and a colour
abbrev pub status_change : ℕ → List ℕ → ℕ → ℤ → Change
status_change number name status colour = InBattles (InRoom number (room.Status name status colour))

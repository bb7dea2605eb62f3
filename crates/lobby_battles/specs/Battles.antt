-- What a change makes of the battles, and where their members and those who ask sit.
use Rattle.std.specs.Prelude.{◌≡◌, ℕ, ◌<◌, ◌≤◌, Bool, true, false, ◌||◌, if◌then◌else◌, List, [], ◌∷◌, Option, Some}
use Rattle.std.specs.Prelude.{None, find}
use Rattle.line_words.specs.Table.{ByName, ByNumber, at_number, at_name, put_number, without_number, change_number}
use Rattle.room_lists.specs.Room.{Room, has_member, member_names, with_member, without_member, with_status, with_bot}
use Rattle.room_lists.specs.Room.{with_bot_status, without_bot, with_rect, without_rect, set_tags, remove_tags}
use Rattle.room_lists.specs.Room.{disable_units, enable_units, enable_all, has_asker, with_asker, without_asker}
use Rattle.lobby_model.specs.State.{Client, Battle, name_at, updated}
use Rattle.lobby_model.specs.Battles.{is_founder}
use Rattle.lobby_battles.specs.Info.{info_changed}
use Rattle.lobby_battles.specs.declared.battles.BattleChange.{BattleChange}
use Rattle.lobby_battles.specs.declared.battles.BattleChange.TheVariants.{Open, Join, Ask, LetIn, StopAsking, Leave}
use Rattle.lobby_battles.specs.declared.battles.BattleChange.TheVariants.{Update, InRoom}
use Rattle.lobby_battles.specs.declared.battles.RoomChange.{RoomChange}
use Rattle.lobby_battles.specs.declared.battles.RoomChange.TheVariants as room
use Rattle.lobby_battles.specs.declared.online_users.OnlineUser.{OnlineUser}

-- what the members of a battle share, after a change
abbrev pub room_after : RoomChange → Room → Room
room_after (room.Status name status colour) = with_status name status colour
room_after (room.AddBot bot) = with_bot bot
room_after (room.BotStatus name status colour) = with_bot_status name status colour
room_after (room.RemoveBot name) = without_bot name
room_after (room.SetRect ally rect) = with_rect ally rect
room_after (room.RemoveRect ally) = without_rect ally
room_after (room.SetTags pairs) = set_tags pairs
room_after (room.RemoveTags keys) = remove_tags keys
room_after (room.DisableUnits words) = disable_units words
room_after (room.EnableUnits words) = enable_units words
room_after room.EnableAllUnits = enable_all

abbrev pub room_changed : (Room → Room) → Battle → Battle
room_changed f battle = record battle { room = f battle.room }

-- one who asked enters
abbrev pub let_in : List ℕ → Room → Room
let_in name room = with_member name (without_asker name room)

-- the battles after one stopped asking at the battle of this number
abbrev pub unasked : ℕ → List ℕ → ByNumber Battle → ByNumber Battle
unasked number name battles = change_number battles number (room_changed (without_asker name))

-- the battles after one left the battle of this number, which goes with its founder
abbrev pub left_at : ByNumber Battle → ℕ → List ℕ → Option Battle → ByNumber Battle
left_at battles number name None = battles
left_at battles number name (Some battle) = if is_founder name battle then without_number battles number
    else change_number battles number (room_changed (without_member name))

abbrev pub left_battle : ℕ → List ℕ → ByNumber Battle → ByNumber Battle
left_battle number name battles = left_at battles number name (at_number battles number)

-- one who may be logged in asks no more at the battle that it may ask to join
abbrev pub unasked_own : Option (List ℕ) → Option ℕ → ByNumber Battle → ByNumber Battle
unasked_own None asks battles = battles
unasked_own (Some name) None battles = battles
unasked_own (Some name) (Some number) battles = unasked number name battles

-- one who may be logged in leaves the battle that it may be in
abbrev pub left_own : Option (List ℕ) → Option ℕ → ByNumber Battle → ByNumber Battle
left_own None battle battles = battles
left_own (Some name) None battles = battles
left_own (Some name) (Some number) battles = left_battle number name battles

abbrev pub battles_after : BattleChange → ByNumber Battle → ByNumber Battle
battles_after (Open number name battle) battles = put_number battles number battle.value
battles_after (Join number name) battles = change_number battles number (room_changed (with_member name))
battles_after (Ask number name script_password) battles = change_number battles number
    (room_changed (with_asker name script_password))
battles_after (LetIn number name) battles = change_number battles number (room_changed (let_in name))
battles_after (StopAsking number name) battles = unasked number name battles
battles_after (Leave number name) battles = left_battle number name battles
battles_after (Update number spectators locked map_hash map) battles = change_number battles number
    (info_changed (updated spectators locked map_hash map))
battles_after (InRoom number change) battles = change_number battles number (room_changed (room_after change))

-- what comes to the same at the battle of this number comes to the same
abbrev pub ChangesAlike : ByNumber Battle → ℕ → Battle → Type 0
ChangesAlike battles number battle = (f g : Battle → Battle) → f battle ≡ g battle
    → change_number battles number f ≡ change_number battles number g

-- the last number given
abbrev pub last_after : BattleChange → ℕ → ℕ
last_after (Open number name battle) last = number
last_after (Join number name) last = last
last_after (Ask number name script_password) last = last
last_after (LetIn number name) last = last
last_after (StopAsking number name) last = last
last_after (Leave number name) last = last
last_after (Update number spectators locked map_hash map) last = last
last_after (InRoom number change) last = last

-- the battle that a user is in, of these, and the battle that it asks to join
abbrev pub own_of : ByNumber Battle → List ℕ → Option (ℕ × Battle)
own_of battles name = find (λ e. has_member name e.1.room) battles

abbrev pub asked_of : ByNumber Battle → List ℕ → Option (ℕ × Battle)
asked_of battles name = find (λ e. has_asker name e.1.room) battles

-- no battle of these passes a test of its room, and none but that of this number
abbrev pub IsNowhere : (Room → Bool) → ByNumber Battle → Type 0
IsNowhere test battles = (number : ℕ) (b : Battle) → at_number battles number ≡ Some b → test b.room ≡ false

abbrev pub IsOnly : (Room → Bool) → ByNumber Battle → Option ℕ → Type 0
IsOnly test battles battle = (number : ℕ) (b : Battle) → at_number battles number ≡ Some b → test b.room ≡ true
    → battle ≡ Some number

-- one who may be logged in asks to join no battle of these but that of one number, and is in none but that of another
abbrev pub LeavesAll : ByNumber Battle → Option ℕ → Option ℕ → Option (List ℕ) → Type 0
LeavesAll battles asks battle None = Unit {0}
LeavesAll battles asks battle (Some name) = IsOnly (has_asker name) battles asks
    × IsOnly (has_member name) battles battle

-- One who enters a battle, or asks to join one, is logged in at client c, is in no battle and asks to join none
pub record CanEnter (clients : ByNumber Client) (battles : ByNumber Battle) (c : ℕ) (name : List ℕ) : Type 0 where
  pub user : name_at clients c ≡ Some name
  pub free : own_of battles name ≡ None
  pub unasked : asked_of battles name ≡ None

-- whether one asks to join the battle that there may be
abbrev pub asks_at : Option Battle → List ℕ → Bool
asks_at None name = false
asks_at (Some battle) name = has_asker name battle.room

-- a battle that opens has its founder alone, and nobody asks to join it
pub record IsNew (battle : Battle) (name : List ℕ) : Type 0 where
  pub members : member_names battle.room ≡ name ∷ []
  pub askers : battle.room.askers ≡ []

-- start rectangles have 16 places
abbrev pub FitsRoom : RoomChange → Type 0
FitsRoom (room.SetRect ally rect) = ally < 16
FitsRoom (room.RemoveRect ally) = ally < 16
FitsRoom (room.Status name status colour) = Unit {0}
FitsRoom (room.AddBot bot) = Unit {0}
FitsRoom (room.BotStatus name status colour) = Unit {0}
FitsRoom (room.RemoveBot name) = Unit {0}
FitsRoom (room.SetTags pairs) = Unit {0}
FitsRoom (room.RemoveTags keys) = Unit {0}
FitsRoom (room.DisableUnits words) = Unit {0}
FitsRoom (room.EnableUnits words) = Unit {0}
FitsRoom room.EnableAllUnits = Unit {0}

-- a change that these battles can take
abbrev pub CanChange : ByNumber Client → ByNumber Battle → ℕ → BattleChange → Type 0
CanChange clients battles c (Open number name battle) = CanEnter clients battles c name × IsNew battle.value name
    × (number ≤ 2147483647)
CanChange clients battles c (Join number name) = CanEnter clients battles c name
CanChange clients battles c (Ask number name script_password) = CanEnter clients battles c name
CanChange clients battles c (LetIn number name) = asks_at (at_number battles number) name ≡ true
CanChange clients battles c (StopAsking number name) = Unit {0}
CanChange clients battles c (Leave number name) = Unit {0}
CanChange clients battles c (Update number spectators locked map_hash map) = Unit {0}
CanChange clients battles c (InRoom number change) = FitsRoom change

-- the battle whose number an online user has
abbrev pub battle_at : Option OnlineUser → Option ℕ
battle_at None = None
battle_at (Some online_user) = online_user.battle

-- one is a member, or asks to be
abbrev pub concerns : List ℕ → Room → Bool
concerns name room = has_member name room || has_asker name room

-- who asks to join is no member
abbrev pub AskOutside : Room → Type 0
AskOutside room = (name : List ℕ) → has_asker name room ≡ true → has_member name room ≡ false

-- A battle's members, and those who ask to join it, have its number, and none of them is both
pub record KnowTheirBattles (battles : ByNumber Battle) (online : ByName OnlineUser) : Type 0 where
  pub at : (name : List ℕ) (number : ℕ) (battle : Battle) → at_number battles number ≡ Some battle
      → concerns name battle.room ≡ true
      → battle_at (at_name online name) ≡ Some number
  pub outside : (number : ℕ) (battle : Battle) → at_number battles number ≡ Some battle → AskOutside battle.room

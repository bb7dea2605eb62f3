-- Worked rows of the fold of the own room. The values are those of the protocol.
use Rattle.std.proofs.Common.{◌≡◌, ℕ, List, [], ◌∷◌, ◌++◌, refl, false}
use Rattle.std.specs.Prelude.{ℤ, pos, negsuc, codes, Option, Some, None}
use Prim.Native.String.{String}
use Rattle.reply_kinds.specs.declared.Reply.{Reply}
use Rattle.reply_kinds.specs.declared.Reply.TheVariants as reply
use Rattle.line_words.specs.declared.lists.Pair.{Pair}
use Rattle.room_lists.specs.Room.{Member, Bot, Rect}
use Rattle.lobby_model.proofs.Fixture.{anna, bert, cleo, tag}
use Rattle.lobby_view.specs.View.{OwnRoom, new_view, shown_all}

abbrev opened : ℕ → List ℕ → Reply
opened id founder =
    reply.BattleOpened id (record {
      battle_type = 0;
      nat_type = 0;
      founder = founder;
      ip = codes "10.0.0.1";
      port = 8452;
      max_players = 8;
      passworded = false;
      rank = pos 0;
      map_hash = pos 0;
      engine_name = codes "Spring";
      engine_version = codes "104.0";
      map = codes "Comet";
      title = codes "T";
      game_name = codes "BA";
    })

-- Anna joins Bert's battle, in which Cleo is; another battle is there
abbrev joins : List Reply
joins =
    reply.Accepted anna ∷ opened 7 bert ∷ reply.JoinedBattle 7 cleo None ∷ opened 8 (codes "Dora") ∷ reply.JoinBattle 7 (negsuc 0)
    ∷ reply.JoinedBattle 7 anna None ∷ []

-- her room after these lines
abbrev room_after : List Reply → Option OwnRoom
room_after replies = (shown_all (new_view []) (joins ++ replies)).own

abbrev member : List ℕ → ℕ → ℤ → Member
member name status colour = record { name = name; status = status; colour = colour }

abbrev bot : String → ℕ → ℤ → Bot
bot name status colour = record { name = codes name; owner = bert; status = status; colour = colour; ai = codes "KAIK" }

abbrev rect : ℕ → ℕ → ℕ → ℕ → Rect
rect left top right bottom = record { left = left; top = top; right = right; bottom = bottom }

abbrev of_battle : ℕ → List Member → List Bot → List (ℕ × Rect) → List Pair → List (List ℕ) → Option OwnRoom
of_battle id members bots rects tags units = Some (record {
  battle = id;
  room = record { members = members; bots = bots; rects = rects; tags = tags; units = units; askers = [] };
})

abbrev all_three : List Member
all_three = member bert 0 (pos 0) ∷ member cleo 0 (pos 0) ∷ member anna 0 (pos 0) ∷ []

-- members: those known and then those who join, each of status 0 and colour 0
room_begins : room_after [] ≡ of_battle 7 all_three [] [] [] []
room_begins = refl

status_is_set : room_after (reply.ClientBattleStatus cleo 1026 (negsuc 0) ∷ [])
    ≡ of_battle 7 (member bert 0 (pos 0) ∷ member cleo 1026 (negsuc 0) ∷ member anna 0 (pos 0) ∷ []) [] [] [] []
status_is_set = refl

status_goes_with_the_member : room_after (reply.ClientBattleStatus cleo 1026 (pos 9) ∷ reply.LeftBattle 7 cleo ∷ reply.JoinedBattle 7 cleo None ∷ [])
    ≡ of_battle 7 (member bert 0 (pos 0) ∷ member anna 0 (pos 0) ∷ member cleo 0 (pos 0) ∷ []) [] [] [] []
status_goes_with_the_member = refl

other_battles_change_no_room : room_after
    (reply.JoinedBattle 8 cleo None ∷ reply.LeftBattle 8 cleo ∷ reply.LeftBattle 8 anna ∷ reply.BattleClosed 8 ∷ [])
    ≡ of_battle 7 all_three [] [] [] []
other_battles_change_no_room = refl

own_leaving_ends_it : room_after (reply.LeftBattle 7 anna ∷ []) ≡ None
own_leaving_ends_it = refl

closing_ends_it : room_after (reply.BattleClosed 7 ∷ []) ≡ None
closing_ends_it = refl

-- bots, in order of adding
abbrev two_bots : List Reply
two_bots = reply.AddBot 7 (codes "Robo") bert 1024 (pos 255) (codes "KAIK") ∷ reply.AddBot 7 (codes "Max") bert 0 (pos 0) (codes "KAIK") ∷ []

bots_come : room_after two_bots ≡ of_battle 7 all_three (bot "Robo" 1024 (pos 255) ∷ bot "Max" 0 (pos 0) ∷ []) [] [] []
bots_come = refl

bot_is_updated : room_after (two_bots ++ reply.UpdateBot 7 (codes "Robo") 2 (negsuc 0) ∷ [])
    ≡ of_battle 7 all_three (bot "Robo" 2 (negsuc 0) ∷ bot "Max" 0 (pos 0) ∷ []) [] [] []
bot_is_updated = refl

bot_is_removed : room_after (two_bots ++ reply.RemoveBot 7 (codes "Robo") ∷ []) ≡ of_battle 7 all_three (bot "Max" 0 (pos 0) ∷ []) [] [] []
bot_is_removed = refl

-- a member that leaves takes no bot along: each is removed by a line of its own
bots_stay : room_after (two_bots ++ reply.LeftBattle 7 cleo ∷ [])
    ≡ of_battle 7 (member bert 0 (pos 0) ∷ member anna 0 (pos 0) ∷ []) (bot "Robo" 1024 (pos 255) ∷ bot "Max" 0 (pos 0) ∷ []) [] [] []
bots_stay = refl

bots_of_another_battle : room_after (two_bots ++ reply.AddBot 8 (codes "Rex") bert 0 (pos 0) [] ∷ reply.UpdateBot 8 (codes "Robo") 2 (pos 2)
    ∷ reply.RemoveBot 8 (codes "Robo") ∷ []) ≡ room_after two_bots
bots_of_another_battle = refl

-- start rectangles, by the number of the ally
rects_come_and_go : room_after (reply.AddStartRect 4 0 0 200 60 ∷ reply.AddStartRect 1 0 140 200 200 ∷ reply.AddStartRect 4 1 2 3 5
    ∷ reply.AddStartRect 2 9 9 9 9 ∷ reply.RemoveStartRect 2 ∷ reply.RemoveStartRect 11 ∷ [])
    ≡ of_battle 7 all_three [] ((1, rect 0 140 200 200) ∷ (4, rect 1 2 3 5) ∷ []) [] []
rects_come_and_go = refl

-- tags: pairs act from left to right, and a known key keeps its place
tags_are_set : room_after
    (reply.SetScriptTags (tag "b" "1" ∷ tag "a" "2" ∷ tag "b" "3" ∷ []) ∷ reply.SetScriptTags (tag "c" "4" ∷ tag "a" "5" ∷ []) ∷ [])
    ≡ of_battle 7 all_three [] [] (tag "b" "3" ∷ tag "a" "5" ∷ tag "c" "4" ∷ []) []
tags_are_set = refl

tags_are_removed : room_after (reply.SetScriptTags (tag "b" "1" ∷ tag "a" "2" ∷ []) ∷ reply.RemoveScriptTags (codes "b" ∷ codes "x" ∷ []) ∷ [])
    ≡ of_battle 7 all_three [] [] (tag "a" "2" ∷ []) []
tags_are_removed = refl

-- units, in order of first disabling: one that is there keeps its place, and to enable one that is not there changes nothing
abbrev three_units : List Reply
three_units =
    reply.DisableUnits (codes "armcom" ∷ codes "corcom" ∷ codes "armcom" ∷ []) ∷ reply.DisableUnits (codes "corcom" ∷ codes "armflash" ∷ []) ∷ []

units_are_disabled : room_after three_units ≡ of_battle 7 all_three [] [] [] (codes "armcom" ∷ codes "corcom" ∷ codes "armflash" ∷ [])
units_are_disabled = refl

units_are_enabled : room_after (three_units ++ reply.EnableUnits (codes "corcom" ∷ codes "x" ∷ []) ∷ [])
    ≡ of_battle 7 all_three [] [] [] (codes "armcom" ∷ codes "armflash" ∷ [])
units_are_enabled = refl

unit_is_disabled_again : room_after
    (three_units ++ reply.EnableUnits (codes "armcom" ∷ []) ∷ reply.DisableUnits (codes "armcom" ∷ []) ∷ [])
    ≡ of_battle 7 all_three [] [] [] (codes "corcom" ∷ codes "armflash" ∷ codes "armcom" ∷ [])
unit_is_disabled_again = refl

all_are_enabled : room_after (three_units ++ reply.EnableAllUnits ∷ []) ≡ of_battle 7 all_three [] [] [] []
all_are_enabled = refl

-- who asks to join is no part of the room
request_changes_nothing : room_after (reply.JoinBattleRequest (codes "Dora") (codes "10.0.0.4") ∷ []) ≡ room_after []
request_changes_nothing = refl

-- OPENBATTLE starts a room with the members known; of a battle that is not known, with none
abbrev opens : ℕ → List Reply
opens id = reply.Accepted anna ∷ opened 7 anna ∷ reply.OpenBattle id ∷ []

founder_opens : (shown_all (new_view []) (opens 7)).own ≡ of_battle 7 (member anna 0 (pos 0) ∷ []) [] [] [] []
founder_opens = refl

opens_unknown : (shown_all (new_view []) (opens 9)).own ≡ of_battle 9 [] [] [] [] []
opens_unknown = refl

-- to one who is in no battle there is no room to change
no_room : (shown_all (new_view []) (reply.Accepted anna ∷ opened 7 bert ∷ reply.ClientBattleStatus bert 2 (pos 2)
    ∷ reply.AddBot 7 (codes "Robo") bert 0 (pos 0) [] ∷ reply.AddStartRect 1 0 0 9 9 ∷ reply.SetScriptTags (tag "a" "1" ∷ [])
    ∷ reply.DisableUnits (codes "armcom" ∷ []) ∷ reply.EnableAllUnits ∷ [])).own ≡ None
no_room = refl

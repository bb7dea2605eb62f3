-- Lobbies whose maps and lines do not agree, on one worked state: the view of a member is not what such a lobby would show it.
use Rattle.std.proofs.Common.{◌≡◌, ℕ, List, [], ◌∷◌, refl, ap, false, length}
use Rattle.std.specs.Prelude.{pos, codes, Option, Some, None}
use Rattle.reply_kinds.specs.declared.Reply.TheVariants as reply
use Rattle.room_lists.specs.Room.{Bot, new_room, with_member, with_bot, all_members_but, without_member, disable_units}
use Rattle.lobby_model.specs.State.{State, Battle}
use Rattle.lobby_model.specs.Outcome.{Happening, happens, tell, everyone}
use Rattle.lobby_model.specs.Battles.{change_room, in_room, asks_to_join, member_leaves, closes}
use Rattle.lobby_model.proofs.Fixture.{start, anna, bert, cleo}
use Rattle.lobby_view.specs.View.{View, OwnRoom}
use Rattle.lobby_view.proofs.Basics.{Seen}
use Rattle.lobby_view.proofs.FoldExamples.{info}

-- Bert is the founder of a battle, Cleo, who has a bot, and Anna are members
abbrev robo : Bot
robo = record { name = codes "Robo"; owner = cleo; status = 0; colour = pos 0; ai = codes "KAIK" }

abbrev battle : Battle
battle = record {
  info = info 0 false (pos 5) "Comet";
  password = codes "sesam";
  game_hash = pos 0;
  room = with_bot robo (with_member anna (with_member cleo (new_room bert)));
}

abbrev lobby : State
lobby = record start { battles = (1, battle) ∷ []; last_battle = 1 }

-- what happens there is seen by Anna
abbrev AnnaSees : Happening → Type 0
AnnaSees happening = Seen lobby false anna happening

abbrev bots : Option OwnRoom → ℕ
bots None = 0
bots (Some own) = length own.room.bots

abbrev members : Option OwnRoom → ℕ
members None = 0
members (Some own) = length own.room.members

abbrev units : Option OwnRoom → ℕ
units None = 0
units (Some own) = length own.room.units

abbrev dora : List ℕ
dora = codes "Dora"

abbrev armcom : List (List ℕ)
armcom = codes "armcom" ∷ []

-- as it is
cleo_leaves : AnnaSees (member_leaves cleo 1 battle)
cleo_leaves = refl

bert_leaves : AnnaSees (closes 1 battle)
bert_leaves = refl

dora_asks : AnnaSees (asks_to_join dora 1 battle None (codes "10.0.0.4"))
dora_asks = refl

armcom_is_disabled : AnnaSees (in_room 1 battle (disable_units armcom) (reply.DisableUnits armcom))
armcom_is_disabled = refl

-- the bots of one who leaves outlive it
bots_outlive : AnnaSees (happens (λ s. change_room s 1 (all_members_but cleo)) (member_leaves cleo 1 battle).told) → ⊥
bots_outlive sees = absurd (let differ : 0 ≡ 1 = ap (λ (v : View). bots v.own) sees in cc)

-- they go, and nobody is told
bots_go_untold : AnnaSees (happens (λ s. change_room s 1 (without_member cleo)) (tell everyone (reply.LeftBattle 1 cleo ∷ []) ∷ [])) → ⊥
bots_go_untold sees = absurd (let differ : 1 ≡ 0 = ap (λ (v : View). bots v.own) sees in cc)

-- a battle that its founder left stays listed
battle_outlives : AnnaSees (happens (λ s. s) (closes 1 battle).told) → ⊥
battle_outlives sees = absurd (let differ : 0 ≡ 1 = ap (λ (v : View). length v.battles) sees in cc)

-- it is closed, and nobody is told
battle_closes_untold : AnnaSees (happens (closes 1 battle).after []) → ⊥
battle_closes_untold sees = absurd (let differ : 1 ≡ 0 = ap (λ (v : View). length v.battles) sees in cc)

-- one who asks is in the battle at once
dora_joins_untold : AnnaSees (happens (λ s. change_room s 1 (with_member dora)) (asks_to_join dora 1 battle None (codes "10.0.0.4")).told) → ⊥
dora_joins_untold sees = absurd (let differ : 3 ≡ 4 = ap (λ (v : View). members v.own) sees in cc)

-- a unit is disabled, and nobody is told
unit_is_disabled_untold : AnnaSees (happens (λ s. change_room s 1 (disable_units armcom)) []) → ⊥
unit_is_disabled_untold sees = absurd (let differ : 0 ≡ 1 = ap (λ (v : View). units v.own) sees in cc)

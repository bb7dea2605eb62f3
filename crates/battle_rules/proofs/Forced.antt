-- What a founder does with the members of its battle.
use Rattle.std.proofs.Common.{◌≡◌, ℕ, ℤ, List, [], ◌∷◌, refl, sym, ap, subst, ◌∙◌, true, false, not, append-nil}
use Rattle.std.specs.Prelude.{Some}
use Rattle.reply_kinds.specs.declared.Reply.TheVariants as reply
use Rattle.line_words.specs.Table.{at_number, same_name}
use Rattle.status_bits.specs.Fields.{with_number}
use Rattle.status_bits.specs.BattleWord.{battle_table, team, ally, player, handicap}
use Rattle.room_lists.specs.Room.{Member, Room, has_member, member_of, status_in, colour_in, status_of, colour_of}
use Rattle.lobby_model.specs.State.{State, Battle, battle_of}
use Rattle.lobby_model.specs.Texts.{no_such_member, cannot_kick_yourself}
use Rattle.lobby_model.specs.Outcome.{Happening, Letter, Outcome, Done, done, happens, tell, user, only_told, refuse_if, message}
use Rattle.lobby_model.specs.Battles.{change_room, is_founder, as_founder, member_has, leaves_battle}
use Rattle.lobby_model.specs.Rooms.{with_member_of, kick}
use Rattle.lobby_post.specs.Posted.{Posted, Told}
use Rattle.lobby_post.proofs.Telling.{told_then}
use Rattle.battle_rules.specs.declared.rooms.Force.{Force}
use Rattle.battle_rules.specs.declared.rooms.Force.TheVariants as force
use Rattle.lobby_battles.specs.declared.battles.BattleChange.TheVariants.{InRoom, Leave}
use Rattle.lobby_maps.specs.declared.change.Change.{Change}
use Rattle.lobby_maps.specs.declared.change.Change.TheVariants.{InBattles}
use Rattle.lobby_battles.specs.Battles.{ChangesAlike, FitsRoom, left_at, room_after, room_changed}
use Rattle.lobby_battles.specs.declared.battles.RoomChange.{RoomChange}
use Rattle.battle_rules.specs.BattleTalk.{status_change}
use Rattle.battle_rules.specs.RoomTalk.{forced, forced_status, forced_colour}
use Rattle.battle_rules.specs.Answers.{Obeyed}
use Rattle.battle_rules.proofs.InBattles.{leaves_effect}
use Rattle.battle_rules.proofs.Founders.{founder_is}

module _ (s : State) (me : List ℕ) (number : ℕ) (battle : Battle) (own : battle_of s me ≡ Some (number, battle))
    (founded : is_founder me battle ≡ true) where
  module _ (name : List ℕ) (there : has_member name battle.room ≡ true) where
    member_is : (rest : ℕ → Battle → List Happening) → with_member_of s me name rest ≡ Done (rest number battle)
    member_is rest =
        founder_is s me number battle own founded (λ id b. refuse_if (not (has_member name b.room)) (message no_such_member) (Done (rest id b)))
        ∙ ap (λ b. refuse_if (not b) (message no_such_member) (Done (rest number battle))) there

    forced_is : (f : Force) → forced s me name f
        ≡ Done (member_has name (forced_status f (status_of name battle.room)) (forced_colour f (colour_of name battle.room)) number battle ∷ [])
    forced_is (force.Handicap percent) = member_is (λ id b. member_has name (with_number battle_table handicap percent (status_of name b.room))
        (colour_of name b.room) id b ∷ [])
    forced_is (force.Team n) = member_is (λ id b. member_has name (with_number battle_table team n (status_of name b.room))
        (colour_of name b.room) id b ∷ [])
    forced_is (force.Ally n) = member_is (λ id b. member_has name (with_number battle_table ally n (status_of name b.room))
        (colour_of name b.room) id b ∷ [])
    forced_is (force.Colour colour) = member_is (λ id b. member_has name (status_of name b.room) colour id b ∷ [])
    forced_is force.Spectator = member_is (λ id b. member_has name (with_number battle_table player 0 (status_of name b.room))
        (colour_of name b.room) id b ∷ [])

    pub forced_so : (c : ℕ) (old new : Posted) (f : Force) (member : Member) (status : ℕ) (colour : ℤ) (change : Change)
        → member_of name battle.room ≡ Some member → status ≡ forced_status f member.status → colour ≡ forced_colour f member.colour
        → change ≡ status_change number name status colour → Told s old new (member_has name status colour number battle).told
        → Obeyed s c old new change (forced s me name f)
    forced_so c old new f member status colour change found status_is colour_is is told =
        let comes : forced s me name f ≡ Done (member_has name status colour number battle ∷ []) =
        forced_is f
        ∙ (λ i. Done (member_has name (forced_status f (status_in (found i))) (forced_colour f (colour_in (found i))) number battle ∷ []))
        ∙ (λ i. Done (member_has name (sym status_is i) (sym colour_is i) number battle ∷ [])) in
        subst (λ o. Obeyed s c old new change o) (sym comes)
        (subst (λ x. Obeyed s c old new x (Done (member_has name status colour number battle ∷ []))) (sym is)
        (record { told = told; effect = refl; can_be = tt }))

    pub kicked_so : (c : ℕ) (old mid new : Posted) (copy : List ℕ) → same_name me name ≡ false → at_number s.battles number ≡ Some battle
        → copy ≡ name → Told s old mid (tell (user name) (reply.ForceQuitBattle ∷ []) ∷ [])
        → Told s mid new (leaves_battle name number battle).told → Obeyed s c old new (InBattles (Leave number copy)) (kick s me name)
    kicked_so c old mid new copy apart in_place copied first second =
        let happened : Outcome = Done (only_told (tell (user name) (reply.ForceQuitBattle ∷ []) ∷ []) ∷ leaves_battle name number battle ∷ []) in
        let comes : kick s me name ≡ happened =
        founder_is s me number battle own founded (λ id b. refuse_if (same_name me name) (message cannot_kick_yourself) (
        refuse_if (not (has_member name b.room)) (message no_such_member)
        (Done (only_told (tell (user name) (reply.ForceQuitBattle ∷ []) ∷ []) ∷ leaves_battle name id b ∷ []))))
        ∙ (λ i. refuse_if (apart i) (message cannot_kick_yourself) (refuse_if (not (there i)) (message no_such_member) happened)) in
        subst (λ o. Obeyed s c old new (InBattles (Leave number copy)) o) (sym comes) (record {
          told = subst (λ ls. Told s old new (tell (user name) (reply.ForceQuitBattle ∷ []) ∷ ls)) (sym (append-nil (leaves_battle name number battle).told))
              (told_then s old mid new _ _ first second);
          effect = leaves_effect s name number battle ∙ (λ i. record s { battles = left_at s.battles number (sym copied i) (sym in_place i) });
          can_be = tt;
        })

  -- a change of what members share, which in this room is what happens
  pub shared_so : (c : ℕ) (old new : Posted) (change : Change) (done_to : RoomChange) (f : Room → Room) (letter : Letter) (rest : ℕ → Battle → Outcome)
      → ChangesAlike s.battles number battle → rest number battle ≡ done (happens (λ t. change_room t number f) (letter ∷ []))
      → change ≡ InBattles (InRoom number done_to) → room_after done_to battle.room ≡ f battle.room → FitsRoom done_to
      → Told s old new (letter ∷ []) → Obeyed s c old new change (as_founder s me rest)
  shared_so c old new change done_to f letter rest alike comes is same fits told =
      subst (λ o. Obeyed s c old new change o) (sym (founder_is s me number battle own founded rest ∙ comes))
      (subst (λ x. Obeyed s c old new x (done (happens (λ t. change_room t number f) (letter ∷ [])))) (sym is) (record {
        told = told;
        effect = λ i. record s {
          battles = alike (λ b. record b { room = f b.room }) (room_changed (room_after done_to)) (λ j. record battle { room = sym same j }) i;
        };
        can_be = fits;
      }))

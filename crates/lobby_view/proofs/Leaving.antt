-- A member leaves a battle, with its bots, seen by another user.
use Rattle.std.proofs.Common.{◌≡◌, ℕ, List, [], ◌∷◌, ◌++◌, refl, sym, ap, ◌∙◌, Bool, true, false, not}
use Rattle.std.specs.Prelude.{Option, Some, None, map, filter, if◌then◌else◌}
use Rattle.std.specs.List.{IsDistinct, list_any}
use Rattle.reply_kinds.specs.declared.Reply.{Reply}
use Rattle.reply_kinds.specs.declared.Reply.TheVariants as reply
use Rattle.line_words.specs.Table.{at_number, change_number, same_number, same_name, is_among, all_but}
use Rattle.line_words.proofs.Tables.{same_name_itself}
use Rattle.line_words.proofs.Once.{apart_either_way}
use Rattle.room_lists.specs.Room.{Room, Bot, without_member, all_members_but, without_bot, bots_of}
use Rattle.lobby_model.specs.State.{State, Battle, battle_of}
use Rattle.lobby_model.specs.Battles.{change_room, members, member_leaves}
use Rattle.lobby_model.specs.Sound.{Sound, bot_names}
use Rattle.lobby_model.proofs.Delivered.{same_itself}
use Rattle.lobby_model.proofs.RoomsKept.{names_without}
use Rattle.lobby_view.specs.View.{View, OwnRoom, shown, shown_all, change_members, in_room_of}
use Rattle.lobby_view.specs.Observe.{observe, shared, own_room}
use Rattle.lobby_view.proofs.Basics.{Seen, shown_all-append, owned, inside, all_done, room_lines_shown}
use Rattle.lobby_view.proofs.OwnBattle.{its_battle, not_its_battle}
use Rattle.lobby_view.proofs.Changed.{room_changed, not_own}
use Rattle.lobby_view.proofs.Distinct.{first_apart, stays, none_dropped, none_in_fewer, among_names}
use Rattle.std.proofs.lemmas.Bool.{or_parts}

-- one bot dropped by its name, and each of some
abbrev drop_one : List ℕ → List Bot → List Bot
drop_one name bots = filter (λ b. not (same_name name b.name)) bots

abbrev drop_each : List Bot → List Bot → List Bot
drop_each [] bots = bots
drop_each (d ∷ ds) bots = drop_each ds (drop_one d.name bots)

abbrev removed : ℕ → Bot → Reply
removed id b = reply.RemoveBot id b.name

drop_done : (id : ℕ) (ds : List Bot) (room : Room)
    → all_done (removed id) (λ b. without_bot b.name) ds room ≡ record room { bots = drop_each ds room.bots }
drop_done id [] room = refl
drop_done id (d ∷ ds) room = drop_done id ds (without_bot d.name room)

abbrev is_named : List ℕ → Bot → Bool
is_named name b = same_name name b.name

-- one of another name than those who are dropped
first_stays : (ds : List Bot) (b : Bot) (bots : List Bot) → list_any (is_named b.name) ds ≡ false → drop_each ds (b ∷ bots) ≡ b ∷ drop_each ds bots
first_stays [] b bots out = refl
first_stays (d ∷ ds) b bots out =
    let apart = or_parts _ _ out in
    ap (λ t. drop_each ds (if not t then b ∷ drop_one d.name bots else drop_one d.name bots)) (apart_either_way b.name d.name apart.0)
    ∙ first_stays ds b (drop_one d.name bots) apart.1

abbrev mine_of : List ℕ → List Bot → List Bot
mine_of owner bots = filter (λ b. same_name owner b.owner) bots

abbrev others_of : List ℕ → List Bot → List Bot
others_of owner bots = filter (λ b. not (same_name owner b.owner)) bots

-- where names differ, to drop one's bots by their names is to drop one's bots
drop_mine : (owner : List ℕ) (bots : List Bot) → IsDistinct same_name (bot_names bots) → drop_each (mine_of owner bots) bots ≡ others_of owner bots
drop_mine owner [] once = refl
drop_mine owner (b ∷ bots) once =
    let apart = first_apart b.name (bot_names bots) once in
    let none = sym (among_names (λ b. b.name) b.name bots) ∙ apart.0 in
    let rest = drop_mine owner bots apart.1 in
    elim (same_name owner b.owner) as (λ t. drop_each (if t then b ∷ mine_of owner bots else mine_of owner bots) (b ∷ bots)
    ≡ (if not t then b ∷ others_of owner bots else others_of owner bots)) [
      | true ↦
          ap (λ t. drop_each (mine_of owner bots) (if not t then b ∷ drop_one b.name bots else drop_one b.name bots)) (same_name_itself b.name)
          ∙ ap (drop_each (mine_of owner bots)) (none_dropped (is_named b.name) bots none) ∙ rest
      | false ↦
          first_stays (mine_of owner bots) b bots (none_in_fewer (is_named b.name) (λ b. same_name owner b.owner) bots none) ∙ ap (λ bots. b ∷ bots) rest
    ]

pub in_its_own : (id : ℕ) (f : Room → Room) (room : Room) → in_room_of id f (Some (owned id room)) ≡ Some (owned id (f room))
in_its_own id f room = ap (λ b. if b then Some (owned id (f room)) else Some (owned id room)) (same_itself id)

module _ (s : State) (sound : Sound s) (u : List ℕ) (id : ℕ) (battle : Battle) (there : at_number s.battles id ≡ Some battle) (name : List ℕ) where
  abbrev bots_left : Room
  bots_left = record (shared battle.room) { bots = others_of name battle.room.bots }

  abbrev removals : List Reply
  removals = map (removed id) (bots_of name battle.room)

  -- to a member, the bots of one who leaves go first
  pub bots_gone : (v : View) → shown_all (inside v id (shared battle.room)) removals ≡ inside v id bots_left
  bots_gone v =
      room_lines_shown (removed id) (λ b. without_bot b.name) id
      (λ v b room. ap (λ own. record v { own = own }) (in_its_own id (without_bot b.name) room))
      v (bots_of name battle.room) (shared battle.room)
      ∙ ap (inside v id) (drop_done id (bots_of name battle.room) (shared battle.room)
      ∙ ap (λ bots. record (shared battle.room) { bots = bots }) (drop_mine name battle.room.bots (sound.battles.each id battle there).room.bots))

  module _ (apart : same_name u name ≡ false) where
    abbrev left_view : Option OwnRoom → View
    left_view own = record (observe s u) { battles = change_number (observe s u).battles id (change_members (all_but name)); own = own }

    observed : observe (change_room s id (without_member name)) u ≡ left_view (in_room_of id (without_member name) (own_room (battle_of s u)))
    observed = room_changed id (without_member name) (all_but name) (names_without name) u (stays name u apart) (without_member name) (λ room. refl) s

    left_shown : (own : Option OwnRoom)
        → shown (record (observe s u) { own = own }) (reply.LeftBattle id name) ≡ left_view (in_room_of id (all_members_but name) own)
    left_shown None = refl
    left_shown (Some own) =
        let rest = Some (owned own.battle (all_members_but name own.room)) in
        ap (λ b. left_view (if same_number id own.battle then (if b then None else rest) else Some own)) apart

    seen_inside : battle_of s u ≡ Some (id, battle)
        → shown_all (observe s u) (removals ++ reply.LeftBattle id name ∷ []) ≡ observe (change_room s id (without_member name)) u
    seen_inside own =
        shown_all-append (observe s u) removals (reply.LeftBattle id name ∷ [])
        ∙ ap (λ w. shown w (reply.LeftBattle id name))
        (ap (λ o. shown_all (record (observe s u) { own = own_room o }) removals) own ∙ bots_gone (observe s u))
        ∙ left_shown (Some (owned id bots_left))
        ∙ ap left_view (in_its_own id (all_members_but name) bots_left ∙ sym (in_its_own id (without_member name) (shared battle.room))
        ∙ ap (λ o. in_room_of id (without_member name) (own_room o)) (sym own))
        ∙ sym observed

    seen_outside : is_among u (members battle) ≡ false
        → shown (observe s u) (reply.LeftBattle id name) ≡ observe (change_room s id (without_member name)) u
    seen_outside out =
        let other = not_its_battle s sound u id battle there out in
        left_shown (own_room (battle_of s u))
        ∙ ap left_view (not_own id (all_members_but name) (battle_of s u) other ∙ sym (not_own id (without_member name) (battle_of s u) other))
        ∙ sym observed

    -- another user, in the battle or not
    pub other_leaves_seen : (mine : Bool) → Seen s mine u (member_leaves name id battle)
    other_leaves_seen mine =
        elim (is_among u (members battle)) as (λ b. is_among u (members battle) ≡ b
        → shown_all (observe s u) ((if b then removals else []) ++ reply.LeftBattle id name ∷ [])
        ≡ observe (change_room s id (without_member name)) u) [
          | true ↦ λ in_it. seen_inside (its_battle s sound u id battle there in_it)
          | false ↦ λ out. seen_outside out
        ] refl

-- What happens in a battle's room, where nobody enters or leaves: seen by its members and by others.
use Rattle.std.proofs.Common.{◌≡◌, ℕ, ℤ, List, [], ◌∷◌, ◌++◌, refl, sym, ap, ◌∙◌, Bool, true, false, append-nil}
use Rattle.std.specs.Prelude.{Some, if◌then◌else◌}
use Rattle.reply_kinds.specs.declared.Reply.{Reply}
use Rattle.reply_kinds.specs.declared.Reply.TheVariants as reply
use Rattle.line_words.specs.declared.lists.Pair.{Pair}
use Rattle.line_words.specs.Table.{at_number, same_name, is_among, all_but}
use Rattle.room_lists.specs.Tags.{has_tag, without_tag, without_tags, keys_there}
use Rattle.room_lists.specs.Units.{without_units, words_new, words_there}
use Rattle.room_lists.specs.Room.{Room, Bot, Rect, member_names, with_status, with_bot, with_bot_status, without_bot, with_rect, without_rect, set_tags, remove_tags, disable_units, enable_units, enable_all}
use Rattle.room_lists.proofs.Listed.{new_alone}
use Rattle.lobby_model.specs.State.{State, Battle, battle_of}
use Rattle.lobby_model.specs.Battles.{change_room, in_room, members, member_has, bot_line, rect_line}
use Rattle.lobby_model.specs.Rooms.{bot_has, removed_line, disabled_line, enabled_line}
use Rattle.lobby_model.specs.Sound.{Sound}
use Rattle.lobby_model.proofs.Clauses.{told_members}
use Rattle.lobby_model.proofs.RoomsKept.{names_with_status}
use Rattle.lobby_view.specs.View.{View, shown_all, in_room_of}
use Rattle.lobby_view.specs.Observe.{observe, shared, own_room}
use Rattle.lobby_view.proofs.Basics.{Seen, IsQuiet, owned, inside}
use Rattle.lobby_view.proofs.OwnBattle.{its_battle, not_its_battle}
use Rattle.lobby_view.proofs.Changed.{room_of_same, not_own}
use Rattle.lobby_view.proofs.Distinct.{none_dropped}
use Rattle.lobby_view.proofs.Leaving.{in_its_own}

-- keys that are not there take no tag away
keys_suffice : (keys : List (List ℕ)) (tags : List Pair) → without_tags tags (keys_there tags keys) ≡ without_tags tags keys
keys_suffice [] tags = refl
keys_suffice (key ∷ keys) tags =
    elim (has_tag key tags) as (λ b. has_tag key tags ≡ b
    → without_tags tags (if b then key ∷ keys_there (without_tag key tags) keys else keys_there tags keys) ≡ without_tags (without_tag key tags) keys) [
      | true ↦ λ there. keys_suffice keys (without_tag key tags)
      | false ↦ λ absent. keys_suffice keys tags ∙ ap (λ ts. without_tags ts keys) (sym (none_dropped (λ t. same_name key t.key) tags absent))
    ] refl

-- those that are not disabled enable none
there_suffice : (words units : List (List ℕ)) → without_units units (words_there units words) ≡ without_units units words
there_suffice [] units = refl
there_suffice (word ∷ words) units =
    elim (is_among word units) as (λ b. is_among word units ≡ b
    → without_units units (if b then word ∷ words_there (all_but word units) words else words_there units words)
    ≡ without_units (all_but word units) words) [
      | true ↦ λ there. there_suffice words (all_but word units)
      | false ↦ λ absent. there_suffice words units ∙ ap (λ left. without_units left words) (sym (none_dropped (same_name word) units absent))
    ] refl

module _ (s : State) (sound : Sound s) (id : ℕ) (battle : Battle) (there : at_number s.battles id ≡ Some battle) (mine : Bool) (u : List ℕ) where
  -- a line that names the battle
  by_number : (f : Room → Room) (v : View)
      → record v { own = in_room_of id f (Some (owned id (shared battle.room))) } ≡ inside v id (f (shared battle.room))
  by_number f v = ap (λ own. record v { own = own }) (in_its_own id f (shared battle.room))

  -- f, of the members and of what they share alone
  module _ (f : Room → Room) (lines : List Reply) (keeps : (room : Room) → member_names (f room) ≡ member_names room)
      (shares : (room : Room) → shared (f room) ≡ f (shared room))
      (shows : (v : View) → shown_all (inside v id (shared battle.room)) lines ≡ inside v id (f (shared battle.room))) where
    changed : observe (change_room s id f) u ≡ record (observe s u) { own = in_room_of id f (observe s u).own }
    changed = room_of_same id f f keeps shares u s

    told_members_seen : Seen s mine u (told_members id battle f lines)
    told_members_seen =
        elim (is_among u (members battle)) as (λ b. is_among u (members battle) ≡ b
        → shown_all (observe s u) ((if b then lines else []) ++ []) ≡ observe (change_room s id f) u) [
          | true ↦ λ in_it.
              let own = its_battle s sound u id battle there in_it in
              ap (shown_all (observe s u)) (append-nil lines)
              ∙ ap (λ o. shown_all (record (observe s u) { own = own_room o }) lines) own
              ∙ shows (observe s u)
              ∙ sym (by_number f (observe s u))
              ∙ ap (λ o. record (observe s u) { own = in_room_of id f (own_room o) }) (sym own)
              ∙ sym changed
          | false ↦ λ out.
              ap (λ o. record (observe s u) { own = o }) (sym (not_own id f (battle_of s u) (not_its_battle s sound u id battle there out)))
              ∙ sym changed
        ] refl

  pub status_seen : (name : List ℕ) (status : ℕ) (colour : ℤ) → Seen s mine u (member_has name status colour id battle)
  status_seen name status colour =
      told_members_seen (with_status name status colour) (reply.ClientBattleStatus name status colour ∷ []) (names_with_status name status colour)
      (λ room. refl) (λ v. refl)

  pub bot_added_seen : (bot : Bot) → Seen s mine u (in_room id battle (with_bot bot) (bot_line id bot))
  bot_added_seen bot = told_members_seen (with_bot bot) (bot_line id bot ∷ []) (λ room. refl) (λ room. refl) (by_number (with_bot bot))

  pub bot_status_seen : (name : List ℕ) (status : ℕ) (colour : ℤ) → Seen s mine u (bot_has name status colour id battle)
  bot_status_seen name status colour =
      told_members_seen (with_bot_status name status colour) (reply.UpdateBot id name status colour ∷ []) (λ room. refl) (λ room. refl)
      (by_number (with_bot_status name status colour))

  pub bot_removed_seen : (name : List ℕ) → Seen s mine u (in_room id battle (without_bot name) (reply.RemoveBot id name))
  bot_removed_seen name = told_members_seen (without_bot name) (reply.RemoveBot id name ∷ []) (λ room. refl) (λ room. refl) (by_number (without_bot name))

  pub rect_added_seen : (ally : ℕ) (rect : Rect) → Seen s mine u (in_room id battle (with_rect ally rect) (rect_line ally rect))
  rect_added_seen ally rect = told_members_seen (with_rect ally rect) (rect_line ally rect ∷ []) (λ room. refl) (λ room. refl) (λ v. refl)

  pub rect_removed_seen : (ally : ℕ) → Seen s mine u (in_room id battle (without_rect ally) (reply.RemoveStartRect ally))
  rect_removed_seen ally = told_members_seen (without_rect ally) (reply.RemoveStartRect ally ∷ []) (λ room. refl) (λ room. refl) (λ v. refl)

  pub tags_set_seen : (pairs : List Pair) → Seen s mine u (in_room id battle (set_tags pairs) (reply.SetScriptTags pairs))
  tags_set_seen pairs = told_members_seen (set_tags pairs) (reply.SetScriptTags pairs ∷ []) (λ room. refl) (λ room. refl) (λ v. refl)

  removed_shown : (v : View) (keys : List (List ℕ))
      → shown_all (inside v id (shared battle.room)) (removed_line keys) ≡ inside v id (remove_tags keys (shared battle.room))
  removed_shown v [] = refl
  removed_shown v (key ∷ keys) = refl

  pub tags_removed_seen : (keys : List (List ℕ))
      → Seen s mine u (told_members id battle (remove_tags keys) (removed_line (keys_there battle.room.tags keys)))
  tags_removed_seen keys =
      told_members_seen (remove_tags keys) (removed_line (keys_there battle.room.tags keys)) (λ room. refl) (λ room. refl)
      (λ v. removed_shown v (keys_there battle.room.tags keys)
      ∙ ap (λ tags. inside v id (record (shared battle.room) { tags = tags })) (keys_suffice keys battle.room.tags))

  disabled_shown : (v : View) (units : List (List ℕ))
      → shown_all (inside v id (shared battle.room)) (disabled_line units) ≡ inside v id (disable_units units (shared battle.room))
  disabled_shown v [] = refl
  disabled_shown v (unit ∷ units) = refl

  pub units_disabled_seen : (words : List (List ℕ))
      → Seen s mine u (told_members id battle (disable_units words) (disabled_line (words_new battle.room.units words)))
  units_disabled_seen words =
      told_members_seen (disable_units words) (disabled_line (words_new battle.room.units words)) (λ room. refl) (λ room. refl)
      (λ v. disabled_shown v (words_new battle.room.units words)
      ∙ ap (λ units. inside v id (record (shared battle.room) { units = units })) (new_alone words battle.room.units))

  enabled_shown : (v : View) (units : List (List ℕ))
      → shown_all (inside v id (shared battle.room)) (enabled_line units) ≡ inside v id (enable_units units (shared battle.room))
  enabled_shown v [] = refl
  enabled_shown v (unit ∷ units) = refl

  pub units_enabled_seen : (words : List (List ℕ))
      → Seen s mine u (told_members id battle (enable_units words) (enabled_line (words_there battle.room.units words)))
  units_enabled_seen words =
      told_members_seen (enable_units words) (enabled_line (words_there battle.room.units words)) (λ room. refl) (λ room. refl)
      (λ v. enabled_shown v (words_there battle.room.units words)
      ∙ ap (λ units. inside v id (record (shared battle.room) { units = units })) (there_suffice words battle.room.units))

  pub all_enabled_seen : Seen s mine u (in_room id battle enable_all reply.EnableAllUnits)
  all_enabled_seen = told_members_seen enable_all (reply.EnableAllUnits ∷ []) (λ room. refl) (λ room. refl) (λ v. refl)

  -- said in a battle
  pub said_seen : (line : Reply) → IsQuiet line → Seen s mine u (in_room id battle (λ room. room) line)
  said_seen line quiet = told_members_seen (λ room. room) (line ∷ []) (λ room. refl) (λ room. refl) (λ v. quiet (inside v id (shared battle.room)))

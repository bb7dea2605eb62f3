use Rattle.std.proofs.Common.{◌≡◌, ◌∙◌, [], ◌∷◌, ap, refl, subst}
use Rattle.std.specs.Prelude.{List, ℕ}
use Rattle.room_lists.specs.Room.{member_names, remove_tags}
use Rattle.room_lists.specs.Tags.{keys_there}
use Rattle.lobby_model.specs.State.{Battle}
use Rattle.lobby_model.specs.Outcome.{done, happens, tell, users}
use Rattle.lobby_model.specs.Battles.{change_room}
use Rattle.lobby_model.specs.Rooms.{removed_line}
use Rattle.lobby_post.specs.Posted.{Told}
use Rattle.lobby_battles.specs.declared.battles.RoomChange.TheVariants.{RemoveTags}
use Rattle.battle_rules.proofs.Forced.{shared_so}
use Rattle.battle_rules.proofs.rooms.remove_script_tags.Goals as goal

pub returns : goal.returns
returns c =
    let s = c.args.by.now.maps.now.plain in
    let battle = c.in_ok-number.battle.now in
    let keys = c.args.keys.now in
    let told = λ (there : List (List ℕ)). tell (users (member_names battle.room)) (removed_line there) in
    let same = c.in_ok-there.ensures.alike ∙ ap (λ (ws : List (List ℕ)). remove_tags ws c.battle.inside.room) c.as_slice.ensures in
    let line = c.as_slice-2.ensures ∙ c.in_ok-there.ensures.there ∙ ap (λ (ws : List (List ℕ)). keys_there c.battle.inside.room.tags ws) c.as_slice.ensures in
    let both = subst (λ (b : Battle). (remove_tags c.in_ok-there.there b.room ≡ remove_tags keys b.room)
    × Told s c.args.post.now c.tell_words.new.post (tell (users (member_names b.room)) (removed_line (keys_there b.room.tags keys)) ∷ [])) c.battle.view_is (
      same,
      subst (λ (ws : List (List ℕ)). Told s c.args.post.now c.tell_words.new.post (tell (users (member_names c.battle.inside.room)) (removed_line ws) ∷ [])) line
          c.in_ok-tell_words.ensures,
    ) in
    shared_so s c.args.by.now.me.now c.in_ok-number.number battle c.in_ok-number.ensures.ok c.in_ok-founded_by.ensures.ok
    c.args.by.now.client c.args.post.now c.tell_words.new.post c.in_room.result (RemoveTags c.in_ok-there.there) (remove_tags keys)
    (told (keys_there battle.room.tags keys))
    (λ id b. done (happens (λ t. change_room t id (remove_tags keys)) (tell (users (member_names b.room)) (removed_line (keys_there b.room.tags keys)) ∷ [])))
    c.in_ok-number.ensures.alike refl c.in_room.ensures both.0 tt both.1

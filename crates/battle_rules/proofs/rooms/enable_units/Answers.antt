use Rattle.std.proofs.Common.{◌≡◌, ◌∙◌, [], ◌∷◌, ap, refl, subst}
use Rattle.std.specs.Prelude.{List, ℕ}
use Rattle.room_lists.specs.Room.{enable_units, member_names}
use Rattle.room_lists.specs.Units.{words_there}
use Rattle.lobby_model.specs.State.{Battle}
use Rattle.lobby_model.specs.Outcome.{done, happens, tell, users}
use Rattle.lobby_model.specs.Battles.{change_room}
use Rattle.lobby_model.specs.Rooms.{enabled_line}
use Rattle.lobby_post.specs.Posted.{Told}
use Rattle.lobby_battles.specs.declared.battles.RoomChange.TheVariants.{EnableUnits}
use Rattle.battle_rules.proofs.Forced.{shared_so}
use Rattle.battle_rules.proofs.rooms.enable_units.Goals as goal

pub returns : goal.returns
returns c =
    let s = c.args.by.now.maps.now.plain in
    let battle = c.in_ok-number.battle.now in
    let words = c.args.units.now in
    let told = λ (there : List (List ℕ)). tell (users (member_names battle.room)) (enabled_line there) in
    let same = c.in_ok-there.ensures.alike ∙ ap (λ (ws : List (List ℕ)). enable_units ws c.battle.inside.room) c.as_slice.ensures in
    let line = c.as_slice-2.ensures ∙ c.in_ok-there.ensures.there ∙ ap (λ (ws : List (List ℕ)). words_there c.battle.inside.room.units ws) c.as_slice.ensures in
    let both = subst (λ (b : Battle). (enable_units c.in_ok-there.there b.room ≡ enable_units words b.room)
    × Told s c.args.post.now c.tell_words.new.post (tell (users (member_names b.room)) (enabled_line (words_there b.room.units words)) ∷ [])) c.battle.view_is (
      same,
      subst (λ (ws : List (List ℕ)). Told s c.args.post.now c.tell_words.new.post (tell (users (member_names c.battle.inside.room)) (enabled_line ws) ∷ [])) line
          c.in_ok-tell_words.ensures,
    ) in
    shared_so s c.args.by.now.me.now c.in_ok-number.number battle c.in_ok-number.ensures.ok c.in_ok-founded_by.ensures.ok
    c.args.by.now.client c.args.post.now c.tell_words.new.post c.in_room.result (EnableUnits c.in_ok-there.there) (enable_units words)
    (told (words_there battle.room.units words))
    (λ id b. done (happens (λ t. change_room t id (enable_units words)) (tell (users (member_names b.room)) (enabled_line (words_there b.room.units words)) ∷ [])))
    c.in_ok-number.ensures.alike refl c.in_room.ensures both.0 tt both.1

use Rattle.std.proofs.Common.{◌≡◌, ◌∙◌, [], ◌∷◌, ap, subst, false}
use Rattle.std.specs.Prelude.{List, ℕ, Bool}
use Rattle.room_lists.specs.Room.{disable_units, has_too_many_units, member_names}
use Rattle.room_lists.specs.Units.{with_units, words_new}
use Rattle.lobby_model.specs.Texts.{too_many_units}
use Rattle.lobby_model.specs.State.{Battle}
use Rattle.lobby_model.specs.Outcome.{done, happens, message, refuse_if, tell, users}
use Rattle.lobby_model.specs.Battles.{change_room}
use Rattle.lobby_model.specs.Rooms.{disabled_line}
use Rattle.lobby_post.specs.Posted.{Told}
use Rattle.lobby_battles.specs.declared.battles.RoomChange.TheVariants.{DisableUnits}
use Rattle.battle_rules.proofs.Forced.{shared_so}
use Rattle.battle_rules.proofs.rooms.disable_units.Goals as goal

pub returns : goal.returns
returns c =
    let s = c.args.by.now.maps.now.plain in
    let battle = c.in_ok-number.battle.now in
    let words = c.args.units.now in
    let told = λ (new : List (List ℕ)). tell (users (member_names battle.room)) (disabled_line new) in
    let said = c.as_slice.ensures in
    let room = subst (λ (ws : List (List ℕ)). has_too_many_units (with_units battle.room.units ws) ≡ false) said c.in_ok-new.ensures.ok in
    let line = c.as_slice-2.ensures ∙ c.in_ok-new.ensures.new ∙ ap (words_new battle.room.units) said in
    let heard = subst (λ (b : Battle). Told s c.args.post.now c.tell_words.new.post (tell (users (member_names b.room)) (disabled_line (words_new battle.room.units words)) ∷ []))
    c.battle.view_is
    (subst (λ (ws : List (List ℕ)). Told s c.args.post.now c.tell_words.new.post (tell (users (member_names c.battle.inside.room)) (disabled_line ws) ∷ [])) line
    c.in_ok-tell_words.ensures) in
    shared_so s c.args.by.now.me.now c.in_ok-number.number battle c.in_ok-number.ensures.ok c.in_ok-founded_by.ensures.ok
    c.args.by.now.client c.args.post.now c.tell_words.new.post c.in_room.result (DisableUnits c.in_ok-new.new) (disable_units words)
    (told (words_new battle.room.units words))
    (λ id b. refuse_if (has_too_many_units (with_units b.room.units words)) (message too_many_units)
    (done (happens (λ t. change_room t id (disable_units words)) (tell (users (member_names b.room)) (disabled_line (words_new b.room.units words)) ∷ []))))
    c.in_ok-number.ensures.alike
    (ap (λ (b : Bool). refuse_if b (message too_many_units)
    (done (happens (λ t. change_room t c.in_ok-number.number (disable_units words)) (told (words_new battle.room.units words) ∷ [])))) room)
    c.in_room.ensures (c.in_ok-new.ensures.alike ∙ ap (λ (ws : List (List ℕ)). disable_units ws battle.room) said) tt heard

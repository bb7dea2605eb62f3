use Rattle.std.proofs.Common.{◌≡◌, ◌∙◌, [], ◌∷◌, ap, subst, false}
use Rattle.std.specs.Prelude.{Bool, List}
use Rattle.line_words.specs.declared.lists.Pair.{Pair}
use Rattle.reply_kinds.specs.declared.Reply.TheVariants as reply
use Rattle.room_lists.specs.Room.{has_too_many_tags, member_names, set_tags}
use Rattle.room_lists.specs.Tags.{with_tags}
use Rattle.lobby_model.specs.Texts.{too_many_tags}
use Rattle.lobby_model.specs.State.{Battle}
use Rattle.lobby_post.specs.Posted.{Told}
use Rattle.lobby_model.specs.Outcome.{done, message, refuse_if, tell, users}
use Rattle.lobby_model.specs.Battles.{in_room}
use Rattle.lobby_battles.specs.declared.battles.RoomChange.TheVariants.{SetTags}
use Rattle.battle_rules.proofs.Forced.{shared_so}
use Rattle.battle_rules.proofs.rooms.set_script_tags.Goals as goal

pub returns : goal.returns
returns c =
    let s = c.args.by.now.maps.now.plain in
    let battle = c.in_ok-number.battle.now in
    let pairs = c.args.pairs.now in
    let said = c.as_slice.ensures in
    let room = subst (λ (ps : List Pair). has_too_many_tags (with_tags battle.room.tags ps) ≡ false) said c.in_ok-last.ensures.ok in
    let heard = subst (λ (b : Battle). Told s c.args.post.now c.tell_room.new.post (tell (users (member_names b.room)) (reply.SetScriptTags pairs ∷ []) ∷ []))
    c.battle.view_is
    (subst (λ (ps : List Pair). Told s c.args.post.now c.tell_room.new.post (tell (users (member_names c.battle.inside.room)) (reply.SetScriptTags ps ∷ []) ∷ []))
    c.as_slice-2.ensures c.in_ok-tell_room.ensures) in
    shared_so s c.args.by.now.me.now c.in_ok-number.number battle c.in_ok-number.ensures.ok c.in_ok-founded_by.ensures.ok
    c.args.by.now.client c.args.post.now c.tell_room.new.post c.in_room.result (SetTags c.in_ok-last.last) (set_tags pairs)
    (tell (users (member_names battle.room)) (reply.SetScriptTags pairs ∷ []))
    (λ id b. refuse_if (has_too_many_tags (with_tags b.room.tags pairs)) (message too_many_tags) (done (in_room id b (set_tags pairs) (reply.SetScriptTags pairs))))
    c.in_ok-number.ensures.alike
    (ap (λ (b : Bool). refuse_if b (message too_many_tags) (done (in_room c.in_ok-number.number battle (set_tags pairs) (reply.SetScriptTags pairs)))) room)
    c.in_room.ensures (c.in_ok-last.ensures.alike ∙ ap (λ (ps : List Pair). set_tags ps battle.room) said) tt heard

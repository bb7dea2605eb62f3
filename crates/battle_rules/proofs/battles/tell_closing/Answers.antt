use Rattle.std.proofs.Common.{◌≡◌, ℕ, List, [], ◌∷◌, sym, subst}
use Rattle.std.proofs.lemmas.Result.{on_ok_weaker}
use Rattle.reply_kinds.specs.declared.Reply.TheVariants as reply
use Rattle.room_lists.specs.Room.{Room, asker_names}
use Rattle.lobby_model.specs.State.{State}
use Rattle.lobby_model.specs.Outcome.{Letter, tell, users}
use Rattle.lobby_model.specs.Texts.{battle_was_closed}
use Rattle.lobby_post.specs.Posted.{Posted, Told}
use Rattle.lobby_post.proofs.Telling.{told_then}
use Rattle.battle_rules.specs.declared.battles.Leaving.{Leaving}
use Rattle.battle_rules.specs.BattleTalk.{shown_to}
use Rattle.battle_rules.proofs.battles.tell_closing.Goals as goal
use Rattle.battle_rules.proofs.battles.tell_closing.Goals.{in-Seen+in_ok-tell_askers-in-Seen, in-Unseen+in_ok-tell_other_askers-in-Unseen}

-- that it closes, to those who ask to join it
abbrev closed_to : Leaving → Room → List ℕ → List Letter
closed_to leaving room text = shown_to leaving (tell (users (asker_names room)) (reply.JoinBattleFailed text ∷ [])) ∷ []

-- as it was told to one who leaves it so
asked_told : (s : State) (old mid now : Posted) (leaving told_as : Leaving) (room : Room) (text : List ℕ) → leaving ≡ told_as → text ≡ battle_was_closed
    → now ≡ mid → Told s old mid (closed_to told_as room text) → Told s old now (closed_to leaving room battle_was_closed)
asked_told s old mid now leaving told_as room text is words same told =
    subst (λ p. Told s old p (closed_to leaving room battle_was_closed)) (sym same)
    (subst (λ l. Told s old mid (closed_to l room battle_was_closed)) (sym is) (subst (λ t. Told s old mid (closed_to told_as room t)) words told))

pub returns : goal.returns
returns c =
    let first : Told c.args.maps.now.plain c.args.post.now c.match-leaving.post (closed_to c.args.leaving c.args.room.now battle_was_closed) = elim c.match-leaving.branch [
      | in-Seen+in_ok-tell_askers-in-Seen w ↦ asked_told c.args.maps.now.plain c.args.post.now w.tell_askers.new.post c.match-leaving.post c.args.leaving _ c.args.room.now
          c.lend-text.result w.in-Seen.is c.lend-text.ensures w.post-is w.in_ok-tell_askers-in-Seen.ensures
      | in-Unseen+in_ok-tell_other_askers-in-Unseen w ↦ asked_told c.args.maps.now.plain c.args.post.now w.tell_other_askers.new.post c.match-leaving.post c.args.leaving _
          c.args.room.now c.lend-text.result w.in-Unseen.is c.lend-text.ensures w.post-is w.in_ok-tell_other_askers-in-Unseen.ensures
    ] in
    on_ok_weaker _ (λ then. told_then c.args.maps.now.plain c.args.post.now c.match-leaving.post c.tell_leaving_all.new.post _ _ first then) c.tell_leaving_all.ensures

use Rattle.std.proofs.Common.{subst, [], ◌∷◌}
use Rattle.room_lists.specs.Room.{member_names}
use Rattle.lobby_model.specs.State.{Battle}
use Rattle.lobby_model.specs.Outcome.{tell, users}
use Rattle.lobby_post.specs.Posted.{Told}
use Rattle.battle_rules.proofs.InBattles.{said_so}
use Rattle.battle_rules.proofs.battles.say_in_battle.Goals as goal

pub returns : goal.returns
returns c =
    said_so c.args.by.now.maps.now.plain c.args.by.now.client c.args.post.now c.tell_room.new.post c.args.by.now.me.now _ c.in_ok-battle.battle.now c.args.line
    c.in_ok-battle.ensures.ok
    (subst (λ (b : Battle). Told c.args.by.now.maps.now.plain c.args.post.now c.tell_room.new.post (tell (users (member_names b.room)) (c.args.line ∷ [])
    ∷ [])) c.battle.view_is c.in_ok-tell_room.ensures)

use Rattle.std.proofs.Common.{◌∙◌, ap, sym}
use Rattle.std.specs.Prelude.{option_copied}
use Rattle.lobby_machine.proofs.Leaves.{nobody_departs, user_departs}
use Rattle.lobby_machine.proofs.rules.session.log_out.Goals as goal

pub returns-in_default : goal.returns-in_default
returns-in_default c =
    rw c.in_default.is
    (nobody_departs c.args.maps.now.plain c.args.client c.args.stays c.args.post.now (ap option_copied (sym c.in_default.is) ∙ c.requires))

pub returns : goal.returns
returns c =
    rw c.in-Some.is
    (user_departs c.args.maps.now.plain c.args.client c.in-Some.me.now c.args.stays c.args.post.now c.tell_left.new.post c.tell_battle_left.new.post
    c.tell_others.new.post c.copy.result c.asked_by-asks.result c.in_ok-battle.battle
    (ap option_copied (sym c.in-Some.is) ∙ c.requires) c.copy.ensures
    c.asked_by-asks.ensures.some c.asked_by-asks.ensures.none c.asked_by-asks.ensures.only c.in_ok-battle.ensures.number c.in_ok-battle.ensures.only
    c.in_ok-battle.ensures.there c.in_ok-tell_left.ensures c.in_ok-battle.ensures.told c.in_ok-tell_others.ensures)

use Rattle.battle_rules.proofs.Forced.{kicked_so}
use Rattle.battle_rules.proofs.rooms.kick.Goals as goal

pub returns : goal.returns
returns c =
    kicked_so c.args.by.now.maps.now.plain c.args.by.now.me.now c.in_ok-number.number c.in_ok-number.battle.now c.in_ok-number.ensures.ok c.in_ok-founded_by.ensures.ok
    c.args.name.now c.in_ok-member_named.ensures.has c.args.by.now.client c.args.post.now c.tell_user.new.post c.tell_leaving.new.post c.copy.result
    c.in_ok-not_oneself.ensures.ok c.in_ok-number.ensures.there c.copy.ensures c.in_ok-tell_user.ensures c.in_ok-tell_leaving.ensures

use Rattle.std.proofs.Common.{to_z, of_z, w64, ◌≡◌, ◌∙◌, rules}
use Rattle.battle_rules.proofs.Forced.{forced_so}
use Rattle.battle_rules.proofs.rooms.force_on_member.Goals as goal

pub returns : goal.returns
returns c =
    let kept : to_z w64 (of_z w64 c.colour-colour.result) ≡ c.colour-colour.result = search rules in
    forced_so c.args.by.now.maps.now.plain c.args.by.now.me.now c.in_ok-number.number c.in_ok-number.battle.now c.in_ok-number.ensures.ok
    c.in_ok-founded_by.ensures.ok c.args.name.now c.in_ok-member.ensures.has c.args.by.now.client c.args.post.now c.give_status.new.post c.args.force
    c.in_ok-member.member.now c.status-status.result (to_z w64 (of_z w64 c.colour-colour.result)) c.in_ok-give_status.field-0
    c.in_ok-member.ensures.ok c.status-status.ensures (kept ∙ c.colour-colour.ensures)
    c.in_ok-give_status.ensures.change c.in_ok-give_status.ensures.told

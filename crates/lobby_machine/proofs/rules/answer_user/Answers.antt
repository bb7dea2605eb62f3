use Rattle.std.proofs.Common.{◌≡◌, ◌∙◌, arith, IsTrue, ap, subst, sym, Some, rules, w64, to_z, of_z}
use Rattle.std.proofs.lemmas.Bool.{and_parts, leb-true}
use Rattle.std.specs.Prelude.{◌&&◌}
use Rattle.line_words.specs.Bytes.{is_name}
use Rattle.command_grammar.specs.declared.command.Command.{Command}
use Rattle.command_grammar.specs.declared.command.Command.TheVariants as command
use Rattle.command_grammar.specs.Kinds.{is_up_to, keeps_kinds}
use Rattle.lobby_model.specs.Outcome.{Outcome}
use Rattle.lobby_model.specs.State.{updated}
use Rattle.lobby_model.specs.Battles.{deny, update_battle}
use Rattle.lobby_model.specs.Rooms.{force_colour, update_bot}
use Rattle.lobby_model.specs.Commands.{answer}
use Rattle.battle_rules.specs.Answers.{Answers}
use Rattle.lobby_machine.proofs.rules.answer_user.Goals as goal

pub returns-in-OpenBattle : goal.returns-in-OpenBattle
returns-in-OpenBattle c =
    let r = c.in-OpenBattle in
    let game : to_z w64 (of_z w64 r.game_hash) ≡ r.game_hash = search rules in
    let rank : to_z w64 (of_z w64 r.rank) ≡ r.rank = search rules in
    let map : to_z w64 (of_z w64 r.map_hash) ≡ r.map_hash = search rules in
    subst (λ (outcome : Outcome). Answers c.args.by.now.maps.now.plain c.args.by.now.client c.args.post.now c.open_battle.new.post outcome c.open_battle.result)
    ((λ i. answer c.args.by.now.maps.now.plain c.args.by.now.client (Some c.args.by.now.me.now) (command.OpenBattle r.battle_type r.nat_type r.password r.port
    r.max_players (game i) (rank i) (map i) r.engine_name r.engine_version r.map r.title r.game_name))
    ∙ sym (ap (answer c.args.by.now.maps.now.plain c.args.by.now.client (Some c.args.by.now.me.now)) r.is)) c.open_battle.ensures

pub returns-in-UpdateBot : goal.returns-in-UpdateBot
returns-in-UpdateBot c =
    let r = c.in-UpdateBot in
    let same : to_z w64 (of_z w64 r.team_color) ≡ r.team_color = search rules in
    subst (λ (outcome : Outcome). Answers c.args.by.now.maps.now.plain c.args.by.now.client c.args.post.now c.update_bot.new.post outcome c.update_bot.result)
    ((λ i. update_bot c.args.by.now.maps.now.plain c.args.by.now.me.now r.bot r.battle_status (same i)) ∙ sym (ap (answer c.args.by.now.maps.now.plain c.args.by.now.client (Some c.args.by.now.me.now)) r.is)) c.update_bot.ensures

pub returns-in-Handicap : goal.returns-in-Handicap
returns-in-Handicap c =
    subst (λ (outcome : Outcome). Answers c.args.by.now.maps.now.plain c.args.by.now.client c.args.post.now c.force_on_member.new.post outcome c.force_on_member.result)
    (sym (ap (answer c.args.by.now.maps.now.plain c.args.by.now.client (Some c.args.by.now.me.now)) c.in-Handicap.is)) c.force_on_member.ensures

pub returns-in-ForceTeamNo : goal.returns-in-ForceTeamNo
returns-in-ForceTeamNo c =
    subst (λ (outcome : Outcome). Answers c.args.by.now.maps.now.plain c.args.by.now.client c.args.post.now c.force_on_member-in-ForceTeamNo.new.post outcome c.force_on_member-in-ForceTeamNo.result)
    (sym (ap (answer c.args.by.now.maps.now.plain c.args.by.now.client (Some c.args.by.now.me.now)) c.in-ForceTeamNo.is)) c.force_on_member-in-ForceTeamNo.ensures

pub returns-in-ForceAllyNo : goal.returns-in-ForceAllyNo
returns-in-ForceAllyNo c =
    subst (λ (outcome : Outcome). Answers c.args.by.now.maps.now.plain c.args.by.now.client c.args.post.now c.force_on_member-in-ForceAllyNo.new.post outcome c.force_on_member-in-ForceAllyNo.result)
    (sym (ap (answer c.args.by.now.maps.now.plain c.args.by.now.client (Some c.args.by.now.me.now)) c.in-ForceAllyNo.is)) c.force_on_member-in-ForceAllyNo.ensures

pub returns-in-ForceTeamColor : goal.returns-in-ForceTeamColor
returns-in-ForceTeamColor c =
    let r = c.in-ForceTeamColor in
    let same : to_z w64 (of_z w64 r.team_color) ≡ r.team_color = search rules in
    subst (λ (outcome : Outcome). Answers c.args.by.now.maps.now.plain c.args.by.now.client c.args.post.now c.force_on_member-in-ForceTeamColor.new.post outcome c.force_on_member-in-ForceTeamColor.result)
    ((λ i. force_colour c.args.by.now.maps.now.plain c.args.by.now.me.now r.user (same i)) ∙ sym (ap (answer c.args.by.now.maps.now.plain c.args.by.now.client (Some c.args.by.now.me.now)) r.is)) c.force_on_member-in-ForceTeamColor.ensures

pub returns-in-UpdateBattleInfo : goal.returns-in-UpdateBattleInfo
returns-in-UpdateBattleInfo c =
    let r = c.in-UpdateBattleInfo in
    let same : to_z w64 (of_z w64 r.map_hash) ≡ r.map_hash = search rules in
    subst (λ (outcome : Outcome). Answers c.args.by.now.maps.now.plain c.args.by.now.client c.args.post.now c.update_battle.new.post outcome c.update_battle.result)
    ((λ i. update_battle c.args.by.now.maps.now.plain c.args.by.now.me.now (updated r.spectator_count r.locked (same i) r.map)) ∙ sym (ap (answer c.args.by.now.maps.now.plain c.args.by.now.client (Some c.args.by.now.me.now)) r.is)) c.update_battle.ensures

pub returns-in-JoinBattleDeny : goal.returns-in-JoinBattleDeny
returns-in-JoinBattleDeny c =
    let r = c.in-JoinBattleDeny in
    subst (λ (outcome : Outcome). Answers c.args.by.now.maps.now.plain c.args.by.now.client c.args.post.now c.deny.new.post outcome c.deny.result)
    (ap (deny c.args.by.now.maps.now.plain c.args.by.now.me.now r.user) c.as_ref-in-JoinBattleDeny.ensures.value ∙ sym (ap (answer c.args.by.now.maps.now.plain c.args.by.now.client (Some c.args.by.now.me.now)) r.is)) c.deny.ensures

pub add_rect-requires : goal.add_rect-requires
add_rect-requires c =
    let r = c.in-AddStartRect in
    let kinds = subst (λ (x : Command). IsTrue (keeps_kinds x)) r.is c.requires.kinds in
    let four = and_parts (((is_up_to 15 r.ally_no && is_up_to 200 r.left) && is_up_to 200 r.top) && is_up_to 200 r.right) (is_up_to 200 r.bottom) kinds in
    let three = and_parts ((is_up_to 15 r.ally_no && is_up_to 200 r.left) && is_up_to 200 r.top) (is_up_to 200 r.right) four.0 in
    let two = and_parts (is_up_to 15 r.ally_no && is_up_to 200 r.left) (is_up_to 200 r.top) three.0 in
    let one = and_parts (is_up_to 15 r.ally_no) (is_up_to 200 r.left) two.0 in
    let small = leb-true r.ally_no 15 one.0 in
    omega arith

pub remove_rect-requires : goal.remove_rect-requires
remove_rect-requires c =
    let r = c.in-RemoveStartRect in
    let small = leb-true r.ally_no 15 (subst (λ (x : Command). IsTrue (keeps_kinds x)) r.is c.requires.kinds) in
    omega arith

pub force_on_member-requires : goal.force_on_member-requires
force_on_member-requires c =
    let r = c.in-Handicap in
    let kinds = subst (λ (x : Command). IsTrue (keeps_kinds x)) r.is c.requires.kinds in
    leb-true r.value 100 (and_parts (is_name r.user) (is_up_to 100 r.value) kinds).1

pub force_on_member-requires-in-ForceTeamNo : goal.force_on_member-requires-in-ForceTeamNo
force_on_member-requires-in-ForceTeamNo c =
    let r = c.in-ForceTeamNo in
    let kinds = subst (λ (x : Command). IsTrue (keeps_kinds x)) r.is c.requires.kinds in
    let small = leb-true r.number 15 (and_parts (is_name r.user) (is_up_to 15 r.number) kinds).1 in
    omega arith

pub force_on_member-requires-in-ForceAllyNo : goal.force_on_member-requires-in-ForceAllyNo
force_on_member-requires-in-ForceAllyNo c =
    let r = c.in-ForceAllyNo in
    let kinds = subst (λ (x : Command). IsTrue (keeps_kinds x)) r.is c.requires.kinds in
    let small = leb-true r.number 15 (and_parts (is_name r.user) (is_up_to 15 r.number) kinds).1 in
    omega arith

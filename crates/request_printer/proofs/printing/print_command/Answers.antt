use Rattle.request_printer.proofs.printing.print_command.Goals as goal

pub returns-in-Blank-clause-wanted : goal.returns-in-Blank-clause-wanted
returns-in-Blank-clause-wanted c = c.print_row.ensures.wanted

-- Written by tools/protocol.py of protocol/commands.toml: answers.
pub returns-in-Ping-clause-wanted : goal.returns-in-Ping-clause-wanted
returns-in-Ping-clause-wanted c = c.print_row-in-Ping.ensures.wanted

pub returns-in-Exit-clause-wanted : goal.returns-in-Exit-clause-wanted
returns-in-Exit-clause-wanted c = c.print_row-in-Exit.ensures.wanted

pub returns-in-Login-clause-wanted : goal.returns-in-Login-clause-wanted
returns-in-Login-clause-wanted c = c.print_row-in-Login.ensures.wanted

pub returns-in-MyStatus-clause-wanted : goal.returns-in-MyStatus-clause-wanted
returns-in-MyStatus-clause-wanted c = c.print_row-in-MyStatus.ensures.wanted

pub returns-in-Channels-clause-wanted : goal.returns-in-Channels-clause-wanted
returns-in-Channels-clause-wanted c = c.print_row-in-Channels.ensures.wanted

pub returns-in-Join-clause-wanted : goal.returns-in-Join-clause-wanted
returns-in-Join-clause-wanted c = c.print_row-in-Join.ensures.wanted

pub returns-in-Leave-clause-wanted : goal.returns-in-Leave-clause-wanted
returns-in-Leave-clause-wanted c = c.print_row-in-Leave.ensures.wanted

pub returns-in-Say-clause-wanted : goal.returns-in-Say-clause-wanted
returns-in-Say-clause-wanted c = c.print_row-in-Say.ensures.wanted

pub returns-in-SayEx-clause-wanted : goal.returns-in-SayEx-clause-wanted
returns-in-SayEx-clause-wanted c = c.print_row-in-SayEx.ensures.wanted

pub returns-in-SayPrivate-clause-wanted : goal.returns-in-SayPrivate-clause-wanted
returns-in-SayPrivate-clause-wanted c = c.print_row-in-SayPrivate.ensures.wanted

pub returns-in-OpenBattle-clause-wanted : goal.returns-in-OpenBattle-clause-wanted
returns-in-OpenBattle-clause-wanted c = c.print_row-in-OpenBattle.ensures.wanted

pub returns-in-JoinBattle-clause-wanted : goal.returns-in-JoinBattle-clause-wanted
returns-in-JoinBattle-clause-wanted c = c.print_row-in-JoinBattle.ensures.wanted

pub returns-in-JoinBattleAccept-clause-wanted : goal.returns-in-JoinBattleAccept-clause-wanted
returns-in-JoinBattleAccept-clause-wanted c = c.print_row-in-JoinBattleAccept.ensures.wanted

pub returns-in-JoinBattleDeny-clause-wanted : goal.returns-in-JoinBattleDeny-clause-wanted
returns-in-JoinBattleDeny-clause-wanted c = c.print_row-in-JoinBattleDeny.ensures.wanted

pub returns-in-LeaveBattle-clause-wanted : goal.returns-in-LeaveBattle-clause-wanted
returns-in-LeaveBattle-clause-wanted c = c.print_row-in-LeaveBattle.ensures.wanted

pub returns-in-UpdateBattleInfo-clause-wanted : goal.returns-in-UpdateBattleInfo-clause-wanted
returns-in-UpdateBattleInfo-clause-wanted c = c.print_row-in-UpdateBattleInfo.ensures.wanted

pub returns-in-MyBattleStatus-clause-wanted : goal.returns-in-MyBattleStatus-clause-wanted
returns-in-MyBattleStatus-clause-wanted c = c.print_row-in-MyBattleStatus.ensures.wanted

pub returns-in-SayBattle-clause-wanted : goal.returns-in-SayBattle-clause-wanted
returns-in-SayBattle-clause-wanted c = c.print_row-in-SayBattle.ensures.wanted

pub returns-in-SayBattleEx-clause-wanted : goal.returns-in-SayBattleEx-clause-wanted
returns-in-SayBattleEx-clause-wanted c = c.print_row-in-SayBattleEx.ensures.wanted

pub returns-in-AddBot-clause-wanted : goal.returns-in-AddBot-clause-wanted
returns-in-AddBot-clause-wanted c = c.print_row-in-AddBot.ensures.wanted

pub returns-in-UpdateBot-clause-wanted : goal.returns-in-UpdateBot-clause-wanted
returns-in-UpdateBot-clause-wanted c = c.print_row-in-UpdateBot.ensures.wanted

pub returns-in-RemoveBot-clause-wanted : goal.returns-in-RemoveBot-clause-wanted
returns-in-RemoveBot-clause-wanted c = c.print_row-in-RemoveBot.ensures.wanted

pub returns-in-AddStartRect-clause-wanted : goal.returns-in-AddStartRect-clause-wanted
returns-in-AddStartRect-clause-wanted c = c.print_row-in-AddStartRect.ensures.wanted

pub returns-in-RemoveStartRect-clause-wanted : goal.returns-in-RemoveStartRect-clause-wanted
returns-in-RemoveStartRect-clause-wanted c = c.print_row-in-RemoveStartRect.ensures.wanted

pub returns-in-SetScriptTags-clause-wanted : goal.returns-in-SetScriptTags-clause-wanted
returns-in-SetScriptTags-clause-wanted c = c.print_row-in-SetScriptTags.ensures.wanted

pub returns-in-RemoveScriptTags-clause-wanted : goal.returns-in-RemoveScriptTags-clause-wanted
returns-in-RemoveScriptTags-clause-wanted c = c.print_row-in-RemoveScriptTags.ensures.wanted

pub returns-in-DisableUnits-clause-wanted : goal.returns-in-DisableUnits-clause-wanted
returns-in-DisableUnits-clause-wanted c = c.print_row-in-DisableUnits.ensures.wanted

pub returns-in-EnableUnits-clause-wanted : goal.returns-in-EnableUnits-clause-wanted
returns-in-EnableUnits-clause-wanted c = c.print_row-in-EnableUnits.ensures.wanted

pub returns-in-EnableAllUnits-clause-wanted : goal.returns-in-EnableAllUnits-clause-wanted
returns-in-EnableAllUnits-clause-wanted c = c.print_row-in-EnableAllUnits.ensures.wanted

pub returns-in-Handicap-clause-wanted : goal.returns-in-Handicap-clause-wanted
returns-in-Handicap-clause-wanted c = c.print_row-in-Handicap.ensures.wanted

pub returns-in-ForceTeamNo-clause-wanted : goal.returns-in-ForceTeamNo-clause-wanted
returns-in-ForceTeamNo-clause-wanted c = c.print_row-in-ForceTeamNo.ensures.wanted

pub returns-in-ForceAllyNo-clause-wanted : goal.returns-in-ForceAllyNo-clause-wanted
returns-in-ForceAllyNo-clause-wanted c = c.print_row-in-ForceAllyNo.ensures.wanted

pub returns-in-ForceTeamColor-clause-wanted : goal.returns-in-ForceTeamColor-clause-wanted
returns-in-ForceTeamColor-clause-wanted c = c.print_row-in-ForceTeamColor.ensures.wanted

pub returns-in-ForceSpectatorMode-clause-wanted : goal.returns-in-ForceSpectatorMode-clause-wanted
returns-in-ForceSpectatorMode-clause-wanted c = c.print_row-in-ForceSpectatorMode.ensures.wanted

pub returns-in-KickFromBattle-clause-wanted : goal.returns-in-KickFromBattle-clause-wanted
returns-in-KickFromBattle-clause-wanted c = c.print_row-in-KickFromBattle.ensures.wanted

pub returns-in-Ring-clause-wanted : goal.returns-in-Ring-clause-wanted
returns-in-Ring-clause-wanted c = c.print_row-in-Ring.ensures.wanted

-- End of what is written: answers.

pub returns-in-Unread-clause-wanted : goal.returns-in-Unread-clause-wanted
returns-in-Unread-clause-wanted c = λ e. absurd (let n : ⊥ = cc in n)

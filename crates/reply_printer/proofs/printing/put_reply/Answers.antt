use Rattle.reply_printer.proofs.printing.put_reply.Goals as goal

-- Written by tools/protocol.py of protocol/replies.toml: answers.
pub returns-in-TasServer-clause-ok : goal.returns-in-TasServer-clause-ok
returns-in-TasServer-clause-ok c = rw (c.in-TasServer.is) c.put_line.ensures.ok

pub returns-in-Accepted-clause-ok : goal.returns-in-Accepted-clause-ok
returns-in-Accepted-clause-ok c = rw (c.in-Accepted.is) c.put_line-in-Accepted.ensures.ok

pub returns-in-Denied-clause-ok : goal.returns-in-Denied-clause-ok
returns-in-Denied-clause-ok c = rw (c.in-Denied.is) c.put_line-in-Denied.ensures.ok

pub returns-in-Motd-clause-ok : goal.returns-in-Motd-clause-ok
returns-in-Motd-clause-ok c = rw (c.in-Motd.is) c.put_line-in-Motd.ensures.ok

pub returns-in-ServerMsg-clause-ok : goal.returns-in-ServerMsg-clause-ok
returns-in-ServerMsg-clause-ok c = rw (c.in-ServerMsg.is) c.put_line-in-ServerMsg.ensures.ok

pub returns-in-AddUser-clause-ok : goal.returns-in-AddUser-clause-ok
returns-in-AddUser-clause-ok c = rw (c.in-AddUser.is) c.put_line-in-AddUser.ensures.ok

pub returns-in-RemoveUser-clause-ok : goal.returns-in-RemoveUser-clause-ok
returns-in-RemoveUser-clause-ok c = rw (c.in-RemoveUser.is) c.put_line-in-RemoveUser.ensures.ok

pub returns-in-ClientStatus-clause-ok : goal.returns-in-ClientStatus-clause-ok
returns-in-ClientStatus-clause-ok c = rw (c.in-ClientStatus.is) c.put_line-in-ClientStatus.ensures.ok

pub returns-in-LoginInfoEnd-clause-ok : goal.returns-in-LoginInfoEnd-clause-ok
returns-in-LoginInfoEnd-clause-ok c = rw (c.in-LoginInfoEnd.is) c.put_line-in-LoginInfoEnd.ensures.ok

pub returns-in-Join-clause-ok : goal.returns-in-Join-clause-ok
returns-in-Join-clause-ok c = rw (c.in-Join.is) c.put_line-in-Join.ensures.ok

pub returns-in-Clients-clause-ok : goal.returns-in-Clients-clause-ok
returns-in-Clients-clause-ok c = rw (c.in-Clients.is) c.put_line-in-Clients.ensures.ok

pub returns-in-Joined-clause-ok : goal.returns-in-Joined-clause-ok
returns-in-Joined-clause-ok c = rw (c.in-Joined.is) c.put_line-in-Joined.ensures.ok

pub returns-in-Left-clause-ok : goal.returns-in-Left-clause-ok
returns-in-Left-clause-ok c = rw (c.in-Left.is) c.put_line-in-Left.ensures.ok

pub returns-in-JoinFailed-clause-ok : goal.returns-in-JoinFailed-clause-ok
returns-in-JoinFailed-clause-ok c = rw (c.in-JoinFailed.is) c.put_line-in-JoinFailed.ensures.ok

pub returns-in-Said-clause-ok : goal.returns-in-Said-clause-ok
returns-in-Said-clause-ok c = rw (c.in-Said.is) c.put_line-in-Said.ensures.ok

pub returns-in-SaidEx-clause-ok : goal.returns-in-SaidEx-clause-ok
returns-in-SaidEx-clause-ok c = rw (c.in-SaidEx.is) c.put_line-in-SaidEx.ensures.ok

pub returns-in-SayPrivate-clause-ok : goal.returns-in-SayPrivate-clause-ok
returns-in-SayPrivate-clause-ok c = rw (c.in-SayPrivate.is) c.put_line-in-SayPrivate.ensures.ok

pub returns-in-SaidPrivate-clause-ok : goal.returns-in-SaidPrivate-clause-ok
returns-in-SaidPrivate-clause-ok c = rw (c.in-SaidPrivate.is) c.put_line-in-SaidPrivate.ensures.ok

pub returns-in-Channel-clause-ok : goal.returns-in-Channel-clause-ok
returns-in-Channel-clause-ok c = rw (c.in-Channel.is) c.put_line-in-Channel.ensures.ok

pub returns-in-EndOfChannels-clause-ok : goal.returns-in-EndOfChannels-clause-ok
returns-in-EndOfChannels-clause-ok c = rw (c.in-EndOfChannels.is) c.put_line-in-EndOfChannels.ensures.ok

pub returns-in-OpenBattle-clause-ok : goal.returns-in-OpenBattle-clause-ok
returns-in-OpenBattle-clause-ok c = rw (c.in-OpenBattle.is) c.put_line-in-OpenBattle.ensures.ok

pub returns-in-OpenBattleFailed-clause-ok : goal.returns-in-OpenBattleFailed-clause-ok
returns-in-OpenBattleFailed-clause-ok c = rw (c.in-OpenBattleFailed.is) c.put_line-in-OpenBattleFailed.ensures.ok

pub returns-in-BattleClosed-clause-ok : goal.returns-in-BattleClosed-clause-ok
returns-in-BattleClosed-clause-ok c = rw (c.in-BattleClosed.is) c.put_line-in-BattleClosed.ensures.ok

pub returns-in-JoinBattle-clause-ok : goal.returns-in-JoinBattle-clause-ok
returns-in-JoinBattle-clause-ok c = rw (c.in-JoinBattle.is) c.put_line-in-JoinBattle.ensures.ok

pub returns-in-JoinBattleFailed-clause-ok : goal.returns-in-JoinBattleFailed-clause-ok
returns-in-JoinBattleFailed-clause-ok c = rw (c.in-JoinBattleFailed.is) c.put_line-in-JoinBattleFailed.ensures.ok

pub returns-in-JoinedBattle-clause-ok : goal.returns-in-JoinedBattle-clause-ok
returns-in-JoinedBattle-clause-ok c = rw (c.in-JoinedBattle.is) c.put_line-in-JoinedBattle.ensures.ok

pub returns-in-LeftBattle-clause-ok : goal.returns-in-LeftBattle-clause-ok
returns-in-LeftBattle-clause-ok c = rw (c.in-LeftBattle.is) c.put_line-in-LeftBattle.ensures.ok

pub returns-in-UpdateBattleInfo-clause-ok : goal.returns-in-UpdateBattleInfo-clause-ok
returns-in-UpdateBattleInfo-clause-ok c = rw (c.in-UpdateBattleInfo.is) c.put_line-in-UpdateBattleInfo.ensures.ok

pub returns-in-RequestBattleStatus-clause-ok : goal.returns-in-RequestBattleStatus-clause-ok
returns-in-RequestBattleStatus-clause-ok c = rw (c.in-RequestBattleStatus.is) c.put_line-in-RequestBattleStatus.ensures.ok

pub returns-in-ClientBattleStatus-clause-ok : goal.returns-in-ClientBattleStatus-clause-ok
returns-in-ClientBattleStatus-clause-ok c = rw (c.in-ClientBattleStatus.is) c.put_line-in-ClientBattleStatus.ensures.ok

pub returns-in-SaidBattle-clause-ok : goal.returns-in-SaidBattle-clause-ok
returns-in-SaidBattle-clause-ok c = rw (c.in-SaidBattle.is) c.put_line-in-SaidBattle.ensures.ok

pub returns-in-SaidBattleEx-clause-ok : goal.returns-in-SaidBattleEx-clause-ok
returns-in-SaidBattleEx-clause-ok c = rw (c.in-SaidBattleEx.is) c.put_line-in-SaidBattleEx.ensures.ok

pub returns-in-AddBot-clause-ok : goal.returns-in-AddBot-clause-ok
returns-in-AddBot-clause-ok c = rw (c.in-AddBot.is) c.put_line-in-AddBot.ensures.ok

pub returns-in-UpdateBot-clause-ok : goal.returns-in-UpdateBot-clause-ok
returns-in-UpdateBot-clause-ok c = rw (c.in-UpdateBot.is) c.put_line-in-UpdateBot.ensures.ok

pub returns-in-RemoveBot-clause-ok : goal.returns-in-RemoveBot-clause-ok
returns-in-RemoveBot-clause-ok c = rw (c.in-RemoveBot.is) c.put_line-in-RemoveBot.ensures.ok

pub returns-in-AddStartRect-clause-ok : goal.returns-in-AddStartRect-clause-ok
returns-in-AddStartRect-clause-ok c = rw (c.in-AddStartRect.is) c.put_line-in-AddStartRect.ensures.ok

pub returns-in-RemoveStartRect-clause-ok : goal.returns-in-RemoveStartRect-clause-ok
returns-in-RemoveStartRect-clause-ok c = rw (c.in-RemoveStartRect.is) c.put_line-in-RemoveStartRect.ensures.ok

pub returns-in-SetScriptTags-clause-ok : goal.returns-in-SetScriptTags-clause-ok
returns-in-SetScriptTags-clause-ok c = rw (c.in-SetScriptTags.is) c.put_line-in-SetScriptTags.ensures.ok

pub returns-in-RemoveScriptTags-clause-ok : goal.returns-in-RemoveScriptTags-clause-ok
returns-in-RemoveScriptTags-clause-ok c = rw (c.in-RemoveScriptTags.is) c.put_line-in-RemoveScriptTags.ensures.ok

pub returns-in-ForceQuitBattle-clause-ok : goal.returns-in-ForceQuitBattle-clause-ok
returns-in-ForceQuitBattle-clause-ok c = rw (c.in-ForceQuitBattle.is) c.put_line-in-ForceQuitBattle.ensures.ok

pub returns-in-Ring-clause-ok : goal.returns-in-Ring-clause-ok
returns-in-Ring-clause-ok c = rw (c.in-Ring.is) c.put_line-in-Ring.ensures.ok

pub returns-in-JoinBattleRequest-clause-ok : goal.returns-in-JoinBattleRequest-clause-ok
returns-in-JoinBattleRequest-clause-ok c = rw (c.in-JoinBattleRequest.is) c.put_line-in-JoinBattleRequest.ensures.ok

pub returns-in-DisableUnits-clause-ok : goal.returns-in-DisableUnits-clause-ok
returns-in-DisableUnits-clause-ok c = rw (c.in-DisableUnits.is) c.put_line-in-DisableUnits.ensures.ok

pub returns-in-EnableUnits-clause-ok : goal.returns-in-EnableUnits-clause-ok
returns-in-EnableUnits-clause-ok c = rw (c.in-EnableUnits.is) c.put_line-in-EnableUnits.ensures.ok

pub returns-in-EnableAllUnits-clause-ok : goal.returns-in-EnableAllUnits-clause-ok
returns-in-EnableAllUnits-clause-ok c = rw (c.in-EnableAllUnits.is) c.put_line-in-EnableAllUnits.ensures.ok

pub returns-in-BattleOpened-clause-ok : goal.returns-in-BattleOpened-clause-ok
returns-in-BattleOpened-clause-ok c = rw (c.in-BattleOpened.is) c.put_line-in-BattleOpened.ensures.ok

pub returns-in-TasServer-clause-wanted : goal.returns-in-TasServer-clause-wanted
returns-in-TasServer-clause-wanted c = rw (c.in-TasServer.is) c.put_line.ensures.wanted

pub returns-in-Accepted-clause-wanted : goal.returns-in-Accepted-clause-wanted
returns-in-Accepted-clause-wanted c = rw (c.in-Accepted.is) c.put_line-in-Accepted.ensures.wanted

pub returns-in-Denied-clause-wanted : goal.returns-in-Denied-clause-wanted
returns-in-Denied-clause-wanted c = rw (c.in-Denied.is) c.put_line-in-Denied.ensures.wanted

pub returns-in-Motd-clause-wanted : goal.returns-in-Motd-clause-wanted
returns-in-Motd-clause-wanted c = rw (c.in-Motd.is) c.put_line-in-Motd.ensures.wanted

pub returns-in-ServerMsg-clause-wanted : goal.returns-in-ServerMsg-clause-wanted
returns-in-ServerMsg-clause-wanted c = rw (c.in-ServerMsg.is) c.put_line-in-ServerMsg.ensures.wanted

pub returns-in-AddUser-clause-wanted : goal.returns-in-AddUser-clause-wanted
returns-in-AddUser-clause-wanted c = rw (c.in-AddUser.is) c.put_line-in-AddUser.ensures.wanted

pub returns-in-RemoveUser-clause-wanted : goal.returns-in-RemoveUser-clause-wanted
returns-in-RemoveUser-clause-wanted c = rw (c.in-RemoveUser.is) c.put_line-in-RemoveUser.ensures.wanted

pub returns-in-ClientStatus-clause-wanted : goal.returns-in-ClientStatus-clause-wanted
returns-in-ClientStatus-clause-wanted c = rw (c.in-ClientStatus.is) c.put_line-in-ClientStatus.ensures.wanted

pub returns-in-LoginInfoEnd-clause-wanted : goal.returns-in-LoginInfoEnd-clause-wanted
returns-in-LoginInfoEnd-clause-wanted c = rw (c.in-LoginInfoEnd.is) c.put_line-in-LoginInfoEnd.ensures.wanted

pub returns-in-Join-clause-wanted : goal.returns-in-Join-clause-wanted
returns-in-Join-clause-wanted c = rw (c.in-Join.is) c.put_line-in-Join.ensures.wanted

pub returns-in-Clients-clause-wanted : goal.returns-in-Clients-clause-wanted
returns-in-Clients-clause-wanted c = rw (c.in-Clients.is) c.put_line-in-Clients.ensures.wanted

pub returns-in-Joined-clause-wanted : goal.returns-in-Joined-clause-wanted
returns-in-Joined-clause-wanted c = rw (c.in-Joined.is) c.put_line-in-Joined.ensures.wanted

pub returns-in-Left-clause-wanted : goal.returns-in-Left-clause-wanted
returns-in-Left-clause-wanted c = rw (c.in-Left.is) c.put_line-in-Left.ensures.wanted

pub returns-in-JoinFailed-clause-wanted : goal.returns-in-JoinFailed-clause-wanted
returns-in-JoinFailed-clause-wanted c = rw (c.in-JoinFailed.is) c.put_line-in-JoinFailed.ensures.wanted

pub returns-in-Said-clause-wanted : goal.returns-in-Said-clause-wanted
returns-in-Said-clause-wanted c = rw (c.in-Said.is) c.put_line-in-Said.ensures.wanted

pub returns-in-SaidEx-clause-wanted : goal.returns-in-SaidEx-clause-wanted
returns-in-SaidEx-clause-wanted c = rw (c.in-SaidEx.is) c.put_line-in-SaidEx.ensures.wanted

pub returns-in-SayPrivate-clause-wanted : goal.returns-in-SayPrivate-clause-wanted
returns-in-SayPrivate-clause-wanted c = rw (c.in-SayPrivate.is) c.put_line-in-SayPrivate.ensures.wanted

pub returns-in-SaidPrivate-clause-wanted : goal.returns-in-SaidPrivate-clause-wanted
returns-in-SaidPrivate-clause-wanted c = rw (c.in-SaidPrivate.is) c.put_line-in-SaidPrivate.ensures.wanted

pub returns-in-Channel-clause-wanted : goal.returns-in-Channel-clause-wanted
returns-in-Channel-clause-wanted c = rw (c.in-Channel.is) c.put_line-in-Channel.ensures.wanted

pub returns-in-EndOfChannels-clause-wanted : goal.returns-in-EndOfChannels-clause-wanted
returns-in-EndOfChannels-clause-wanted c = rw (c.in-EndOfChannels.is) c.put_line-in-EndOfChannels.ensures.wanted

pub returns-in-OpenBattle-clause-wanted : goal.returns-in-OpenBattle-clause-wanted
returns-in-OpenBattle-clause-wanted c = rw (c.in-OpenBattle.is) c.put_line-in-OpenBattle.ensures.wanted

pub returns-in-OpenBattleFailed-clause-wanted : goal.returns-in-OpenBattleFailed-clause-wanted
returns-in-OpenBattleFailed-clause-wanted c = rw (c.in-OpenBattleFailed.is) c.put_line-in-OpenBattleFailed.ensures.wanted

pub returns-in-BattleClosed-clause-wanted : goal.returns-in-BattleClosed-clause-wanted
returns-in-BattleClosed-clause-wanted c = rw (c.in-BattleClosed.is) c.put_line-in-BattleClosed.ensures.wanted

pub returns-in-JoinBattle-clause-wanted : goal.returns-in-JoinBattle-clause-wanted
returns-in-JoinBattle-clause-wanted c = rw (c.in-JoinBattle.is) c.put_line-in-JoinBattle.ensures.wanted

pub returns-in-JoinBattleFailed-clause-wanted : goal.returns-in-JoinBattleFailed-clause-wanted
returns-in-JoinBattleFailed-clause-wanted c = rw (c.in-JoinBattleFailed.is) c.put_line-in-JoinBattleFailed.ensures.wanted

pub returns-in-JoinedBattle-clause-wanted : goal.returns-in-JoinedBattle-clause-wanted
returns-in-JoinedBattle-clause-wanted c = rw (c.in-JoinedBattle.is) c.put_line-in-JoinedBattle.ensures.wanted

pub returns-in-LeftBattle-clause-wanted : goal.returns-in-LeftBattle-clause-wanted
returns-in-LeftBattle-clause-wanted c = rw (c.in-LeftBattle.is) c.put_line-in-LeftBattle.ensures.wanted

pub returns-in-UpdateBattleInfo-clause-wanted : goal.returns-in-UpdateBattleInfo-clause-wanted
returns-in-UpdateBattleInfo-clause-wanted c = rw (c.in-UpdateBattleInfo.is) c.put_line-in-UpdateBattleInfo.ensures.wanted

pub returns-in-RequestBattleStatus-clause-wanted : goal.returns-in-RequestBattleStatus-clause-wanted
returns-in-RequestBattleStatus-clause-wanted c = rw (c.in-RequestBattleStatus.is) c.put_line-in-RequestBattleStatus.ensures.wanted

pub returns-in-ClientBattleStatus-clause-wanted : goal.returns-in-ClientBattleStatus-clause-wanted
returns-in-ClientBattleStatus-clause-wanted c = rw (c.in-ClientBattleStatus.is) c.put_line-in-ClientBattleStatus.ensures.wanted

pub returns-in-SaidBattle-clause-wanted : goal.returns-in-SaidBattle-clause-wanted
returns-in-SaidBattle-clause-wanted c = rw (c.in-SaidBattle.is) c.put_line-in-SaidBattle.ensures.wanted

pub returns-in-SaidBattleEx-clause-wanted : goal.returns-in-SaidBattleEx-clause-wanted
returns-in-SaidBattleEx-clause-wanted c = rw (c.in-SaidBattleEx.is) c.put_line-in-SaidBattleEx.ensures.wanted

pub returns-in-AddBot-clause-wanted : goal.returns-in-AddBot-clause-wanted
returns-in-AddBot-clause-wanted c = rw (c.in-AddBot.is) c.put_line-in-AddBot.ensures.wanted

pub returns-in-UpdateBot-clause-wanted : goal.returns-in-UpdateBot-clause-wanted
returns-in-UpdateBot-clause-wanted c = rw (c.in-UpdateBot.is) c.put_line-in-UpdateBot.ensures.wanted

pub returns-in-RemoveBot-clause-wanted : goal.returns-in-RemoveBot-clause-wanted
returns-in-RemoveBot-clause-wanted c = rw (c.in-RemoveBot.is) c.put_line-in-RemoveBot.ensures.wanted

pub returns-in-AddStartRect-clause-wanted : goal.returns-in-AddStartRect-clause-wanted
returns-in-AddStartRect-clause-wanted c = rw (c.in-AddStartRect.is) c.put_line-in-AddStartRect.ensures.wanted

pub returns-in-RemoveStartRect-clause-wanted : goal.returns-in-RemoveStartRect-clause-wanted
returns-in-RemoveStartRect-clause-wanted c = rw (c.in-RemoveStartRect.is) c.put_line-in-RemoveStartRect.ensures.wanted

pub returns-in-SetScriptTags-clause-wanted : goal.returns-in-SetScriptTags-clause-wanted
returns-in-SetScriptTags-clause-wanted c = rw (c.in-SetScriptTags.is) c.put_line-in-SetScriptTags.ensures.wanted

pub returns-in-RemoveScriptTags-clause-wanted : goal.returns-in-RemoveScriptTags-clause-wanted
returns-in-RemoveScriptTags-clause-wanted c = rw (c.in-RemoveScriptTags.is) c.put_line-in-RemoveScriptTags.ensures.wanted

pub returns-in-ForceQuitBattle-clause-wanted : goal.returns-in-ForceQuitBattle-clause-wanted
returns-in-ForceQuitBattle-clause-wanted c = rw (c.in-ForceQuitBattle.is) c.put_line-in-ForceQuitBattle.ensures.wanted

pub returns-in-Ring-clause-wanted : goal.returns-in-Ring-clause-wanted
returns-in-Ring-clause-wanted c = rw (c.in-Ring.is) c.put_line-in-Ring.ensures.wanted

pub returns-in-JoinBattleRequest-clause-wanted : goal.returns-in-JoinBattleRequest-clause-wanted
returns-in-JoinBattleRequest-clause-wanted c = rw (c.in-JoinBattleRequest.is) c.put_line-in-JoinBattleRequest.ensures.wanted

pub returns-in-DisableUnits-clause-wanted : goal.returns-in-DisableUnits-clause-wanted
returns-in-DisableUnits-clause-wanted c = rw (c.in-DisableUnits.is) c.put_line-in-DisableUnits.ensures.wanted

pub returns-in-EnableUnits-clause-wanted : goal.returns-in-EnableUnits-clause-wanted
returns-in-EnableUnits-clause-wanted c = rw (c.in-EnableUnits.is) c.put_line-in-EnableUnits.ensures.wanted

pub returns-in-EnableAllUnits-clause-wanted : goal.returns-in-EnableAllUnits-clause-wanted
returns-in-EnableAllUnits-clause-wanted c = rw (c.in-EnableAllUnits.is) c.put_line-in-EnableAllUnits.ensures.wanted

pub returns-in-BattleOpened-clause-wanted : goal.returns-in-BattleOpened-clause-wanted
returns-in-BattleOpened-clause-wanted c = rw (c.in-BattleOpened.is) c.put_line-in-BattleOpened.ensures.wanted

-- End of what is written: answers.

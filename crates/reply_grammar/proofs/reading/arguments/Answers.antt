use Rattle.std.proofs.Common.{refl}
use Rattle.reply_kinds.specs.declared.command_word.CommandWord.TheVariants as command
use Rattle.reply_grammar.proofs.Dispatch.{reads_as, fails_as}
use Rattle.reply_grammar.proofs.reading.arguments.Goals as goal

-- Written by tools/protocol.py of protocol/replies.toml: answers.
-- TasServer

pub returns-in-Ok : goal.returns-in-Ok
returns-in-Ok c = reads_as c.args.command command.TasServer c.args.bytes.now _ _ c.in-TasServer.is c.in-Ok.ensures refl

pub returns-in-Err : goal.returns-in-Err
returns-in-Err c = fails_as c.args.command command.TasServer c.args.bytes.now c.in-Err.error c.in-TasServer.is c.in-Err.ensures

-- Accepted

pub returns-in-Ok-read_all : goal.returns-in-Ok-read_all
returns-in-Ok-read_all c = reads_as c.args.command command.Accepted c.args.bytes.now _ _ c.in-Accepted.is c.in-Ok-read_all.ensures refl

pub returns-in-Err-read_all : goal.returns-in-Err-read_all
returns-in-Err-read_all c = fails_as c.args.command command.Accepted c.args.bytes.now c.in-Err-read_all.error c.in-Accepted.is c.in-Err-read_all.ensures

-- Denied

pub returns-in-Ok-read_all-2 : goal.returns-in-Ok-read_all-2
returns-in-Ok-read_all-2 c = reads_as c.args.command command.Denied c.args.bytes.now _ _ c.in-Denied.is c.in-Ok-read_all-2.ensures refl

pub returns-in-Err-read_all-2 : goal.returns-in-Err-read_all-2
returns-in-Err-read_all-2 c = fails_as c.args.command command.Denied c.args.bytes.now c.in-Err-read_all-2.error c.in-Denied.is c.in-Err-read_all-2.ensures

-- Motd

pub returns-in-Ok-read_all-3 : goal.returns-in-Ok-read_all-3
returns-in-Ok-read_all-3 c = reads_as c.args.command command.Motd c.args.bytes.now _ _ c.in-Motd.is c.in-Ok-read_all-3.ensures refl

pub returns-in-Err-read_all-3 : goal.returns-in-Err-read_all-3
returns-in-Err-read_all-3 c = fails_as c.args.command command.Motd c.args.bytes.now c.in-Err-read_all-3.error c.in-Motd.is c.in-Err-read_all-3.ensures

-- ServerMsg

pub returns-in-Ok-read_all-4 : goal.returns-in-Ok-read_all-4
returns-in-Ok-read_all-4 c = reads_as c.args.command command.ServerMsg c.args.bytes.now _ _ c.in-ServerMsg.is c.in-Ok-read_all-4.ensures refl

pub returns-in-Err-read_all-4 : goal.returns-in-Err-read_all-4
returns-in-Err-read_all-4 c = fails_as c.args.command command.ServerMsg c.args.bytes.now c.in-Err-read_all-4.error c.in-ServerMsg.is c.in-Err-read_all-4.ensures

-- AddUser

pub returns-in-Ok-read_all-5 : goal.returns-in-Ok-read_all-5
returns-in-Ok-read_all-5 c = reads_as c.args.command command.AddUser c.args.bytes.now _ _ c.in-AddUser.is c.in-Ok-read_all-5.ensures refl

pub returns-in-Err-read_all-5 : goal.returns-in-Err-read_all-5
returns-in-Err-read_all-5 c = fails_as c.args.command command.AddUser c.args.bytes.now c.in-Err-read_all-5.error c.in-AddUser.is c.in-Err-read_all-5.ensures

-- RemoveUser

pub returns-in-Ok-read_all-6 : goal.returns-in-Ok-read_all-6
returns-in-Ok-read_all-6 c = reads_as c.args.command command.RemoveUser c.args.bytes.now _ _ c.in-RemoveUser.is c.in-Ok-read_all-6.ensures refl

pub returns-in-Err-read_all-6 : goal.returns-in-Err-read_all-6
returns-in-Err-read_all-6 c = fails_as c.args.command command.RemoveUser c.args.bytes.now c.in-Err-read_all-6.error c.in-RemoveUser.is c.in-Err-read_all-6.ensures

-- ClientStatus

pub returns-in-Ok-read_all-7 : goal.returns-in-Ok-read_all-7
returns-in-Ok-read_all-7 c = reads_as c.args.command command.ClientStatus c.args.bytes.now _ _ c.in-ClientStatus.is c.in-Ok-read_all-7.ensures refl

pub returns-in-Err-read_all-7 : goal.returns-in-Err-read_all-7
returns-in-Err-read_all-7 c = fails_as c.args.command command.ClientStatus c.args.bytes.now c.in-Err-read_all-7.error c.in-ClientStatus.is c.in-Err-read_all-7.ensures

-- LoginInfoEnd

pub returns-in-Ok-read_all-8 : goal.returns-in-Ok-read_all-8
returns-in-Ok-read_all-8 c = reads_as c.args.command command.LoginInfoEnd c.args.bytes.now _ _ c.in-LoginInfoEnd.is c.in-Ok-read_all-8.ensures refl

pub returns-in-Err-read_all-8 : goal.returns-in-Err-read_all-8
returns-in-Err-read_all-8 c = fails_as c.args.command command.LoginInfoEnd c.args.bytes.now c.in-Err-read_all-8.error c.in-LoginInfoEnd.is c.in-Err-read_all-8.ensures

-- Pong

pub returns-in-Ok-read_all-9 : goal.returns-in-Ok-read_all-9
returns-in-Ok-read_all-9 c = reads_as c.args.command command.Pong c.args.bytes.now _ _ c.in-Pong.is c.in-Ok-read_all-9.ensures refl

pub returns-in-Err-read_all-9 : goal.returns-in-Err-read_all-9
returns-in-Err-read_all-9 c = fails_as c.args.command command.Pong c.args.bytes.now c.in-Err-read_all-9.error c.in-Pong.is c.in-Err-read_all-9.ensures

-- Join

pub returns-in-Ok-read_all-10 : goal.returns-in-Ok-read_all-10
returns-in-Ok-read_all-10 c = reads_as c.args.command command.Join c.args.bytes.now _ _ c.in-Join.is c.in-Ok-read_all-10.ensures refl

pub returns-in-Err-read_all-10 : goal.returns-in-Err-read_all-10
returns-in-Err-read_all-10 c = fails_as c.args.command command.Join c.args.bytes.now c.in-Err-read_all-10.error c.in-Join.is c.in-Err-read_all-10.ensures

-- Clients

pub returns-in-Ok-read_all-11 : goal.returns-in-Ok-read_all-11
returns-in-Ok-read_all-11 c = reads_as c.args.command command.Clients c.args.bytes.now _ _ c.in-Clients.is c.in-Ok-read_all-11.ensures refl

pub returns-in-Err-read_all-11 : goal.returns-in-Err-read_all-11
returns-in-Err-read_all-11 c = fails_as c.args.command command.Clients c.args.bytes.now c.in-Err-read_all-11.error c.in-Clients.is c.in-Err-read_all-11.ensures

-- Joined

pub returns-in-Ok-read_all-12 : goal.returns-in-Ok-read_all-12
returns-in-Ok-read_all-12 c = reads_as c.args.command command.Joined c.args.bytes.now _ _ c.in-Joined.is c.in-Ok-read_all-12.ensures refl

pub returns-in-Err-read_all-12 : goal.returns-in-Err-read_all-12
returns-in-Err-read_all-12 c = fails_as c.args.command command.Joined c.args.bytes.now c.in-Err-read_all-12.error c.in-Joined.is c.in-Err-read_all-12.ensures

-- Left

pub returns-in-Ok-read_all-13 : goal.returns-in-Ok-read_all-13
returns-in-Ok-read_all-13 c = reads_as c.args.command command.Left c.args.bytes.now _ _ c.in-Left.is c.in-Ok-read_all-13.ensures refl

pub returns-in-Err-read_all-13 : goal.returns-in-Err-read_all-13
returns-in-Err-read_all-13 c = fails_as c.args.command command.Left c.args.bytes.now c.in-Err-read_all-13.error c.in-Left.is c.in-Err-read_all-13.ensures

-- JoinFailed

pub returns-in-Ok-read_all-14 : goal.returns-in-Ok-read_all-14
returns-in-Ok-read_all-14 c = reads_as c.args.command command.JoinFailed c.args.bytes.now _ _ c.in-JoinFailed.is c.in-Ok-read_all-14.ensures refl

pub returns-in-Err-read_all-14 : goal.returns-in-Err-read_all-14
returns-in-Err-read_all-14 c = fails_as c.args.command command.JoinFailed c.args.bytes.now c.in-Err-read_all-14.error c.in-JoinFailed.is c.in-Err-read_all-14.ensures

-- Said

pub returns-in-Ok-read_all-15 : goal.returns-in-Ok-read_all-15
returns-in-Ok-read_all-15 c = reads_as c.args.command command.Said c.args.bytes.now _ _ c.in-Said.is c.in-Ok-read_all-15.ensures refl

pub returns-in-Err-read_all-15 : goal.returns-in-Err-read_all-15
returns-in-Err-read_all-15 c = fails_as c.args.command command.Said c.args.bytes.now c.in-Err-read_all-15.error c.in-Said.is c.in-Err-read_all-15.ensures

-- SaidEx

pub returns-in-Ok-read_all-16 : goal.returns-in-Ok-read_all-16
returns-in-Ok-read_all-16 c = reads_as c.args.command command.SaidEx c.args.bytes.now _ _ c.in-SaidEx.is c.in-Ok-read_all-16.ensures refl

pub returns-in-Err-read_all-16 : goal.returns-in-Err-read_all-16
returns-in-Err-read_all-16 c = fails_as c.args.command command.SaidEx c.args.bytes.now c.in-Err-read_all-16.error c.in-SaidEx.is c.in-Err-read_all-16.ensures

-- SayPrivate

pub returns-in-Ok-read_all-17 : goal.returns-in-Ok-read_all-17
returns-in-Ok-read_all-17 c = reads_as c.args.command command.SayPrivate c.args.bytes.now _ _ c.in-SayPrivate.is c.in-Ok-read_all-17.ensures refl

pub returns-in-Err-read_all-17 : goal.returns-in-Err-read_all-17
returns-in-Err-read_all-17 c = fails_as c.args.command command.SayPrivate c.args.bytes.now c.in-Err-read_all-17.error c.in-SayPrivate.is c.in-Err-read_all-17.ensures

-- SaidPrivate

pub returns-in-Ok-read_all-18 : goal.returns-in-Ok-read_all-18
returns-in-Ok-read_all-18 c = reads_as c.args.command command.SaidPrivate c.args.bytes.now _ _ c.in-SaidPrivate.is c.in-Ok-read_all-18.ensures refl

pub returns-in-Err-read_all-18 : goal.returns-in-Err-read_all-18
returns-in-Err-read_all-18 c = fails_as c.args.command command.SaidPrivate c.args.bytes.now c.in-Err-read_all-18.error c.in-SaidPrivate.is c.in-Err-read_all-18.ensures

-- Channel

pub returns-in-Ok-read_all-19 : goal.returns-in-Ok-read_all-19
returns-in-Ok-read_all-19 c = reads_as c.args.command command.Channel c.args.bytes.now _ _ c.in-Channel.is c.in-Ok-read_all-19.ensures refl

pub returns-in-Err-read_all-19 : goal.returns-in-Err-read_all-19
returns-in-Err-read_all-19 c = fails_as c.args.command command.Channel c.args.bytes.now c.in-Err-read_all-19.error c.in-Channel.is c.in-Err-read_all-19.ensures

-- EndOfChannels

pub returns-in-Ok-read_all-20 : goal.returns-in-Ok-read_all-20
returns-in-Ok-read_all-20 c = reads_as c.args.command command.EndOfChannels c.args.bytes.now _ _ c.in-EndOfChannels.is c.in-Ok-read_all-20.ensures refl

pub returns-in-Err-read_all-20 : goal.returns-in-Err-read_all-20
returns-in-Err-read_all-20 c = fails_as c.args.command command.EndOfChannels c.args.bytes.now c.in-Err-read_all-20.error c.in-EndOfChannels.is c.in-Err-read_all-20.ensures

-- OpenBattle

pub returns-in-Ok-read_all-21 : goal.returns-in-Ok-read_all-21
returns-in-Ok-read_all-21 c = reads_as c.args.command command.OpenBattle c.args.bytes.now _ _ c.in-OpenBattle.is c.in-Ok-read_all-21.ensures refl

pub returns-in-Err-read_all-21 : goal.returns-in-Err-read_all-21
returns-in-Err-read_all-21 c = fails_as c.args.command command.OpenBattle c.args.bytes.now c.in-Err-read_all-21.error c.in-OpenBattle.is c.in-Err-read_all-21.ensures

-- OpenBattleFailed

pub returns-in-Ok-read_all-22 : goal.returns-in-Ok-read_all-22
returns-in-Ok-read_all-22 c = reads_as c.args.command command.OpenBattleFailed c.args.bytes.now _ _ c.in-OpenBattleFailed.is c.in-Ok-read_all-22.ensures refl

pub returns-in-Err-read_all-22 : goal.returns-in-Err-read_all-22
returns-in-Err-read_all-22 c = fails_as c.args.command command.OpenBattleFailed c.args.bytes.now c.in-Err-read_all-22.error c.in-OpenBattleFailed.is c.in-Err-read_all-22.ensures

-- BattleOpened

pub returns-in-Ok-read_all-23 : goal.returns-in-Ok-read_all-23
returns-in-Ok-read_all-23 c = reads_as c.args.command command.BattleOpened c.args.bytes.now _ _ c.in-BattleOpened.is c.in-Ok-read_all-23.ensures refl

pub returns-in-Err-read_all-23 : goal.returns-in-Err-read_all-23
returns-in-Err-read_all-23 c = fails_as c.args.command command.BattleOpened c.args.bytes.now c.in-Err-read_all-23.error c.in-BattleOpened.is c.in-Err-read_all-23.ensures

-- BattleClosed

pub returns-in-Ok-read_all-24 : goal.returns-in-Ok-read_all-24
returns-in-Ok-read_all-24 c = reads_as c.args.command command.BattleClosed c.args.bytes.now _ _ c.in-BattleClosed.is c.in-Ok-read_all-24.ensures refl

pub returns-in-Err-read_all-24 : goal.returns-in-Err-read_all-24
returns-in-Err-read_all-24 c = fails_as c.args.command command.BattleClosed c.args.bytes.now c.in-Err-read_all-24.error c.in-BattleClosed.is c.in-Err-read_all-24.ensures

-- JoinBattle

pub returns-in-Ok-read_all-25 : goal.returns-in-Ok-read_all-25
returns-in-Ok-read_all-25 c = reads_as c.args.command command.JoinBattle c.args.bytes.now _ _ c.in-JoinBattle.is c.in-Ok-read_all-25.ensures refl

pub returns-in-Err-read_all-25 : goal.returns-in-Err-read_all-25
returns-in-Err-read_all-25 c = fails_as c.args.command command.JoinBattle c.args.bytes.now c.in-Err-read_all-25.error c.in-JoinBattle.is c.in-Err-read_all-25.ensures

-- JoinBattleFailed

pub returns-in-Ok-read_all-26 : goal.returns-in-Ok-read_all-26
returns-in-Ok-read_all-26 c = reads_as c.args.command command.JoinBattleFailed c.args.bytes.now _ _ c.in-JoinBattleFailed.is c.in-Ok-read_all-26.ensures refl

pub returns-in-Err-read_all-26 : goal.returns-in-Err-read_all-26
returns-in-Err-read_all-26 c = fails_as c.args.command command.JoinBattleFailed c.args.bytes.now c.in-Err-read_all-26.error c.in-JoinBattleFailed.is c.in-Err-read_all-26.ensures

-- JoinedBattle

pub returns-in-Ok-read_all-27 : goal.returns-in-Ok-read_all-27
returns-in-Ok-read_all-27 c = reads_as c.args.command command.JoinedBattle c.args.bytes.now _ _ c.in-JoinedBattle.is c.in-Ok-read_all-27.ensures refl

pub returns-in-Err-read_all-27 : goal.returns-in-Err-read_all-27
returns-in-Err-read_all-27 c = fails_as c.args.command command.JoinedBattle c.args.bytes.now c.in-Err-read_all-27.error c.in-JoinedBattle.is c.in-Err-read_all-27.ensures

-- LeftBattle

pub returns-in-Ok-read_all-28 : goal.returns-in-Ok-read_all-28
returns-in-Ok-read_all-28 c = reads_as c.args.command command.LeftBattle c.args.bytes.now _ _ c.in-LeftBattle.is c.in-Ok-read_all-28.ensures refl

pub returns-in-Err-read_all-28 : goal.returns-in-Err-read_all-28
returns-in-Err-read_all-28 c = fails_as c.args.command command.LeftBattle c.args.bytes.now c.in-Err-read_all-28.error c.in-LeftBattle.is c.in-Err-read_all-28.ensures

-- UpdateBattleInfo

pub returns-in-Ok-read_all-29 : goal.returns-in-Ok-read_all-29
returns-in-Ok-read_all-29 c = reads_as c.args.command command.UpdateBattleInfo c.args.bytes.now _ _ c.in-UpdateBattleInfo.is c.in-Ok-read_all-29.ensures refl

pub returns-in-Err-read_all-29 : goal.returns-in-Err-read_all-29
returns-in-Err-read_all-29 c = fails_as c.args.command command.UpdateBattleInfo c.args.bytes.now c.in-Err-read_all-29.error c.in-UpdateBattleInfo.is c.in-Err-read_all-29.ensures

-- RequestBattleStatus

pub returns-in-Ok-read_all-30 : goal.returns-in-Ok-read_all-30
returns-in-Ok-read_all-30 c = reads_as c.args.command command.RequestBattleStatus c.args.bytes.now _ _ c.in-RequestBattleStatus.is c.in-Ok-read_all-30.ensures refl

pub returns-in-Err-read_all-30 : goal.returns-in-Err-read_all-30
returns-in-Err-read_all-30 c = fails_as c.args.command command.RequestBattleStatus c.args.bytes.now c.in-Err-read_all-30.error c.in-RequestBattleStatus.is c.in-Err-read_all-30.ensures

-- ClientBattleStatus

pub returns-in-Ok-read_all-31 : goal.returns-in-Ok-read_all-31
returns-in-Ok-read_all-31 c = reads_as c.args.command command.ClientBattleStatus c.args.bytes.now _ _ c.in-ClientBattleStatus.is c.in-Ok-read_all-31.ensures refl

pub returns-in-Err-read_all-31 : goal.returns-in-Err-read_all-31
returns-in-Err-read_all-31 c = fails_as c.args.command command.ClientBattleStatus c.args.bytes.now c.in-Err-read_all-31.error c.in-ClientBattleStatus.is c.in-Err-read_all-31.ensures

-- SaidBattle

pub returns-in-Ok-read_all-32 : goal.returns-in-Ok-read_all-32
returns-in-Ok-read_all-32 c = reads_as c.args.command command.SaidBattle c.args.bytes.now _ _ c.in-SaidBattle.is c.in-Ok-read_all-32.ensures refl

pub returns-in-Err-read_all-32 : goal.returns-in-Err-read_all-32
returns-in-Err-read_all-32 c = fails_as c.args.command command.SaidBattle c.args.bytes.now c.in-Err-read_all-32.error c.in-SaidBattle.is c.in-Err-read_all-32.ensures

-- SaidBattleEx

pub returns-in-Ok-read_all-33 : goal.returns-in-Ok-read_all-33
returns-in-Ok-read_all-33 c = reads_as c.args.command command.SaidBattleEx c.args.bytes.now _ _ c.in-SaidBattleEx.is c.in-Ok-read_all-33.ensures refl

pub returns-in-Err-read_all-33 : goal.returns-in-Err-read_all-33
returns-in-Err-read_all-33 c = fails_as c.args.command command.SaidBattleEx c.args.bytes.now c.in-Err-read_all-33.error c.in-SaidBattleEx.is c.in-Err-read_all-33.ensures

-- AddBot

pub returns-in-Ok-read_all-34 : goal.returns-in-Ok-read_all-34
returns-in-Ok-read_all-34 c = reads_as c.args.command command.AddBot c.args.bytes.now _ _ c.in-AddBot.is c.in-Ok-read_all-34.ensures refl

pub returns-in-Err-read_all-34 : goal.returns-in-Err-read_all-34
returns-in-Err-read_all-34 c = fails_as c.args.command command.AddBot c.args.bytes.now c.in-Err-read_all-34.error c.in-AddBot.is c.in-Err-read_all-34.ensures

-- UpdateBot

pub returns-in-Ok-read_all-35 : goal.returns-in-Ok-read_all-35
returns-in-Ok-read_all-35 c = reads_as c.args.command command.UpdateBot c.args.bytes.now _ _ c.in-UpdateBot.is c.in-Ok-read_all-35.ensures refl

pub returns-in-Err-read_all-35 : goal.returns-in-Err-read_all-35
returns-in-Err-read_all-35 c = fails_as c.args.command command.UpdateBot c.args.bytes.now c.in-Err-read_all-35.error c.in-UpdateBot.is c.in-Err-read_all-35.ensures

-- RemoveBot

pub returns-in-Ok-read_all-36 : goal.returns-in-Ok-read_all-36
returns-in-Ok-read_all-36 c = reads_as c.args.command command.RemoveBot c.args.bytes.now _ _ c.in-RemoveBot.is c.in-Ok-read_all-36.ensures refl

pub returns-in-Err-read_all-36 : goal.returns-in-Err-read_all-36
returns-in-Err-read_all-36 c = fails_as c.args.command command.RemoveBot c.args.bytes.now c.in-Err-read_all-36.error c.in-RemoveBot.is c.in-Err-read_all-36.ensures

-- AddStartRect

pub returns-in-Ok-read_all-37 : goal.returns-in-Ok-read_all-37
returns-in-Ok-read_all-37 c = reads_as c.args.command command.AddStartRect c.args.bytes.now _ _ c.in-AddStartRect.is c.in-Ok-read_all-37.ensures refl

pub returns-in-Err-read_all-37 : goal.returns-in-Err-read_all-37
returns-in-Err-read_all-37 c = fails_as c.args.command command.AddStartRect c.args.bytes.now c.in-Err-read_all-37.error c.in-AddStartRect.is c.in-Err-read_all-37.ensures

-- RemoveStartRect

pub returns-in-Ok-read_all-38 : goal.returns-in-Ok-read_all-38
returns-in-Ok-read_all-38 c = reads_as c.args.command command.RemoveStartRect c.args.bytes.now _ _ c.in-RemoveStartRect.is c.in-Ok-read_all-38.ensures refl

pub returns-in-Err-read_all-38 : goal.returns-in-Err-read_all-38
returns-in-Err-read_all-38 c = fails_as c.args.command command.RemoveStartRect c.args.bytes.now c.in-Err-read_all-38.error c.in-RemoveStartRect.is c.in-Err-read_all-38.ensures

-- SetScriptTags

pub returns-in-Ok-read_all-39 : goal.returns-in-Ok-read_all-39
returns-in-Ok-read_all-39 c = reads_as c.args.command command.SetScriptTags c.args.bytes.now _ _ c.in-SetScriptTags.is c.in-Ok-read_all-39.ensures refl

pub returns-in-Err-read_all-39 : goal.returns-in-Err-read_all-39
returns-in-Err-read_all-39 c = fails_as c.args.command command.SetScriptTags c.args.bytes.now c.in-Err-read_all-39.error c.in-SetScriptTags.is c.in-Err-read_all-39.ensures

-- RemoveScriptTags

pub returns-in-Ok-read_all-40 : goal.returns-in-Ok-read_all-40
returns-in-Ok-read_all-40 c = reads_as c.args.command command.RemoveScriptTags c.args.bytes.now _ _ c.in-RemoveScriptTags.is c.in-Ok-read_all-40.ensures refl

pub returns-in-Err-read_all-40 : goal.returns-in-Err-read_all-40
returns-in-Err-read_all-40 c = fails_as c.args.command command.RemoveScriptTags c.args.bytes.now c.in-Err-read_all-40.error c.in-RemoveScriptTags.is c.in-Err-read_all-40.ensures

-- ForceQuitBattle

pub returns-in-Ok-read_all-41 : goal.returns-in-Ok-read_all-41
returns-in-Ok-read_all-41 c = reads_as c.args.command command.ForceQuitBattle c.args.bytes.now _ _ c.in-ForceQuitBattle.is c.in-Ok-read_all-41.ensures refl

pub returns-in-Err-read_all-41 : goal.returns-in-Err-read_all-41
returns-in-Err-read_all-41 c = fails_as c.args.command command.ForceQuitBattle c.args.bytes.now c.in-Err-read_all-41.error c.in-ForceQuitBattle.is c.in-Err-read_all-41.ensures

-- Ring

pub returns-in-Ok-read_all-42 : goal.returns-in-Ok-read_all-42
returns-in-Ok-read_all-42 c = reads_as c.args.command command.Ring c.args.bytes.now _ _ c.in-Ring.is c.in-Ok-read_all-42.ensures refl

pub returns-in-Err-read_all-42 : goal.returns-in-Err-read_all-42
returns-in-Err-read_all-42 c = fails_as c.args.command command.Ring c.args.bytes.now c.in-Err-read_all-42.error c.in-Ring.is c.in-Err-read_all-42.ensures

-- JoinBattleRequest

pub returns-in-Ok-read_all-43 : goal.returns-in-Ok-read_all-43
returns-in-Ok-read_all-43 c = reads_as c.args.command command.JoinBattleRequest c.args.bytes.now _ _ c.in-JoinBattleRequest.is c.in-Ok-read_all-43.ensures refl

pub returns-in-Err-read_all-43 : goal.returns-in-Err-read_all-43
returns-in-Err-read_all-43 c = fails_as c.args.command command.JoinBattleRequest c.args.bytes.now c.in-Err-read_all-43.error c.in-JoinBattleRequest.is c.in-Err-read_all-43.ensures

-- DisableUnits

pub returns-in-Ok-read_all-44 : goal.returns-in-Ok-read_all-44
returns-in-Ok-read_all-44 c = reads_as c.args.command command.DisableUnits c.args.bytes.now _ _ c.in-DisableUnits.is c.in-Ok-read_all-44.ensures refl

pub returns-in-Err-read_all-44 : goal.returns-in-Err-read_all-44
returns-in-Err-read_all-44 c = fails_as c.args.command command.DisableUnits c.args.bytes.now c.in-Err-read_all-44.error c.in-DisableUnits.is c.in-Err-read_all-44.ensures

-- EnableUnits

pub returns-in-Ok-read_all-45 : goal.returns-in-Ok-read_all-45
returns-in-Ok-read_all-45 c = reads_as c.args.command command.EnableUnits c.args.bytes.now _ _ c.in-EnableUnits.is c.in-Ok-read_all-45.ensures refl

pub returns-in-Err-read_all-45 : goal.returns-in-Err-read_all-45
returns-in-Err-read_all-45 c = fails_as c.args.command command.EnableUnits c.args.bytes.now c.in-Err-read_all-45.error c.in-EnableUnits.is c.in-Err-read_all-45.ensures

-- EnableAllUnits

pub returns-in-Ok-read_all-46 : goal.returns-in-Ok-read_all-46
returns-in-Ok-read_all-46 c = reads_as c.args.command command.EnableAllUnits c.args.bytes.now _ _ c.in-EnableAllUnits.is c.in-Ok-read_all-46.ensures refl

pub returns-in-Err-read_all-46 : goal.returns-in-Err-read_all-46
returns-in-Err-read_all-46 c = fails_as c.args.command command.EnableAllUnits c.args.bytes.now c.in-Err-read_all-46.error c.in-EnableAllUnits.is c.in-Err-read_all-46.ensures

-- End of what is written: answers.

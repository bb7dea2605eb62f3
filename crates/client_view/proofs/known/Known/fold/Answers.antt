use Rattle.std.proofs.Common.{◌≡◌, refl, sym, subst}
use Rattle.std.specs.Prelude.{OnOk}
use Rattle.reply_kinds.specs.declared.Reply.{Reply}
use Rattle.reply_kinds.specs.declared.Reply.TheVariants as reply
use Rattle.lobby_view.specs.View.{View, shown}
use Rattle.noted_map.specs.Undoable.{Changes}
use Rattle.client_view.specs.Told.{IsNoLogin}
use Rattle.client_view.proofs.Changing.{unchanged}
use Rattle.client_view.proofs.known.Known.fold.Goals as goal

pub returns-in-BattleOpened-clause-ok : goal.returns-in-BattleOpened-clause-ok
returns-in-BattleOpened-clause-ok c =
    subst (λ (r : Reply). OnOk c.battle_opened.result (Changes (λ (v : View). shown v r) c.args.self.now c.battle_opened.new.self))
    (sym c.in-BattleOpened.is) c.battle_opened.ensures.ok

pub returns-in-JoinedBattle-clause-ok : goal.returns-in-JoinedBattle-clause-ok
returns-in-JoinedBattle-clause-ok c =
    subst (λ (r : Reply). OnOk c.joined_battle.result (Changes (λ (v : View). shown v r) c.args.self.now c.joined_battle.new.self))
    (sym c.in-JoinedBattle.is) c.joined_battle.ensures.ok

pub returns-in-LeftBattle-clause-ok : goal.returns-in-LeftBattle-clause-ok
returns-in-LeftBattle-clause-ok c =
    subst (λ (r : Reply). OnOk c.left_battle.result (Changes (λ (v : View). shown v r) c.args.self.now c.left_battle.new.self))
    (sym c.in-LeftBattle.is) c.left_battle.ensures.ok

pub returns-in-UpdateBattleInfo-clause-ok : goal.returns-in-UpdateBattleInfo-clause-ok
returns-in-UpdateBattleInfo-clause-ok c =
    subst (λ (r : Reply). OnOk c.update_battle_info.result (Changes (λ (v : View). shown v r) c.args.self.now c.update_battle_info.new.self))
    (sym c.in-UpdateBattleInfo.is) c.update_battle_info.ensures.ok

-- the arms above take each reply that changes something; of each of the others it is shown here that it changes nothing
pub returns-in_default-clause-ok : goal.returns-in_default-clause-ok
returns-in_default-clause-ok c =
    elim c.args.reply.now as (λ r. c.args.reply.now ≡ r → Changes (λ (v : View). shown v r) c.args.self.now c.args.self.now) [
      | reply.Accepted user ↦ λ e. absurd (subst IsNoLogin e c.requires)
      | reply.AddUser user country cpu account ↦ λ e. absurd (c.in_default.not-AddUser user country cpu account e)
      | reply.RemoveUser user ↦ λ e. absurd (c.in_default.not-RemoveUser user e)
      | reply.ClientStatus user status ↦ λ e. absurd (c.in_default.not-ClientStatus user status e)
      | reply.Join channel ↦ λ e. absurd (c.in_default.not-Join channel e)
      | reply.Clients channel names ↦ λ e. absurd (c.in_default.not-Clients channel names e)
      | reply.Joined channel user ↦ λ e. absurd (c.in_default.not-Joined channel user e)
      | reply.Left channel user ↦ λ e. absurd (c.in_default.not-Left channel user e)
      | reply.OpenBattle battle ↦ λ e. absurd (c.in_default.not-OpenBattle battle e)
      | reply.BattleClosed battle ↦ λ e. absurd (c.in_default.not-BattleClosed battle e)
      | reply.JoinBattle battle game_hash ↦ λ e. absurd (c.in_default.not-JoinBattle battle game_hash e)
      | reply.JoinedBattle battle user script_password ↦ λ e. absurd (c.in_default.not-JoinedBattle battle user script_password e)
      | reply.LeftBattle battle user ↦ λ e. absurd (c.in_default.not-LeftBattle battle user e)
      | reply.UpdateBattleInfo battle spectator_count locked map_hash map ↦ λ e. absurd (c.in_default.not-UpdateBattleInfo battle spectator_count locked map_hash map e)
      | reply.BattleOpened battle opened ↦ λ e. absurd (c.in_default.not-BattleOpened battle opened e)
      | reply.ClientBattleStatus user status colour ↦ λ e. absurd (c.in_default.not-ClientBattleStatus user status colour e)
      | reply.AddBot battle bot owner status colour ai ↦ λ e. absurd (c.in_default.not-AddBot battle bot owner status colour ai e)
      | reply.UpdateBot battle bot status colour ↦ λ e. absurd (c.in_default.not-UpdateBot battle bot status colour e)
      | reply.RemoveBot battle bot ↦ λ e. absurd (c.in_default.not-RemoveBot battle bot e)
      | reply.AddStartRect ally left top right bottom ↦ λ e. absurd (c.in_default.not-AddStartRect ally left top right bottom e)
      | reply.RemoveStartRect ally ↦ λ e. absurd (c.in_default.not-RemoveStartRect ally e)
      | reply.SetScriptTags pairs ↦ λ e. absurd (c.in_default.not-SetScriptTags pairs e)
      | reply.RemoveScriptTags keys ↦ λ e. absurd (c.in_default.not-RemoveScriptTags keys e)
      | reply.DisableUnits units ↦ λ e. absurd (c.in_default.not-DisableUnits units e)
      | reply.EnableUnits units ↦ λ e. absurd (c.in_default.not-EnableUnits units e)
      | reply.EnableAllUnits ↦ λ e. absurd (c.in_default.not-EnableAllUnits e)
      | r ↦ λ e. unchanged c.args.self.now
    ] refl

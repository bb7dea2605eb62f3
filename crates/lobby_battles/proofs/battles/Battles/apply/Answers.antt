use Rattle.std.proofs.Common.{◌≡◌, ◌∙◌, ap, sym, subst, refl, true, of_z, to_z, w64}
use Rattle.std.specs.Prelude.{◌≤◌}
use Rattle.line_words.specs.Table.{ByName, ByNumber, at_number, change_number, put_number}
use Rattle.lobby_model.specs.State.{Battle, updated}
use Rattle.room_lists.specs.Room.{with_asker, with_member}
use Rattle.lobby_battles.specs.declared.battles.BattleChange.{BattleChange}
use Rattle.lobby_battles.specs.declared.online_users.OnlineUser.{OnlineUser}
use Rattle.lobby_battles.specs.Info.{info_changed}
use Rattle.lobby_battles.specs.OnlineUsers.{Agree, online_user_in, users_of}
use Rattle.lobby_battles.specs.Battles.{KnowTheirBattles, CanChange, CanEnter, IsNew, asks_at, room_after, room_changed}
use Rattle.lobby_battles.proofs.Agreed.{agree_changed}
use Rattle.lobby_battles.proofs.Base.{shrinks_after, users_entered}
use Rattle.lobby_battles.proofs.Knowing.{no_asker, no_member, knowing_asked, knowing_joined, knowing_left, knowing_let_in, knowing_opened, knowing_same, knowing_unasked, shrinks_same}
use Rattle.lobby_battles.proofs.battles.Battles.apply.Goals as goal

-- opening
pub returns-in_ok-add-in-Open-clause-users : goal.returns-in_ok-add-in-Open-clause-users
returns-in_ok-add-in-Open-clause-users c = ap users_of c.enter_battle.ensures.users ∙ users_entered c.args.online.now.users.entries c.in-Open.name c.in-Open.number

pub returns-in_ok-add-in-Open-clause-agree : goal.returns-in_ok-add-in-Open-clause-agree
returns-in_ok-add-in-Open-clause-agree c = λ clients agree.
    subst (λ (online : ByName OnlineUser). Agree clients online) (sym c.enter_battle.ensures.users)
    (agree_changed clients c.args.online.now.users.entries c.in-Open.name (online_user_in c.in-Open.number) (λ x. refl) agree)

pub returns-in_ok-add-in-Open-clause-knowing : goal.returns-in_ok-add-in-Open-clause-knowing
returns-in_ok-add-in-Open-clause-knowing c =
    let can : CanEnter c.requires.can.0 c.args.self.now.by_number.entries c.args.client c.in-Open.name × IsNew c.in-Open.battle.value c.in-Open.name × (c.in-Open.number ≤ 2147483647) = subst (λ (x : BattleChange). CanChange c.requires.can.0 c.args.self.now.by_number.entries c.args.client x) c.in-Open.is c.requires.can.2 in
    subst (λ (m : ByNumber Battle). KnowTheirBattles m c.enter_battle.new.self.users.entries) (sym c.in_ok-add-in-Open.ensures.battles)
    (subst (λ (online : ByName OnlineUser). KnowTheirBattles (put_number c.args.self.now.by_number.entries c.in-Open.number c.in-Open.battle.value) online) (sym c.enter_battle.ensures.users)
    (knowing_opened c.args.self.now.by_number.entries c.args.online.now.users.entries c.requires.knowing c.requires.can.0 c.requires.can.1 c.args.client
    c.in-Open.name can.0 c.in-Open.number c.in-Open.battle.value can.1))

-- joining
pub add_member-requires : goal.add_member-requires
add_member-requires c =
    let can : CanEnter c.requires.can.0 c.args.self.now.by_number.entries c.args.client c.in-Join.name = subst (λ (x : BattleChange). CanChange c.requires.can.0 c.args.self.now.by_number.entries c.args.client x) c.in-Join.is c.requires.can.2 in
    no_member c.args.self.now.by_number.entries c.args.online.now.users.entries c.requires.knowing c.requires.can.0 c.requires.can.1 c.args.client c.in-Join.name can c.in-Join.number

pub returns-in_ok-add_member-in-Join-clause-users : goal.returns-in_ok-add_member-in-Join-clause-users
returns-in_ok-add_member-in-Join-clause-users c = ap users_of c.enter_battle-in-Join.ensures.users ∙ users_entered c.args.online.now.users.entries c.in-Join.name c.in-Join.number

pub returns-in_ok-add_member-in-Join-clause-agree : goal.returns-in_ok-add_member-in-Join-clause-agree
returns-in_ok-add_member-in-Join-clause-agree c = λ clients agree.
    subst (λ (online : ByName OnlineUser). Agree clients online) (sym c.enter_battle-in-Join.ensures.users)
    (agree_changed clients c.args.online.now.users.entries c.in-Join.name (online_user_in c.in-Join.number) (λ x. refl) agree)

pub returns-in_ok-add_member-in-Join-clause-knowing : goal.returns-in_ok-add_member-in-Join-clause-knowing
returns-in_ok-add_member-in-Join-clause-knowing c =
    let can : CanEnter c.requires.can.0 c.args.self.now.by_number.entries c.args.client c.in-Join.name = subst (λ (x : BattleChange). CanChange c.requires.can.0 c.args.self.now.by_number.entries c.args.client x) c.in-Join.is c.requires.can.2 in
    subst (λ (m : ByNumber Battle). KnowTheirBattles m c.enter_battle-in-Join.new.self.users.entries) (sym c.in_ok-add_member-in-Join.ensures.battles)
    (subst (λ (online : ByName OnlineUser). KnowTheirBattles (change_number c.args.self.now.by_number.entries c.in-Join.number (room_changed (with_member c.in-Join.name))) online) (sym c.enter_battle-in-Join.ensures.users)
    (knowing_joined c.args.self.now.by_number.entries c.args.online.now.users.entries c.requires.knowing c.requires.can.0 c.requires.can.1 c.args.client
    c.in-Join.name can c.in-Join.number))

-- asking
pub add_asker-requires-clause-member : goal.add_asker-requires-clause-member
add_asker-requires-clause-member c =
    let can : CanEnter c.requires.can.0 c.args.self.now.by_number.entries c.args.client c.in-Ask.name = subst (λ (x : BattleChange). CanChange c.requires.can.0 c.args.self.now.by_number.entries c.args.client x) c.in-Ask.is c.requires.can.2 in
    no_member c.args.self.now.by_number.entries c.args.online.now.users.entries c.requires.knowing c.requires.can.0 c.requires.can.1 c.args.client c.in-Ask.name can c.in-Ask.number

pub add_asker-requires-clause-asker : goal.add_asker-requires-clause-asker
add_asker-requires-clause-asker c =
    let can : CanEnter c.requires.can.0 c.args.self.now.by_number.entries c.args.client c.in-Ask.name = subst (λ (x : BattleChange). CanChange c.requires.can.0 c.args.self.now.by_number.entries c.args.client x) c.in-Ask.is c.requires.can.2 in
    no_asker c.args.self.now.by_number.entries c.args.online.now.users.entries c.requires.knowing c.requires.can.0 c.requires.can.1 c.args.client c.in-Ask.name can c.in-Ask.number

pub returns-in_ok-add_asker-in-Ask-clause-users : goal.returns-in_ok-add_asker-in-Ask-clause-users
returns-in_ok-add_asker-in-Ask-clause-users c = ap users_of c.enter_battle-in-Ask.ensures.users ∙ users_entered c.args.online.now.users.entries c.in-Ask.name c.in-Ask.number

pub returns-in_ok-add_asker-in-Ask-clause-agree : goal.returns-in_ok-add_asker-in-Ask-clause-agree
returns-in_ok-add_asker-in-Ask-clause-agree c = λ clients agree.
    subst (λ (online : ByName OnlineUser). Agree clients online) (sym c.enter_battle-in-Ask.ensures.users)
    (agree_changed clients c.args.online.now.users.entries c.in-Ask.name (online_user_in c.in-Ask.number) (λ x. refl) agree)

pub returns-in_ok-add_asker-in-Ask-clause-knowing : goal.returns-in_ok-add_asker-in-Ask-clause-knowing
returns-in_ok-add_asker-in-Ask-clause-knowing c =
    let can : CanEnter c.requires.can.0 c.args.self.now.by_number.entries c.args.client c.in-Ask.name = subst (λ (x : BattleChange). CanChange c.requires.can.0 c.args.self.now.by_number.entries c.args.client x) c.in-Ask.is c.requires.can.2 in
    subst (λ (m : ByNumber Battle). KnowTheirBattles m c.enter_battle-in-Ask.new.self.users.entries) (sym c.in_ok-add_asker-in-Ask.ensures.battles)
    (subst (λ (online : ByName OnlineUser). KnowTheirBattles (change_number c.args.self.now.by_number.entries c.in-Ask.number (room_changed (with_asker c.in-Ask.name c.in-Ask.script_password))) online) (sym c.enter_battle-in-Ask.ensures.users)
    (knowing_asked c.args.self.now.by_number.entries c.args.online.now.users.entries c.requires.knowing c.requires.can.0 c.requires.can.1 c.args.client
    c.in-Ask.name can c.in-Ask.number c.in-Ask.script_password))

pub returns-in_ok-let_in-in-LetIn-clause-knowing : goal.returns-in_ok-let_in-in-LetIn-clause-knowing
returns-in_ok-let_in-in-LetIn-clause-knowing c =
    let asks : asks_at (at_number c.args.self.now.by_number.entries c.in-LetIn.number) c.in-LetIn.name ≡ true = subst (λ (x : BattleChange). CanChange c.requires.can.0 c.args.self.now.by_number.entries c.args.client x) c.in-LetIn.is c.requires.can.2 in
    subst (λ (m : ByNumber Battle). KnowTheirBattles m c.args.online.now.users.entries) (sym c.in_ok-let_in-in-LetIn.ensures.battles)
    (knowing_let_in c.args.self.now.by_number.entries c.args.online.now.users.entries c.requires.knowing c.in-LetIn.number c.in-LetIn.name asks)

pub returns-in-StopAsking-clause-knowing : goal.returns-in-StopAsking-clause-knowing
returns-in-StopAsking-clause-knowing c =
    subst (λ (m : ByNumber Battle). KnowTheirBattles m c.args.online.now.users.entries) (sym c.stop_asking.ensures.battles)
    (knowing_unasked c.args.self.now.by_number.entries c.args.online.now.users.entries c.requires.knowing c.in-StopAsking.number c.in-StopAsking.name)

-- leaving
pub returns-in-Leave-clause-knowing : goal.returns-in-Leave-clause-knowing
returns-in-Leave-clause-knowing c =
    subst (λ (m : ByNumber Battle). KnowTheirBattles m c.args.online.now.users.entries) (sym c.leave.ensures.battles)
    (knowing_left c.args.self.now.by_number.entries c.args.online.now.users.entries c.requires.knowing c.in-Leave.number c.in-Leave.name)

-- what all know
pub returns-in-Update-clause-knowing : goal.returns-in-Update-clause-knowing
returns-in-Update-clause-knowing c =
    subst (λ (m : ByNumber Battle). KnowTheirBattles m c.args.online.now.users.entries) (sym c.update.ensures.battles)
    (knowing_same c.args.self.now.by_number.entries c.args.online.now.users.entries c.requires.knowing c.in-Update.number
    (info_changed (updated c.in-Update.spectators c.in-Update.locked (to_z w64 (of_z w64 c.in-Update.map_hash)) c.in-Update.map)) (λ x. shrinks_same x.room))

-- what the members share
pub returns-in_ok-change_room-in-InRoom-clause-knowing : goal.returns-in_ok-change_room-in-InRoom-clause-knowing
returns-in_ok-change_room-in-InRoom-clause-knowing c =
    subst (λ (m : ByNumber Battle). KnowTheirBattles m c.args.online.now.users.entries) (sym c.in_ok-change_room-in-InRoom.ensures.battles)
    (knowing_same c.args.self.now.by_number.entries c.args.online.now.users.entries c.requires.knowing c.in-InRoom.number
    (room_changed (room_after c.in-InRoom.change)) (λ x. shrinks_after c.in-InRoom.change x.room))

use Rattle.std.proofs.Common.{◌≡◌, ◌∙◌, ℕ, List, Bool, ap, sym, subst, refl, true, false, arith}
use Rattle.std.specs.Prelude.{Option}
use Rattle.channel_book.specs.Channels.{Channels}
use Rattle.line_words.specs.Table.{ByName, ByNumber, put_name}
use Rattle.lobby_model.specs.State.{Client, User, Battle, name_at, set_phase}
use Rattle.lobby_model.specs.declared.event.Phase.TheVariants.{In}
use Rattle.lobby_maps.specs.declared.change.Change.{Change}
use Rattle.lobby_maps.specs.declared.change.Change.TheVariants.{LogOut}
use Rattle.lobby_battles.specs.declared.online_users.OnlineUser.{OnlineUser}
use Rattle.lobby_battles.specs.Battles.{KnowTheirBattles, left_own, unasked_own}
use Rattle.lobby_battles.proofs.Knowing.{knowing_changed, knowing_added, knowing_gone}
use Rattle.lobby_post.specs.Mail.{plain, parted}
use Rattle.lobby_maps.specs.Changes.{CanBe, IsFresh}
use Rattle.lobby_battles.specs.OnlineUsers.{Agree, IsListed, IsSet, online_user_with, plain_user, users_of, where_some, without_one}
use Rattle.lobby_battles.proofs.Agreed.{agree_changed, agree_log_in, users_changed, users_added, not_online, agree_parted, listed_log_in, listed_undone, listed_parted, users_left}
use Rattle.lobby_maps.proofs.Lists.{known_same, left_parted, left_same, waits_same}
use Rattle.lobby_maps.proofs.change.apply.Goals as goal

pub returns-in-Status-clause-users : goal.returns-in-Status-clause-users
returns-in-Status-clause-users c = rw c.in-Status.is (ap users_of c.set_status.ensures.users
    ∙ users_changed c.args.online.now.users.entries c.in-Status.name c.in-Status.status)

pub returns-in-Status-clause-agree : goal.returns-in-Status-clause-agree
returns-in-Status-clause-agree c =
    subst (λ (online : ByName OnlineUser). Agree (plain c.args.clients.now.slots) online) (sym c.set_status.ensures.users)
    (agree_changed (plain c.args.clients.now.slots) c.args.online.now.users.entries c.in-Status.name (online_user_with c.in-Status.status) (λ x. refl) c.requires.agree)

pub returns-in-LogOut-clause-users : goal.returns-in-LogOut-clause-users
returns-in-LogOut-clause-users c = rw c.in-LogOut.is (ap users_of c.remove.ensures.users ∙ users_left c.args.online.now.users.entries c.in-LogOut.name)

pub returns-in-Status-clause-knowing : goal.returns-in-Status-clause-knowing
returns-in-Status-clause-knowing c =
    subst (λ (online : ByName OnlineUser). KnowTheirBattles c.args.battles.now.by_number.entries online) (sym c.set_status.ensures.users)
    (knowing_changed c.args.battles.now.by_number.entries c.args.online.now.users.entries c.requires.knowing c.in-Status.name (online_user_with c.in-Status.status) (λ x. refl))

-- it is its user who logs out of a client, and drops and leaves what is its own
abbrev out : (m : ByNumber Client) (users : ByName User) (channels : Channels) (battles : ByNumber Battle) (c : ℕ) (change : Change)
    (name : Option (List ℕ)) (asks battle : Option ℕ) (stays : Bool) → change ≡ LogOut name asks battle stays → CanBe m users channels battles c change
    → CanBe m users channels battles c (LogOut name asks battle stays)
out m users channels battles c change name asks battle stays is can = subst (λ (x : Change). CanBe m users channels battles c x) is can

pub returns-in-LogOut-clause-agree : goal.returns-in-LogOut-clause-agree
returns-in-LogOut-clause-agree c =
    let m : ByNumber Client = plain c.args.clients.now.slots in
    let mine : c.in-LogOut.name ≡ name_at m c.args.client = (out m _ _ _ c.args.client c.args.change _ _ _ _ c.in-LogOut.is c.requires.can).0 in
    subst (λ (n : ByNumber Client). Agree n c.remove.new.self.users.entries) (sym c.part.ensures.clients)
    (subst (λ (online : ByName OnlineUser). Agree (parted m c.args.client c.in-LogOut.stays) online)
    (sym (c.remove.ensures.users ∙ ap (λ me. where_some without_one me c.args.online.now.users.entries) mine))
    (agree_parted m c.args.client c.in-LogOut.stays c.args.online.now.users.entries c.requires.agree))

pub returns-in-LogOut-clause-knowing : goal.returns-in-LogOut-clause-knowing
returns-in-LogOut-clause-knowing c =
    let m : ByNumber Client = plain c.args.clients.now.slots in
    subst (λ (online : ByName OnlineUser). KnowTheirBattles c.leave_all.new.battles.by_number.entries online) (sym c.remove.ensures.users)
    (subst (λ (bs : ByNumber Battle). KnowTheirBattles bs (where_some without_one c.in-LogOut.name c.args.online.now.users.entries)) (sym (c.leave_all.ensures.battles
    ∙ ap (λ me. left_own me c.in-LogOut.battle (unasked_own me c.in-LogOut.asks c.args.battles.now.by_number.entries)) c.as_ref.ensures.value))
    (knowing_gone c.args.battles.now.by_number.entries c.args.online.now.users.entries c.requires.knowing c.in-LogOut.name c.in-LogOut.asks c.in-LogOut.battle
    (out m _ _ _ c.args.client c.args.change _ _ _ _ c.in-LogOut.is c.requires.can).1))

pub returns-in-LogOut-clause-listed : goal.returns-in-LogOut-clause-listed
returns-in-LogOut-clause-listed c = λ listed.
    subst (λ (n : ByNumber Client). IsListed c.remove.new.self.clients.keys n) (sym c.part.ensures.clients)
    (listed_parted (plain c.args.clients.now.slots) c.args.client c.in-LogOut.stays c.args.online.now.clients.keys c.remove.new.self.clients.keys
    c.remove.ensures.clients listed)

pub returns-in_ok-add-in-LogIn-clause-users : goal.returns-in_ok-add-in-LogIn-clause-users
returns-in_ok-add-in-LogIn-clause-users c =
    rw c.in-LogIn.is
    (ap users_of c.in_ok-add-in-LogIn.ensures.users ∙ users_added c.args.online.now.users.entries c.copy.result c.in-LogIn.online_user
    ∙ ap (λ k. put_name (users_of c.args.online.now.users.entries) k (plain_user c.in-LogIn.online_user)) c.copy.ensures)

pub returns-in_ok-add-in-LogIn-clause-agree : goal.returns-in_ok-add-in-LogIn-clause-agree
returns-in_ok-add-in-LogIn-clause-agree c =
    let m : ByNumber Client = plain c.args.clients.now.slots in
    let fresh : IsFresh m (users_of c.args.online.now.users.entries) c.args.client c.in-LogIn.name c.in-LogIn.online_user =
    subst (λ (x : Change). CanBe m (users_of c.args.online.now.users.entries) c.args.channels.now c.args.battles.now.by_number.entries c.args.client x) c.in-LogIn.is c.requires.can in
    subst (λ (n : ByNumber Client). Agree n c.add.new.self.users.entries) (sym c.log_in.ensures.clients)
    (subst (λ (online : ByName OnlineUser). Agree (set_phase m c.args.client (In c.in-LogIn.name)) online)
    (sym (c.in_ok-add-in-LogIn.ensures.users ∙ ap (λ k. put_name c.args.online.now.users.entries k c.in-LogIn.online_user) c.copy.ensures))
    (agree_log_in m c.args.client c.in-LogIn.name c.args.online.now.users.entries c.in-LogIn.online_user fresh.hears fresh.nobody
    (not_online c.args.online.now.users.entries c.in-LogIn.name fresh.free) fresh.here c.requires.agree))

pub returns-in_ok-add-in-LogIn-clause-listed : goal.returns-in_ok-add-in-LogIn-clause-listed
returns-in_ok-add-in-LogIn-clause-listed c = λ listed.
    let m : ByNumber Client = plain c.args.clients.now.slots in
    let fresh : IsFresh m (users_of c.args.online.now.users.entries) c.args.client c.in-LogIn.name c.in-LogIn.online_user =
    subst (λ (x : Change). CanBe m (users_of c.args.online.now.users.entries) c.args.channels.now c.args.battles.now.by_number.entries c.args.client x) c.in-LogIn.is c.requires.can in
    let set : IsSet c.args.client true c.args.online.now.clients.keys c.add.new.self.clients.keys = subst
    (λ k. IsSet k true c.args.online.now.clients.keys c.add.new.self.clients.keys) fresh.here c.in_ok-add-in-LogIn.ensures.clients in
    subst (λ (n : ByNumber Client). IsListed c.add.new.self.clients.keys n) (sym c.log_in.ensures.clients)
    (listed_log_in m c.args.client c.in-LogIn.name c.args.online.now.clients.keys c.add.new.self.clients.keys fresh.hears set listed)

pub returns-in_ok-add-in-LogIn-clause-knowing : goal.returns-in_ok-add-in-LogIn-clause-knowing
returns-in_ok-add-in-LogIn-clause-knowing c =
    let m : ByNumber Client = plain c.args.clients.now.slots in
    let fresh : IsFresh m (users_of c.args.online.now.users.entries) c.args.client c.in-LogIn.name c.in-LogIn.online_user =
    subst
    (λ (x : Change). CanBe m (users_of c.args.online.now.users.entries) c.args.channels.now c.args.battles.now.by_number.entries c.args.client x) c.in-LogIn.is c.requires.can in
    subst (λ (online : ByName OnlineUser). KnowTheirBattles c.args.battles.now.by_number.entries online)
    (sym (c.in_ok-add-in-LogIn.ensures.users ∙ ap (λ k. put_name c.args.online.now.users.entries k c.in-LogIn.online_user) c.copy.ensures))
    (knowing_added c.args.battles.now.by_number.entries c.args.online.now.users.entries c.requires.knowing c.in-LogIn.name c.in-LogIn.online_user
    (not_online c.args.online.now.users.entries c.in-LogIn.name fresh.free))

pub returns-in_err-add-in-LogIn-clause-listed : goal.returns-in_err-add-in-LogIn-clause-listed
returns-in_err-add-in-LogIn-clause-listed c = λ listed.
    let m : ByNumber Client = plain c.args.clients.now.slots in
    let fresh : IsFresh m (users_of c.args.online.now.users.entries) c.args.client c.in-LogIn.name c.in-LogIn.online_user =
    subst (λ (x : Change). CanBe m (users_of c.args.online.now.users.entries) c.args.channels.now c.args.battles.now.by_number.entries c.args.client x) c.in-LogIn.is c.requires.can in
    let set : IsSet c.args.client false c.args.online.now.clients.keys c.add.new.self.clients.keys = subst
    (λ k. IsSet k false c.args.online.now.clients.keys c.add.new.self.clients.keys) fresh.here c.in_err-add-in-LogIn.ensures.err_clients in
    listed_undone m c.args.online.now.clients.keys c.add.new.self.clients.keys c.args.client fresh.nobody set listed

pub apply-requires : goal.apply-requires
apply-requires c = record {
  can = (
    plain c.args.clients.now.slots,
    c.requires.agree,
    subst (λ (x : Change). CanBe (plain c.args.clients.now.slots) (users_of c.args.online.now.users.entries) c.args.channels.now c.args.battles.now.by_number.entries c.args.client x) c.in-InBattles.is c.requires.can,
  );
  knowing = c.requires.knowing;
}

pub returns-in-Nothing-clause-waits : goal.returns-in-Nothing-clause-waits
returns-in-Nothing-clause-waits c = λ home within. left_same c.args.clients.now home _ refl

pub returns-in-Status-clause-waits : goal.returns-in-Status-clause-waits
returns-in-Status-clause-waits c = λ home within. left_same c.args.clients.now home _ refl

pub returns-in_ok-add_member-in-Join-clause-waits : goal.returns-in_ok-add_member-in-Join-clause-waits
returns-in_ok-add_member-in-Join-clause-waits c = λ home within. left_same c.args.clients.now home _ refl

pub returns-in-Leave-clause-waits : goal.returns-in-Leave-clause-waits
returns-in-Leave-clause-waits c = λ home within. left_same c.args.clients.now home _ refl

pub returns-in_ok-apply-in-InBattles-clause-waits : goal.returns-in_ok-apply-in-InBattles-clause-waits
returns-in_ok-apply-in-InBattles-clause-waits c = λ home within. left_same c.args.clients.now home _ refl

pub returns-in_ok-add-in-LogIn-clause-waits : goal.returns-in_ok-add-in-LogIn-clause-waits
returns-in_ok-add-in-LogIn-clause-waits c = λ home within.
    left_same c.log_in.new.self home _ (waits_same c.args.clients.now c.log_in.new.self c.log_in.ensures.listings c.log_in.ensures.lines home)

pub returns-in_ok-add-in-LogIn-clause-known : goal.returns-in_ok-add-in-LogIn-clause-known
returns-in_ok-add-in-LogIn-clause-known c = known_same c.args.clients.now c.log_in.new.self c.log_in.ensures.listings c.log_in.ensures.lines

pub returns-in-LogOut-clause-waits : goal.returns-in-LogOut-clause-waits
returns-in-LogOut-clause-waits c = λ home within.
    left_parted c.part.new.self (plain c.args.clients.now.slots) c.args.client c.in-LogOut.stays home _ c.part.ensures.clients
    (c.part.ensures.waits home (omega (arith, within)))

use Rattle.std.proofs.Common.{◌≡◌, ℕ, List, ◌+◌, ◌≤◌, ◌∙◌, ap, sym, subst, arith}
use Rattle.std.specs.Map.{keys_of}
use Rattle.line_words.specs.Table.{ByName, ByNumber}
use Rattle.lobby_model.specs.State.{State, Client, Battle}
use Rattle.lobby_battles.specs.declared.online_users.OnlineUser.{OnlineUser}
use Rattle.lobby_model.proofs.Splits.{keys-values}
use Rattle.lobby_post.specs.Amounts.{bytes_in_all, counted_on}
use Rattle.lobby_post.specs.Mail.{Mailbox, bytes_for, plain, deliver, wakes_home}
use Rattle.lobby_post.proofs.Sums.{counted_twice}
use Rattle.lobby_post.specs.Crowd.{Crowd, Known, waits}
use Rattle.lobby_maps.specs.Dirty.{DirtyAfter, lists_of, those_there}
use Rattle.lobby_maps.specs.Changes.{CanBe, changed, clients_after, users_after}
use Rattle.lobby_battles.specs.OnlineUsers.{Agree, IsListed, users_of}
use Rattle.lobby_maps.specs.Fit.{Numbered}
use Rattle.lobby_battles.specs.Battles.{KnowTheirBattles}
use Rattle.lobby_maps.specs.Shown.{lobby_of}
use Rattle.lobby_maps.proofs.Numbered.{numbered_after}
use Rattle.lobby_maps.proofs.Applied.{sent_so, told_so, woken_so}
use Rattle.lobby_maps.proofs.Fitting.{fit_same, fit_delivered, counted_after}
use Rattle.lobby_maps.proofs.Plain.{plainly, shown_same}
use Rattle.lobby_maps.proofs.Lists.{known_same, listed_as, lists_same, waits_same}
use Rattle.lobby_maps.proofs.Dirtied.{dirty_so}
use Rattle.lobby_maps.proofs.maps.Maps.commit.Goals as goal

pub invariant_of-self : goal.invariant_of-self
invariant_of-self c = (
  c.self.invariant.0,
  fit_same _ _ c.reserve.new.self _ _ _ _ _ c.reserve.ensures.clients c.reserve.ensures.limit
      c.in-Err.ensures.err
      (known_same c.self.inside.clients c.reserve.new.self c.reserve.ensures.same_listings c.reserve.ensures.same_lines _ c.self.invariant.1.known)
      c.self.invariant.1,
)

pub invariant_of-self-in-Ok-done : goal.invariant_of-self-in-Ok-done
invariant_of-self-in-Ok-done c =
    let was : ByNumber Client = plain c.self.inside.clients.slots in
    let room : plain c.reserve.new.self.slots ≡ was = c.reserve.ensures.clients in (
      c.self.invariant.0,
      fit_delivered _ c.args.post.now.sent c.apply-done.new.clients c.deliver.new.self c.apply-done.new.online.users.entries
          c.apply-done.new.online.clients.keys c.self.inside.last_client c.apply-done.new.battles.by_number.entries c.apply-done.new.battles.last
          (c.deliver.ensures.limit ∙ c.apply-done.ensures.limit ∙ c.reserve.ensures.limit
          ∙ c.self.invariant.1.limited) c.deliver.ensures.clients c.deliver.ensures.due
          (c.deliver.ensures.known _ (c.apply-done.ensures.known _
          (known_same c.self.inside.clients c.reserve.new.self c.reserve.ensures.same_listings c.reserve.ensures.same_lines _ c.self.invariant.1.known)))
          c.in-Ok-done.ensures.agree
          (c.apply-done.ensures.listed (subst (λ (n : ByNumber Client). IsListed c.self.inside.online.clients.keys n)
          (sym room) c.self.invariant.1.listed))
          (subst (λ (n : ByNumber Client). Numbered c.self.inside.last_client n) (sym c.in-Ok-done.ensures.clients)
          (numbered_after c.self.inside.last_client (plain c.reserve.new.self.slots) c.args.client c.args.change
          (subst (λ (n : ByNumber Client). Numbered c.self.inside.last_client n) (sym room) c.self.invariant.1.numbered)))
          c.in-Ok-done.ensures.knowing
          (subst (λ n. n ≤ 2147483647) (sym c.in-Ok-done.ensures.last)
          (counted_after _ _ _ _ c.args.client c.self.inside.battles.last c.args.change (c.requires) c.self.invariant.1.counted)),
    )

pub invariant_of-self-in-Err-done : goal.invariant_of-self-in-Err-done
invariant_of-self-in-Err-done c =
    let was : ByNumber Client = plain c.self.inside.clients.slots in
    let room : plain c.reserve.new.self.slots ≡ was = c.reserve.ensures.clients in
    let same : plain c.cancel.new.self.slots ≡ was = c.cancel.ensures.clients ∙ ap (λ (m : Crowd). plain m.slots) c.in-Err-done.ensures.err.0
    ∙ room in (
      c.self.invariant.0,
      record {
        limited = c.cancel.ensures.limit ∙ c.apply-done.ensures.limit ∙ c.reserve.ensures.limit ∙ c.self.invariant.1.limited;
        rest = c.cancel.ensures.due;
        agree = subst (λ (n : ByNumber Client). Agree n c.apply-done.new.online.users.entries) (sym same)
            (subst (λ (us : ByName OnlineUser). Agree was us) (sym c.in-Err-done.ensures.err.1) c.self.invariant.1.agree);
        listed = subst (λ (n : ByNumber Client). IsListed c.apply-done.new.online.clients.keys n) (sym c.cancel.ensures.clients)
            (c.apply-done.ensures.listed (subst (λ (n : ByNumber Client). IsListed c.self.inside.online.clients.keys n)
            (sym room) c.self.invariant.1.listed));
        numbered = subst (λ (n : ByNumber Client). Numbered c.self.inside.last_client n) (sym same) c.self.invariant.1.numbered;
        known = known_same c.apply-done.new.clients c.cancel.new.self c.cancel.ensures.same_listings c.cancel.ensures.same_lines _ (c.apply-done.ensures.known _
            (known_same c.self.inside.clients c.reserve.new.self c.reserve.ensures.same_listings c.reserve.ensures.same_lines _ c.self.invariant.1.known));
        knowing = subst (λ (us : ByName OnlineUser). KnowTheirBattles c.apply-done.new.battles.by_number.entries us) (sym c.in-Err-done.ensures.err.1)
            (subst (λ (m : ByNumber Battle). KnowTheirBattles m c.self.inside.online.users.entries) (sym c.in-Err-done.ensures.err.3) c.self.invariant.1.knowing);
        counted = subst (λ n. n ≤ 2147483647) (sym c.in-Err-done.ensures.err.4) c.self.invariant.1.counted;
      },
    )

pub returns-in-Ok-done-clause-ok : goal.returns-in-Ok-done-clause-ok
returns-in-Ok-done-clause-ok c =
    let before : State = lobby_of c.self.inside.settings c.self.inside.accounts (plain c.self.inside.clients.slots)
    (users_of c.self.inside.online.users.entries) c.self.inside.channels c.self.inside.battles.by_number.entries c.self.inside.last_client c.self.inside.battles.last in
    let room : plain c.reserve.new.self.slots ≡ before.clients = c.reserve.ensures.clients in
    let limited : c.apply-done.new.clients.limit ≡ c.self.inside.settings.outbox_limit = c.apply-done.ensures.limit ∙ c.reserve.ensures.limit
    ∙ c.self.invariant.1.limited in
    let users : users_of c.apply-done.new.online.users.entries ≡ users_after before.users c.args.change = c.in-Ok-done.ensures.users in
    rw (← c.self.view_is) (λ e is matches.
    (λ i. record before { users = users i; channels = c.in-Ok-done.ensures.channels i; battles = c.in-Ok-done.ensures.battles i; last_battle = c.in-Ok-done.ensures.last i; clients = plain c.deliver.new.self.slots })
    ∙ sent_so before (changed before c.args.client c.args.change) e c.args.post.now is matches (plain c.deliver.new.self.slots)
    (c.deliver.ensures.clients
    ∙ (λ i. deliver (limited i) c.args.post.now.sent ((c.in-Ok-done.ensures.clients
    ∙ ap (λ (m : ByNumber Client). clients_after m c.args.client c.args.change) room) i))))

pub returns-in-Ok-done-clause-wakes : goal.returns-in-Ok-done-clause-wakes
returns-in-Ok-done-clause-wakes c =
    let before : State = lobby_of c.self.inside.settings c.self.inside.accounts (plain c.self.inside.clients.slots)
    (users_of c.self.inside.online.users.entries) c.self.inside.channels c.self.inside.battles.by_number.entries c.self.inside.last_client c.self.inside.battles.last in
    let limited : c.apply-done.new.clients.limit ≡ c.self.inside.settings.outbox_limit = c.apply-done.ensures.limit ∙ c.reserve.ensures.limit
    ∙ c.self.invariant.1.limited in
    rw (← c.self.view_is) (λ e is matches.
    woken_so before (changed before c.args.client c.args.change) e c.args.post.now is matches c.deliver.result
    (λ home. c.deliver.ensures.wakes home ∙ (λ i. wakes_home (limited i) c.args.post.now.sent
    ((c.in-Ok-done.ensures.clients ∙ ap (λ (m : ByNumber Client). clients_after m c.args.client c.args.change) c.reserve.ensures.clients) i) home)))

pub returns-in-Ok-done-clause-told : goal.returns-in-Ok-done-clause-told
returns-in-Ok-done-clause-told c =
    let before : State = lobby_of c.self.inside.settings c.self.inside.accounts (plain c.self.inside.clients.slots)
    (users_of c.self.inside.online.users.entries) c.self.inside.channels c.self.inside.battles.by_number.entries c.self.inside.last_client c.self.inside.battles.last in
    let slots : ByNumber Mailbox = c.apply-done.new.clients.slots in
    let gets : ℕ → List ℕ = bytes_for c.args.post.now.sent in
    let told : c.deliver.new.told ≡ counted_on c.self.inside.told (c.args.more + bytes_in_all gets (keys_of (plain slots))) =
    c.deliver.ensures.told ∙ counted_twice c.self.inside.told c.args.more (bytes_in_all gets (keys_of slots))
    ∙ ap (λ ks. counted_on c.self.inside.told (c.args.more + bytes_in_all gets ks)) (sym (keys-values (λ held. held.client) slots)) in
    rw (← c.self.view_is) (λ e is matches.
    told ∙ ap (λ n. counted_on c.self.inside.told (c.args.more + n))
    (told_so before (changed before c.args.client c.args.change) e c.args.post.now is matches (plain slots)
    (c.in-Ok-done.ensures.clients ∙ ap (λ (m : ByNumber Client). clients_after m c.args.client c.args.change) c.reserve.ensures.clients)))

pub apply-done-requires-clause-can : goal.apply-done-requires-clause-can
apply-done-requires-clause-can c =
    subst (λ (m : ByNumber Client). CanBe m (users_of c.self.inside.online.users.entries) c.self.inside.channels c.self.inside.battles.by_number.entries
    c.args.client c.args.change) (sym c.reserve.ensures.clients)
    (subst (λ (t : State). CanBe t.clients t.users t.channels t.battles c.args.client c.args.change) (sym (plainly c.self.view_is)) c.requires)

pub deliver-requires-clause-ready : goal.deliver-requires-clause-ready
deliver-requires-clause-ready c = c.apply-done.ensures.ready c.in-Ok.ensures.ready

pub returns-in-Ok-done-clause-dirty : goal.returns-in-Ok-done-clause-dirty
returns-in-Ok-done-clause-dirty c =
    let before : State = lobby_of c.self.inside.settings c.self.inside.accounts (plain c.self.inside.clients.slots)
    (users_of c.self.inside.online.users.entries) c.self.inside.channels c.self.inside.battles.by_number.entries c.self.inside.last_client c.self.inside.battles.last in
    let known : Known c.apply-done.new.clients c.self.inside.last_client = c.apply-done.ensures.known _
    (known_same c.self.inside.clients c.reserve.new.self c.reserve.ensures.same_listings c.reserve.ensures.same_lines _ c.self.invariant.1.known) in
    rw (← c.self.view_is) (λ e is matches home within.
    listed_as (DirtyAfter before e home) c.self.inside.clients c.deliver.new.self home within
    (dirty_so before (changed before c.args.client c.args.change) e c.args.post.now is matches c.apply-done.new.clients c.self.inside.last_client home
    (sym (c.in-Ok-done.ensures.clients ∙ ap (λ (m : ByNumber Client). clients_after m c.args.client c.args.change) c.reserve.ensures.clients)) known
    (waits c.self.inside.clients home) (waits c.deliver.new.self home)
    (c.in-Ok-done.ensures.waits home within ∙ ap (those_there (plain c.apply-done.new.clients.slots))
    (waits_same c.self.inside.clients c.reserve.new.self c.reserve.ensures.same_listings c.reserve.ensures.same_lines home))
    (c.deliver.ensures.newly c.self.inside.last_client home known (omega (arith, within)))))

pub returns-in-Err-clause-err : goal.returns-in-Err-clause-err
returns-in-Err-clause-err c =
    let before : State = lobby_of c.self.inside.settings c.self.inside.accounts (plain c.self.inside.clients.slots)
    (users_of c.self.inside.online.users.entries) c.self.inside.channels c.self.inside.battles.by_number.entries c.self.inside.last_client c.self.inside.battles.last in
    rw (← c.self.view_is) (shown_same before _ _ _ c.self.inside.told c.reserve.ensures.clients
    (lists_same c.self.inside.clients c.reserve.new.self c.reserve.ensures.same_listings c.reserve.ensures.same_lines))

pub returns-in-Err-done-clause-err : goal.returns-in-Err-done-clause-err
returns-in-Err-done-clause-err c =
    let same = c.in-Err-done.ensures.err in
    let clients : plain c.cancel.new.self.slots ≡ plain c.self.inside.clients.slots = c.cancel.ensures.clients
    ∙ ap (λ (m : Crowd). plain m.slots) same.0 ∙ c.reserve.ensures.clients in
    let lists : lists_of c.cancel.new.self ≡ lists_of c.self.inside.clients =
    lists_same c.apply-done.new.clients c.cancel.new.self c.cancel.ensures.same_listings c.cancel.ensures.same_lines
    ∙ ap lists_of same.0
    ∙ lists_same c.self.inside.clients c.reserve.new.self c.reserve.ensures.same_listings c.reserve.ensures.same_lines in
    rw (← c.self.view_is) (λ i. record {
      plain = lobby_of c.self.inside.settings c.self.inside.accounts (clients i) (users_of (same.1 i)) (same.2 i) (same.3 i) c.self.inside.last_client (same.4 i);
      dirty = lists i;
      told = c.self.inside.told;
    })

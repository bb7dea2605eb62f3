use Rattle.std.proofs.Common.{◌≡◌, ℕ, ◌≤◌, ◌∙◌, ap, sym, arith, ◌+◌, true}
use Rattle.std.specs.Prelude.{None, is_some}
use Rattle.line_words.specs.Table.{at_number}
use Rattle.lobby_model.specs.declared.event.Event.TheVariants as event
use Rattle.line_words.proofs.Options.{none_from_is_some}
use Rattle.lobby_model.specs.State.{State}
use Rattle.lobby_model.proofs.Quiet.{quiet_touches}
use Rattle.lobby_model.proofs.Void.{same_effect, same_state, sends_nothing}
use Rattle.lobby_maps.proofs.Dirtied.{dirty_quiet}
use Rattle.lobby_maps.specs.Amounts.{bytes_told}
use Rattle.lobby_machine.specs.Work.{counted_on}
use Rattle.lobby_maps.specs.Changes.{changed}
use Rattle.lobby_maps.specs.Dirty.{DirtyAfter}
use Rattle.lobby_maps.specs.Shown.{Shown, dirty_at}
use Rattle.lobby_machine.specs.declared.lobby.Parts.{Parts}
use Rattle.lobby_machine.proofs.Events.{on_dirty, on_ok, on_told, on_wakes}
use Rattle.lobby_machine.proofs.lobby.Lobby.shut.Goals as goal

pub returns-clause-ok : goal.returns-clause-ok
returns-clause-ok c =
    let s : State = c.deref_mut.result.now.maps.plain in
    rw (← ap (λ (p : Parts). p.maps) c.deref_mut.ensures.value ∙ c.self.view_is)
    (on_ok c.commit.result s (changed s c.args.client c.in_ok-change.change) c.commit.new.self.plain
    (event.Shut c.args.client) c.close.new.post c.in_ok-change.ensures.effect c.in_ok-change.ensures.told.bytes c.commit.ensures.ok)

pub returns-clause-wakes : goal.returns-clause-wakes
returns-clause-wakes c =
    let s : State = c.deref_mut.result.now.maps.plain in
    rw (← ap (λ (p : Parts). p.maps) c.deref_mut.ensures.value ∙ c.self.view_is)
    (on_wakes c.commit.result s (changed s c.args.client c.in_ok-change.change) c.commit.new.self.plain
    (event.Shut c.args.client) c.close.new.post c.in_ok-change.ensures.effect c.in_ok-change.ensures.told.bytes c.commit.ensures.wakes)

pub returns-clause-dirty : goal.returns-clause-dirty
returns-clause-dirty c =
    let s : State = c.deref_mut.result.now.maps.plain in
    rw (← ap (λ (p : Parts). p.maps) c.deref_mut.ensures.value ∙ c.self.view_is)
    (on_dirty c.commit.result s (changed s c.args.client c.in_ok-change.change) (event.Shut c.args.client) c.close.new.post
    (λ e. (home : ℕ) → home ≤ 63 → DirtyAfter s e home (dirty_at c.deref_mut.result.now.maps home) (dirty_at c.commit.new.self home))
    c.in_ok-change.ensures.effect c.in_ok-change.ensures.told.bytes c.commit.ensures.dirty)

pub returns-clause-told : goal.returns-clause-told
returns-clause-told c =
    let m : Shown = c.deref_mut.result.now.maps in
    let there : is_some (at_number m.plain.clients c.args.client) ≡ true = sym c.has_client.ensures.there ∙ c.if-not-has_client.false in
    let nothing_more : 0 + bytes_told m.plain (event.Shut c.args.client) ≡ bytes_told m.plain (event.Shut c.args.client) = omega arith in
    rw (← ap (λ (p : Parts). p.maps) c.deref_mut.ensures.value ∙ c.self.view_is)
    (on_told c.commit.result m.plain (changed m.plain c.args.client c.in_ok-change.change) (event.Shut c.args.client) c.close.new.post m.told c.commit.new.self.told 0
    c.in_ok-change.ensures.effect c.in_ok-change.ensures.told.bytes there (ap (λ n. counted_on m.told n) nothing_more) c.commit.ensures.told)

-- a client that is not there
pub returns-then-not-has_client-clause-ok : goal.returns-then-not-has_client-clause-ok
returns-then-not-has_client-clause-ok c =
    let s : State = c.deref_mut.result.now.maps.plain in
    let none : at_number s.clients c.args.client ≡ None = none_from_is_some (at_number s.clients c.args.client) (sym c.if-not-has_client.ensures.there) in
    rw (← ap (λ (p : Parts). p.maps) c.deref_mut.ensures.value ∙ c.self.view_is) (sym (same_state s (event.Shut c.args.client) none))

pub returns-then-not-has_client-clause-wakes : goal.returns-then-not-has_client-clause-wakes
returns-then-not-has_client-clause-wakes c = λ home.
    let s : State = c.args.self.now.plain in
    let same : c.deref_mut.result.now.maps ≡ c.args.self.now = ap (λ (p : Parts). p.maps) c.deref_mut.ensures.value ∙ c.self.view_is in
    let none : at_number s.clients c.args.client ≡ None = none_from_is_some (at_number s.clients c.args.client)
    (ap (λ (l : Shown). is_some (at_number l.plain.clients c.args.client)) (sym same) ∙ sym c.if-not-has_client.ensures.there) in
    c.none.ensures home ∙ sym (quiet_touches s (event.Shut c.args.client) home (sends_nothing s (event.Shut c.args.client) none))

pub returns-then-not-has_client-clause-dirty : goal.returns-then-not-has_client-clause-dirty
returns-then-not-has_client-clause-dirty c = λ home within.
    let s : State = c.deref_mut.result.now.maps.plain in
    let none : at_number s.clients c.args.client ≡ None = none_from_is_some (at_number s.clients c.args.client) (sym c.if-not-has_client.ensures.there) in
    rw (← ap (λ (p : Parts). p.maps) c.deref_mut.ensures.value ∙ c.self.view_is)
    (dirty_quiet s (event.Shut c.args.client) (sends_nothing s (event.Shut c.args.client) none) home
    (dirty_at c.deref_mut.result.now.maps home) (same_effect s (event.Shut c.args.client) none) (c.if-not-has_client.ensures.waiting home within))

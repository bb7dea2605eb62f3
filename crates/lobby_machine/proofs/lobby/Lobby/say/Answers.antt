use Rattle.std.proofs.Common.{◌≡◌, ℕ, ◌+◌, ◌*◌, ◌%◌, ◌^◌, ◌≤◌, ◌∙◌, ap, sym, true, false}
use Rattle.std.specs.Prelude.{is_some, if◌then◌else◌}
use Rattle.lobby_model.specs.declared.event.Event.TheVariants as event
use Rattle.lobby_model.specs.State.{State, hears}
use Rattle.lobby_model.proofs.Quiet.{effect_unheard, next_unheard, quiet_touches, unheard_sends}
use Rattle.lobby_maps.specs.Changes.{changed}
use Rattle.lobby_maps.specs.Dirty.{DirtyAfter}
use Rattle.lobby_maps.specs.Shown.{Shown, dirty_at}
use Rattle.lobby_maps.proofs.Dirtied.{dirty_quiet}
use Rattle.lobby_machine.specs.declared.lobby.Parts.{Parts}
use Rattle.lobby_maps.specs.Amounts.{bytes_told}
use Rattle.lobby_machine.specs.Work.{amount, counted_on, list_length}
use Rattle.lobby_machine.proofs.Events.{counted_wrapped, on_dirty, on_ok, on_told, on_wakes, said_effect, said_matches}
use Rattle.lobby_machine.proofs.lobby.Lobby.say.Goals as goal

pub returns-in_default-clause-ok : goal.returns-in_default-clause-ok
returns-in_default-clause-ok c =
    let deaf : hears c.deref_mut.result.now.maps.plain c.args.client ≡ false = sym c.issuer.ensures.hears ∙ ap is_some c.in_default.is in
    rw (← ap (λ (p : Parts). p.maps) c.deref_mut.ensures.value ∙ c.self.view_is) (sym (next_unheard c.deref_mut.result.now.maps.plain c.args.client c.args.request.now deaf))

pub returns-in_default-clause-wakes : goal.returns-in_default-clause-wakes
returns-in_default-clause-wakes c = λ home.
    let s : State = c.args.self.now.plain in
    let deaf : hears s c.args.client ≡ false = ap (λ (l : Shown). hears l.plain c.args.client) (sym (ap (λ (p : Parts). p.maps) c.deref_mut.ensures.value ∙ c.self.view_is)) ∙ sym c.issuer.ensures.hears
    ∙ ap is_some c.in_default.is in
    c.none.ensures home ∙ sym (quiet_touches s (event.Say c.args.client c.args.request.now) home
    (λ d. unheard_sends s c.args.client c.args.request.now d deaf))

pub returns-clause-ok : goal.returns-clause-ok
returns-clause-ok c =
    let s : State = c.deref_mut.result.now.maps.plain in
    let live : hears s c.args.client ≡ true = sym c.issuer.ensures.hears ∙ ap is_some c.in-Some.is in
    rw (← ap (λ (p : Parts). p.maps) c.deref_mut.ensures.value ∙ c.self.view_is)
    (on_ok c.commit.result s (changed s c.args.client c.in_ok-change.change) c.commit.new.self.plain
    (event.Say c.args.client c.args.request.now) c.decide.new.post
    (said_effect s c.args.client c.args.request.now live _ _ c.in_ok-change.ensures)
    (said_matches s c.args.client c.args.request.now live _ _ c.in_ok-change.ensures) c.commit.ensures.ok)

pub returns-clause-wakes : goal.returns-clause-wakes
returns-clause-wakes c =
    let s : State = c.deref_mut.result.now.maps.plain in
    let live : hears s c.args.client ≡ true = sym c.issuer.ensures.hears ∙ ap is_some c.in-Some.is in
    rw (← ap (λ (p : Parts). p.maps) c.deref_mut.ensures.value ∙ c.self.view_is)
    (on_wakes c.commit.result s (changed s c.args.client c.in_ok-change.change) c.commit.new.self.plain
    (event.Say c.args.client c.args.request.now) c.decide.new.post
    (said_effect s c.args.client c.args.request.now live _ _ c.in_ok-change.ensures)
    (said_matches s c.args.client c.args.request.now live _ _ c.in_ok-change.ensures) c.commit.ensures.wakes)

pub returns-in_default-clause-dirty : goal.returns-in_default-clause-dirty
returns-in_default-clause-dirty c = λ home within.
    let s : State = c.deref_mut.result.now.maps.plain in
    let deaf : hears s c.args.client ≡ false = sym c.issuer.ensures.hears ∙ ap is_some c.in_default.is in
    rw (← ap (λ (p : Parts). p.maps) c.deref_mut.ensures.value ∙ c.self.view_is)
    (dirty_quiet s (event.Say c.args.client c.args.request.now) (λ d. unheard_sends s c.args.client c.args.request.now d deaf) home
    (dirty_at c.deref_mut.result.now.maps home) (effect_unheard s c.args.client c.args.request.now deaf) (c.issuer.ensures.waiting home within))

pub returns-clause-dirty : goal.returns-clause-dirty
returns-clause-dirty c =
    let s : State = c.deref_mut.result.now.maps.plain in
    let live : hears s c.args.client ≡ true = sym c.issuer.ensures.hears ∙ ap is_some c.in-Some.is in
    rw (← ap (λ (p : Parts). p.maps) c.deref_mut.ensures.value ∙ c.self.view_is)
    (on_dirty c.commit.result s (changed s c.args.client c.in_ok-change.change)
    (event.Say c.args.client c.args.request.now) c.decide.new.post
    (λ e. (home : ℕ) → home ≤ 63 → DirtyAfter s e home (dirty_at c.deref_mut.result.now.maps home) (dirty_at c.commit.new.self home))
    (said_effect s c.args.client c.args.request.now live _ _ c.in_ok-change.ensures)
    (said_matches s c.args.client c.args.request.now live _ _ c.in_ok-change.ensures) c.commit.ensures.dirty)

pub returns-in_default-clause-told : goal.returns-in_default-clause-told
returns-in_default-clause-told c =
    let m : Shown = c.deref_mut.result.now.maps in
    let deaf : hears m.plain c.args.client ≡ false = sym c.issuer.ensures.hears ∙ ap is_some c.in_default.is in
    rw (← ap (λ (p : Parts). p.maps) c.deref_mut.ensures.value ∙ c.self.view_is)
    (sym (ap (λ b. if b then counted_on m.told (amount m.plain (event.Say c.args.client c.args.request.now)) else m.told) deaf))

pub returns-clause-told : goal.returns-clause-told
returns-clause-told c =
    let m : Shown = c.deref_mut.result.now.maps in
    let live : hears m.plain c.args.client ≡ true = sym c.issuer.ensures.hears ∙ ap is_some c.in-Some.is in
    let said = event.Say c.args.client c.args.request.now in
    rw (← ap (λ (p : Parts). p.maps) c.deref_mut.ensures.value ∙ c.self.view_is)
    (on_told c.commit.result m.plain (changed m.plain c.args.client c.in_ok-change.change) said c.decide.new.post m.told c.commit.new.self.told (64 * c.list_len.result % 2 ^ 64)
    (said_effect m.plain c.args.client c.args.request.now live _ _ c.in_ok-change.ensures)
    (said_matches m.plain c.args.client c.args.request.now live _ _ c.in_ok-change.ensures) live
    (ap (λ n. counted_on m.told (n + bytes_told m.plain said)) (ap (λ n. 64 * n % 2 ^ 64) c.list_len.ensures)
    ∙ counted_wrapped m.told (64 * list_length c.args.request.now.command) (bytes_told m.plain said))
    c.commit.ensures.told)

use Rattle.std.proofs.Common.{◌≡◌, ◌∙◌, ap, sym}
use Rattle.std.specs.Prelude.{Some, None}
use Rattle.std.proofs.lemmas.Option.{same_Some}
use Rattle.line_words.specs.Table.{at_number}
use Rattle.room_lists.specs.Room.{has_asker}
use Rattle.lobby_battles.specs.Battles.{asks_at}
use Rattle.lobby_battles.proofs.Base.{asking_there, own_found, own_none, own_nowhere, own_only}
use Rattle.lobby_battles.proofs.Knowing.{as_asker}
use Rattle.lobby_maps.proofs.Sorted.{ordered_is_sorted}
use Rattle.lobby_maps.proofs.maps.Maps.asked_by.Goals as goal

pub returns-in_err-number-clause-only : goal.returns-in_err-number-clause-only
returns-in_err-number-clause-only c =
    rw (← c.self.view_is) (own_nowhere c.self.inside.battles.by_number.entries c.self.inside.online.users.entries
    (ordered_is_sorted c.self.inside.battles.by_number.entries c.len.ensures.ordered) c.self.invariant.1.knowing c.args.name.now
    (has_asker c.args.name.now) (as_asker c.args.name.now)
    (λ number battle at there. absurd (let no : None ≡ Some number = c.in_err-number.ensures ∙ at in cc)) _)

pub returns-in_err-number-clause-none : goal.returns-in_err-number-clause-none
returns-in_err-number-clause-none c = λ is.
    rw (← c.self.view_is) (own_none c.self.inside.battles.by_number.entries c.self.inside.online.users.entries
    (ordered_is_sorted c.self.inside.battles.by_number.entries c.len.ensures.ordered) c.self.invariant.1.knowing c.args.name.now
    (has_asker c.args.name.now) (as_asker c.args.name.now)
    (λ number battle at there. absurd (let no : None ≡ Some number = c.in_err-number.ensures ∙ at in cc)))

pub returns-else-asks_at-clause-only : goal.returns-else-asks_at-clause-only
returns-else-asks_at-clause-only c =
    rw (← c.self.view_is) (own_nowhere c.self.inside.battles.by_number.entries c.self.inside.online.users.entries
    (ordered_is_sorted c.self.inside.battles.by_number.entries c.len.ensures.ordered) c.self.invariant.1.knowing c.args.name.now
    (has_asker c.args.name.now) (as_asker c.args.name.now)
    (λ number battle at there.
    let same : c.in_ok-number.number ≡ number = same_Some c.in_ok-number.number number (c.in_ok-number.ensures ∙ at) in
    ap (λ o. asks_at o c.args.name.now) (sym (ap (at_number c.self.inside.battles.by_number.entries) same ∙ there)) ∙ sym c.asks_at.ensures ∙ c.if-asks_at.false) _)

pub returns-else-asks_at-clause-none : goal.returns-else-asks_at-clause-none
returns-else-asks_at-clause-none c = λ is.
    rw (← c.self.view_is) (own_none c.self.inside.battles.by_number.entries c.self.inside.online.users.entries
    (ordered_is_sorted c.self.inside.battles.by_number.entries c.len.ensures.ordered) c.self.invariant.1.knowing c.args.name.now
    (has_asker c.args.name.now) (as_asker c.args.name.now)
    (λ number battle at there.
    let same : c.in_ok-number.number ≡ number = same_Some c.in_ok-number.number number (c.in_ok-number.ensures ∙ at) in
    ap (λ o. asks_at o c.args.name.now) (sym (ap (at_number c.self.inside.battles.by_number.entries) same ∙ there)) ∙ sym c.asks_at.ensures ∙ c.if-asks_at.false))

pub returns-then-asks_at-clause-some : goal.returns-then-asks_at-clause-some
returns-then-asks_at-clause-some c =
    let there = asking_there (at_number c.self.inside.battles.by_number.entries c.in_ok-number.number) c.args.name.now (sym c.asks_at.ensures ∙ c.if-asks_at.true) in
    rw (← c.self.view_is) (
      there.0,
      own_found c.self.inside.battles.by_number.entries c.self.inside.online.users.entries
          (ordered_is_sorted c.self.inside.battles.by_number.entries c.len.ensures.ordered) c.self.invariant.1.knowing c.args.name.now
          (has_asker c.args.name.now) (as_asker c.args.name.now)
          c.in_ok-number.number there.0 there.1 there.2,
    )

pub returns-then-asks_at-clause-only : goal.returns-then-asks_at-clause-only
returns-then-asks_at-clause-only c =
    let there = asking_there (at_number c.self.inside.battles.by_number.entries c.in_ok-number.number) c.args.name.now (sym c.asks_at.ensures ∙ c.if-asks_at.true) in
    rw (← c.self.view_is) (own_only c.self.inside.battles.by_number.entries c.self.inside.online.users.entries
    (ordered_is_sorted c.self.inside.battles.by_number.entries c.len.ensures.ordered) c.self.invariant.1.knowing c.args.name.now
    (has_asker c.args.name.now) (as_asker c.args.name.now)
    c.in_ok-number.number there.0 there.1 there.2)

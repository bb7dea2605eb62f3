use Rattle.std.proofs.Common.{◌≡◌, ◌∙◌, ap, refl}
use Rattle.std.specs.Prelude.{Some, None}
use Rattle.std.proofs.lemmas.Option.{same_Some}
use Rattle.line_words.specs.Table.{at_number}
use Rattle.room_lists.specs.Room.{has_member}
use Rattle.lobby_battles.proofs.Base.{alike_at, own_found, own_none, own_only}
use Rattle.lobby_battles.proofs.Knowing.{as_member}
use Rattle.lobby_maps.proofs.Sorted.{ordered_is_sorted}
use Rattle.lobby_maps.proofs.maps.Maps.battle_of.Goals as goal

pub returns-in_err-number-clause-none : goal.returns-in_err-number-clause-none
returns-in_err-number-clause-none c = λ is.
    rw (← c.self.view_is) (own_none c.self.inside.battles.by_number.entries c.self.inside.online.users.entries
    (ordered_is_sorted c.self.inside.battles.by_number.entries c.len.ensures.ordered) c.self.invariant.1.knowing c.args.name.now
    (has_member c.args.name.now) (as_member c.args.name.now)
    (λ number battle at there. absurd (let no : None ≡ Some number = c.in_err-number.ensures ∙ at in cc)))

pub returns-in_err-battle-clause-none : goal.returns-in_err-battle-clause-none
returns-in_err-battle-clause-none c = λ is.
    rw (← c.self.view_is) (own_none c.self.inside.battles.by_number.entries c.self.inside.online.users.entries
    (ordered_is_sorted c.self.inside.battles.by_number.entries c.len.ensures.ordered) c.self.invariant.1.knowing c.args.name.now
    (has_member c.args.name.now) (as_member c.args.name.now)
    (λ number battle at there.
    let same : c.in_ok-number.number ≡ number = same_Some c.in_ok-number.number number (c.in_ok-number.ensures ∙ at) in
    c.in_err-battle.ensures.none refl battle (ap (at_number c.self.inside.battles.by_number.entries) same ∙ there)))

pub returns-clause-some : goal.returns-clause-some
returns-clause-some c =
    rw (← c.self.view_is) (own_found c.self.inside.battles.by_number.entries c.self.inside.online.users.entries
    (ordered_is_sorted c.self.inside.battles.by_number.entries c.len.ensures.ordered) c.self.invariant.1.knowing c.args.name.now
    (has_member c.args.name.now) (as_member c.args.name.now)
    c.in_ok-number.number c.in_ok-battle.battle.now c.in_ok-battle.ensures.some.0 c.in_ok-battle.ensures.some.1)

pub returns-clause-only : goal.returns-clause-only
returns-clause-only c =
    rw (← c.self.view_is) (own_only c.self.inside.battles.by_number.entries c.self.inside.online.users.entries
    (ordered_is_sorted c.self.inside.battles.by_number.entries c.len.ensures.ordered) c.self.invariant.1.knowing c.args.name.now
    (has_member c.args.name.now) (as_member c.args.name.now)
    c.in_ok-number.number c.in_ok-battle.battle.now c.in_ok-battle.ensures.some.0 c.in_ok-battle.ensures.some.1)

pub returns-clause-outside : goal.returns-clause-outside
returns-clause-outside c = c.self.invariant.1.knowing.outside c.in_ok-number.number c.in_ok-battle.battle.now c.in_ok-battle.ensures.some.0

pub returns-clause-there : goal.returns-clause-there
returns-clause-there c = rw (← c.self.view_is) c.in_ok-battle.ensures.some.0

pub returns-clause-alike : goal.returns-clause-alike
returns-clause-alike c =
    rw (← c.self.view_is) (alike_at c.self.inside.battles.by_number.entries
    (ordered_is_sorted c.self.inside.battles.by_number.entries c.len.ensures.ordered) c.in_ok-number.number c.in_ok-battle.battle.now
    c.in_ok-battle.ensures.some.0)

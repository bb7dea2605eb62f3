use Rattle.std.proofs.Common.{◌∙◌, ap, sym}
use Rattle.std.specs.Ordering.{nat_cmp}
use Rattle.std.specs.BTreeMap.{is_at}
use Rattle.slab.specs.Slab.{get}
use Rattle.lobby_post.specs.Cells.{held_by, held_in}
use Rattle.lobby_post.proofs.Cells.{contained, tied_removed, held_removed, ordered_held, remove-read}
use Rattle.lobby_post.proofs.slots.Slots.remove.Goals as goal

pub remove-requires-in-Some : goal.remove-requires-in-Some
remove-requires-in-Some c =
    contained c.self.inside.cells c.self.inside.index.entries c.self.invariant c.args.client c.in-Some.slot (sym c.in-Some.ensures.value)

pub invariant_of-self : goal.invariant_of-self
invariant_of-self c =
    tied_removed c.self.inside.cells c.self.inside.index.entries c.self.invariant c.args.client c.in-Some.slot (sym c.in-Some.ensures.value)
    c.remove-in-Some.new.self c.remove.new.self.entries c.remove-in-Some.ensures.updates c.remove.ensures.ordered c.remove.ensures.updates.0

pub returns-in-Some-clause-entries : goal.returns-in-Some-clause-entries
returns-in-Some-clause-entries c =
    rw (← c.self.view_is)
    (held_removed c.self.inside.cells c.self.inside.index.entries c.self.invariant c.args.client c.in-Some.slot (sym c.in-Some.ensures.value)
    c.remove-in-Some.new.self c.remove.new.self.entries c.remove-in-Some.ensures.updates c.remove.ensures.ordered c.remove.ensures.updates.0
    c.remove.ensures.entries)

pub returns-in-Some-clause-was_ordered : goal.returns-in-Some-clause-was_ordered
returns-in-Some-clause-was_ordered c = rw (← c.self.view_is)
    (ordered_held c.self.inside.cells c.self.inside.index.entries c.self.invariant c.args.client)

pub returns-in_default-clause-entries : goal.returns-in_default-clause-entries
returns-in_default-clause-entries c =
    rw (← c.self.view_is) (ap (held_by c.self.inside.cells) c.remove.ensures.entries
    ∙ remove-read (λ d p. held_in d (get c.self.inside.cells p)) (is_at (nat_cmp c.args.client)) c.self.inside.index.entries)

pub returns-in_default-clause-was_ordered : goal.returns-in_default-clause-was_ordered
returns-in_default-clause-was_ordered c = rw (← c.self.view_is)
    (ordered_held c.self.inside.cells c.self.inside.index.entries c.self.invariant c.args.client)

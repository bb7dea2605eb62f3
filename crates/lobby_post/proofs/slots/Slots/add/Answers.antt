use Rattle.std.proofs.Common.{◌≡◌, ◌∙◌, ap, sym, subst}
use Rattle.std.specs.Prelude.{Some}
use Rattle.std.specs.Map.{lookup}
use Rattle.std.specs.Ordering.{nat_cmp}
use Rattle.std.specs.BTreeMap.{is_at, insert_entry}
use Rattle.slab.specs.Slab.{Slab, Updates}
use Rattle.line_words.specs.Table.{ByNumber}
use Rattle.lobby_post.specs.declared.slots.Cell.{Cell}
use Rattle.lobby_post.specs.Mail.{Mailbox}
use Rattle.lobby_post.specs.Cells.{held_by}
use Rattle.lobby_post.proofs.Cells.{tied_added, held_added, absent, tied_grown}
use Rattle.lobby_post.proofs.slots.Slots.add.Goals as goal

pub invariant_of-self-2 : goal.invariant_of-self-2
invariant_of-self-2 c =
    let cells = c.self.inside.cells in
    let index = c.self.inside.index.entries in
    let key : c.insert_reserved-at.result ≡ c.vacant_key.result = c.insert_reserved-at.ensures.key ∙ sym c.vacant_key.ensures.value in
    let none = absent cells index c.self.invariant c.args.client (ap (λ (es : ByNumber Mailbox). lookup (is_at (nat_cmp c.args.client)) es) c.self.view_is ∙ c.requires) in
    tied_added c.reserve.new.self index (tied_grown cells c.reserve.new.self _ index c.reserve.ensures.rest_kept c.self.invariant)
    c.args.client none c.vacant_key.result c.args.slot c.vacant_key.ensures.vacant c.insert_reserved-at.new.self c.insert.new.self.entries
    (subst (λ k. Updates c.reserve.new.self c.insert_reserved-at.new.self k (Some (record { client = c.args.client; slot = c.args.slot }))) key c.insert_reserved-at.ensures.updates)
    c.insert.ensures.ordered c.in_ok-insert.ensures.updates.0

pub returns-clause-entries : goal.returns-clause-entries
returns-clause-entries c =
    let cells = c.self.inside.cells in
    let index = c.self.inside.index.entries in
    let key : c.insert_reserved-at.result ≡ c.vacant_key.result = c.insert_reserved-at.ensures.key ∙ sym c.vacant_key.ensures.value in
    let none = absent cells index c.self.invariant c.args.client (ap (λ (es : ByNumber Mailbox). lookup (is_at (nat_cmp c.args.client)) es) c.self.view_is ∙ c.requires) in
    held_added c.reserve.new.self index (tied_grown cells c.reserve.new.self _ index c.reserve.ensures.rest_kept c.self.invariant)
    c.args.client none c.vacant_key.result c.args.slot c.vacant_key.ensures.vacant c.insert_reserved-at.new.self c.insert.new.self.entries
    (subst (λ k. Updates c.reserve.new.self c.insert_reserved-at.new.self k (Some (record { client = c.args.client; slot = c.args.slot }))) key c.insert_reserved-at.ensures.updates)
    c.insert.ensures.ordered c.in_ok-insert.ensures.updates.0 c.in_ok-insert.ensures.entries
    ∙ ap (λ (es : ByNumber Mailbox). insert_entry nat_cmp es c.args.client c.args.slot)
    (ap (λ (s : Slab Cell). held_by s index) c.reserve.ensures.rest_kept ∙ c.self.view_is)

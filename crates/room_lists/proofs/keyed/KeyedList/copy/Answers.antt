use Rattle.std.proofs.Common.{◌∙◌, ap, sym, []}
use Rattle.room_lists.specs.Keyed.{items_of, with_items}
use Rattle.room_lists.proofs.Copied.{copied}
use Rattle.room_lists.proofs.Kept.{distinct_kept}
use Rattle.room_lists.proofs.keyed.KeyedList.copy.Goals as goal

pub returns : goal.returns
returns g c =
    let key_of = g.T.Keyed.key_of in
    let whole = g.T.Keyed.whole in
    let entries = c.self.inside.by_key.entries in
    c.in_ok-put.ensures.ok ∙ ap (λ ts. with_items key_of ts c.in_ok-items.items.items) c.new-copy.ensures
    ∙ ap (with_items key_of []) (c.in_ok-items.ensures ∙ c.as_slice.ensures ∙ sym c.self.view_is)
    ∙ copied key_of (items_of whole entries) (distinct_kept key_of whole entries c.self.invariant.0 c.self.invariant.1)
    ∙ c.self.view_is

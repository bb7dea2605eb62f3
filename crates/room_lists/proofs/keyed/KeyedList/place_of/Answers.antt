use Rattle.std.proofs.Common.{◌≡◌, ◌<◌, ◌∙◌, ap, sym, subst, length, cond}
use Rattle.std.specs.Prelude.{ℕ, nat_lt, Some, None, IfSome}
use Rattle.std.proofs.lemmas.List.{length-map}
use Rattle.std.specs.Map.{keys_of}
use Rattle.room_lists.specs.Keyed.{has_key, place_of}
use Rattle.room_lists.proofs.Kept.{has_kept, place_kept}
use Rattle.room_lists.proofs.Placed.{place_in}
use Rattle.room_lists.proofs.keyed.KeyedList.place_of.Goals as goal

pub returns-clause-there : goal.returns-clause-there
returns-clause-there g c =
    c.get_index_of.ensures.found
    ∙ has_kept g.T.Keyed.key_of g.T.Keyed.whole c.args.key.now c.self.inside.by_key.entries c.self.invariant.0
    ∙ ap (has_key g.T.Keyed.key_of c.args.key.now) c.self.view_is

pub returns-clause-place : goal.returns-clause-place
returns-clause-place g c =
    let key_of = g.T.Keyed.key_of in
    let key = c.args.key.now in
    let entries = c.self.inside.by_key.entries in
    let count = length (keys_of entries) in
    let placed = c.get_index_of.ensures.index
    ∙ ap (λ (n : ℕ). cond (nat_lt n count) (Some n) None) (place_kept key_of g.T.Keyed.whole key entries c.self.invariant.0) in
    let inside = subst (λ (n : ℕ). IfSome c.get_index_of.result (λ i. i < n)) (sym (length-map entries (λ e. g.T.Keyed.whole e.0 e.1)))
    c.get_index_of.ensures.within in
    subst (λ items. IfSome c.get_index_of.result (λ place. (place < length items) × (place ≡ place_of key_of key items))) c.self.view_is
    (place_in c.get_index_of.result _ _ _ placed inside)

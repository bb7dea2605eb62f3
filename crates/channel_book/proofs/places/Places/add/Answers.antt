use Rattle.std.proofs.Common.{◌∙◌, ap, subst, refl}
use Rattle.std.specs.Prelude.{IsSome, Some}
use Rattle.std.specs.BTreeSet.{insert_key}
use Rattle.line_words.specs.Table.{name_cmp}
use Rattle.line_words.proofs.Ties.{none_of}
use Rattle.channel_book.specs.Places.{listed, places_of}
use Rattle.channel_book.proofs.Sets.{with_own, written}
use Rattle.channel_book.proofs.places.Places.add.Goals as goal

pub returns-in-Some-clause-ok : goal.returns-in-Some-clause-ok
returns-in-Some-clause-ok c =
    written c.args.user.now c.args.self.now.by_user.entries _ (Some c.insert.new.self)
    _ (((c.get_mut.follows.holds c.insert.new.self).3 (subst IsSome c.in-Some.ensures.value refl)).0)
    (c.in_ok-insert.ensures.keys ∙ (λ i. insert_key name_cmp (listed (c.in-Some.ensures.value i)) (c.copy.ensures i)))

-- the first of a user's
pub returns-clause-ok : goal.returns-clause-ok
returns-clause-ok c =
    let old = places_of c.args.self.now.by_user.entries in
    let none = ap listed (none_of c.get_mut.result c.in_default.not-Some ∙ c.get_mut.ensures.value) in
    let own = insert_key name_cmp (old c.args.user.now) c.args.channel.now in
    written c.copy-3.result c.get_mut.follows.lender-at-none.entries c.insert-3.new.self.entries (Some c.insert-2.new.self)
    own c.in_ok-insert-3.ensures.updates.0
    (c.in_ok-insert-2.ensures.keys ∙ (λ i. insert_key name_cmp ((c.new-names.ensures.empty ∙ none) i) (c.copy-2.ensures i)))
    ∙ (λ i. with_own (c.copy-3.ensures i) own (places_of (c.get_mut.follows.holds-at-none i).entries))

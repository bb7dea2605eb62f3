use Rattle.std.proofs.Common.{◌∙◌, ap, subst, sym, refl}
use Rattle.std.proofs.lemmas.List.{nil_from_length}
use Rattle.std.specs.Prelude.{IsSome, Some, None, [], List, ℕ}
use Rattle.std.specs.BTreeMap.{is_at}
use Rattle.std.specs.Set.{remove_key}
use Rattle.line_words.specs.Table.{name_cmp}
use Rattle.line_words.proofs.Ties.{none_of}
use Rattle.channel_book.specs.Places.{listed, places_of}
use Rattle.channel_book.proofs.Sets.{with_own, written, written_again, none_to_take}
use Rattle.channel_book.proofs.places.Places.remove.Goals as goal

-- the last of a user's goes with its set
pub returns-then-is_empty : goal.returns-then-is_empty
returns-then-is_empty c =
    let places = places_of c.args.self.now.by_user.entries in
    let name = c.args.user.now in
    let own = c.remove.ensures.keys ∙ ap (remove_key (is_at (name_cmp c.args.channel.now))) (ap listed c.in-Some.ensures.value) in
    let last = nil_from_length c.remove.new.self.keys (c.is_empty.ensures.0 c.if-is_empty.true) in
    written name (c.get_mut.follows.lender c.remove.new.self).entries c.swap_remove.new.self.entries None
    [] c.swap_remove.ensures.updates.0 refl
    ∙ ap (with_own name [])
    (written name c.args.self.now.by_user.entries _ (Some c.remove.new.self)
    _ (((c.get_mut.follows.holds c.remove.new.self).3 (subst IsSome c.in-Some.ensures.value refl)).0) refl)
    ∙ written_again name places c.remove.new.self.keys []
    ∙ ap (λ (own : List (List ℕ)). with_own name own places) (sym last ∙ own)

pub returns-else-is_empty : goal.returns-else-is_empty
returns-else-is_empty c =
    written c.args.user.now c.args.self.now.by_user.entries _ (Some c.remove.new.self)
    _ (((c.get_mut.follows.holds c.remove.new.self).3 (subst IsSome c.in-Some.ensures.value refl)).0)
    (c.remove.ensures.keys ∙ ap (remove_key (is_at (name_cmp c.args.channel.now))) (ap listed c.in-Some.ensures.value))

pub returns-in_default : goal.returns-in_default
returns-in_default c =
    ap places_of (λ i. (c.get_mut.follows.holds-at-none i).entries)
    ∙ none_to_take c.args.channel.now c.args.user.now (places_of c.args.self.now.by_user.entries)
    (sym (ap listed (none_of c.get_mut.result c.in_default.not-Some ∙ c.get_mut.ensures.value)))

use Rattle.std.proofs.Common.{◌≡◌, ◌∙◌, ap, sym, subst, rules}
use Rattle.std.specs.BTreeMap.{is_at}
use Rattle.std.specs.Map.{remove_entry}
use Rattle.line_words.specs.Table.{name_cmp}
use Rattle.line_words.proofs.Ties.{none_of}
use Rattle.channel_book.specs.Channels.{left}
use Rattle.channel_book.specs.Book.{AreLively}
use Rattle.channel_book.proofs.Lively.{AreLively-left, left_none, left_stays, left_empty}
use Rattle.channel_book.proofs.lists.Lists.remove.Goals as goal

pub invariant_of-self : goal.invariant_of-self
invariant_of-self g c = subst AreLively (sym (
    c.remove-then-not-remove.ensures.entries
    ∙ ap (remove_entry (is_at (name_cmp c.args.channel.now))) (c.get_mut.follows.holds c.remove.new.self).0
    ∙ left_empty c.self.inside.channels.entries c.args.channel.now c.args.user.now c.self.invariant c.in-Some.members.now c.remove.new.self
    c.get_mut.ensures.ordered c.in-Some.ensures.value c.remove.ensures.names (sym c.remove.ensures.rest ∙ c.if-not-remove.true)))
    (AreLively-left c.self.inside.channels.entries c.args.channel.now c.args.user.now c.self.invariant)

pub invariant_of-self-then-not-remove-2 : goal.invariant_of-self-then-not-remove-2
invariant_of-self-then-not-remove-2 g c = subst AreLively (sym (
    c.remove-then-not-remove.ensures.entries
    ∙ ap (remove_entry (is_at (name_cmp c.args.channel.now))) (c.get_mut.follows.holds c.remove.new.self).0
    ∙ left_empty c.self.inside.channels.entries c.args.channel.now c.args.user.now c.self.invariant c.in-Some.members.now c.remove.new.self
    c.get_mut.ensures.ordered c.in-Some.ensures.value c.remove.ensures.names (sym c.remove.ensures.rest ∙ c.if-not-remove.true)))
    (AreLively-left c.self.inside.channels.entries c.args.channel.now c.args.user.now c.self.invariant)

pub invariant_of-self-then-not-remove-3 : goal.invariant_of-self-then-not-remove-3
invariant_of-self-then-not-remove-3 g c = subst AreLively (sym (
    c.remove-then-not-remove.ensures.entries
    ∙ ap (remove_entry (is_at (name_cmp c.args.channel.now))) (c.get_mut.follows.holds c.remove.new.self).0
    ∙ left_empty c.self.inside.channels.entries c.args.channel.now c.args.user.now c.self.invariant c.in-Some.members.now c.remove.new.self
    c.get_mut.ensures.ordered c.in-Some.ensures.value c.remove.ensures.names (sym c.remove.ensures.rest ∙ c.if-not-remove.true)))
    (AreLively-left c.self.inside.channels.entries c.args.channel.now c.args.user.now c.self.invariant)

pub invariant_of-self-else-not-remove : goal.invariant_of-self-else-not-remove
invariant_of-self-else-not-remove g c = subst AreLively (sym (
    (c.get_mut.follows.holds c.remove.new.self).0
    ∙ left_stays c.self.inside.channels.entries c.args.channel.now c.args.user.now c.self.invariant c.in-Some.members.now c.remove.new.self
    c.get_mut.ensures.ordered c.in-Some.ensures.value c.remove.ensures.names (sym c.remove.ensures.rest ∙ c.if-not-remove.false)))
    (AreLively-left c.self.inside.channels.entries c.args.channel.now c.args.user.now c.self.invariant)

pub returns-then-not-remove-clause-left : goal.returns-then-not-remove-clause-left
returns-then-not-remove-clause-left g c =
    let same : c.match-remove.self ≡ c.remove-then-not-remove.new.self.entries = search rules in
    same ∙ c.remove-then-not-remove.ensures.entries
    ∙ ap (remove_entry (is_at (name_cmp c.args.channel.now))) (c.get_mut.follows.holds c.remove.new.self).0
    ∙ left_empty c.self.inside.channels.entries c.args.channel.now c.args.user.now c.self.invariant c.in-Some.members.now c.remove.new.self
    c.get_mut.ensures.ordered c.in-Some.ensures.value c.remove.ensures.names (sym c.remove.ensures.rest ∙ c.if-not-remove.true)
    ∙ ap (left c.args.channel.now c.args.user.now) c.self.view_is

pub returns-else-not-remove-clause-left : goal.returns-else-not-remove-clause-left
returns-else-not-remove-clause-left g c =
    (c.get_mut.follows.holds c.remove.new.self).0
    ∙ left_stays c.self.inside.channels.entries c.args.channel.now c.args.user.now c.self.invariant c.in-Some.members.now c.remove.new.self
    c.get_mut.ensures.ordered c.in-Some.ensures.value c.remove.ensures.names (sym c.remove.ensures.rest ∙ c.if-not-remove.false)
    ∙ ap (left c.args.channel.now c.args.user.now) c.self.view_is

pub returns-in_default-clause-left : goal.returns-in_default-clause-left
returns-in_default-clause-left g c =
    (λ i. (c.get_mut.follows.holds-at-none i).entries)
    ∙ left_none c.self.inside.channels.entries c.args.channel.now c.args.user.now c.self.invariant (none_of c.get_mut.result c.in_default.not-Some ∙ c.get_mut.ensures.value)
    ∙ ap (left c.args.channel.now c.args.user.now) c.self.view_is

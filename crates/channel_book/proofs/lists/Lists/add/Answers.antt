use Rattle.std.proofs.Common.{◌∙◌, ap, sym, subst}
use Rattle.std.proofs.lemmas.Map.Steps.{set_value_same}
use Rattle.std.proofs.lemmas.Result.{err_from_is_err_and}
use Rattle.std.specs.BTreeMap.{is_at, insert_entry}
use Rattle.std.specs.Map.{set_value}
use Rattle.line_words.specs.Table.{name_cmp, is_among}
use Rattle.line_words.proofs.Ties.{none_of}
use Rattle.channel_book.specs.Channels.{Channels, names_in, joined}
use Rattle.channel_book.specs.Book.{AreLively}
use Rattle.channel_book.proofs.Found.{names_found}
use Rattle.channel_book.proofs.Lively.{AreLively-joined, joined_others, joined_first}
use Rattle.channel_book.proofs.lists.Lists.add.Goals as goal

pub add-requires : goal.add-requires
add-requires g c =
    ap (is_among c.args.user)
    (names_found c.self.inside.channels.entries c.args.channel c.in-Some.members.now c.in-Some.ensures.value
    ∙ ap (λ (channels : Channels). names_in channels c.args.channel) c.self.view_is)
    ∙ c.requires

-- where memory is refused to a channel that is there
pub invariant_of-self : goal.invariant_of-self
invariant_of-self g c = subst AreLively (sym (
    (c.get_mut.follows.holds c.add.new.self).0
    ∙ ap (set_value (is_at (name_cmp c.args.channel)) c.self.inside.channels.entries) c.in_err-add.ensures.err
    ∙ set_value_same (is_at (name_cmp c.args.channel)) c.self.inside.channels.entries c.in-Some.members.now (sym c.in-Some.ensures.value))) c.self.invariant

pub returns-in_err-add-clause-err : goal.returns-in_err-add-clause-err
returns-in_err-add-clause-err g c =
    let p = err_from_is_err_and c.from_residual.result c.from_residual.ensures.1 in rw p.1 (
    (c.get_mut.follows.holds c.add.new.self).0
    ∙ ap (set_value (is_at (name_cmp c.args.channel)) c.self.inside.channels.entries) c.in_err-add.ensures.err
    ∙ set_value_same (is_at (name_cmp c.args.channel)) c.self.inside.channels.entries c.in-Some.members.now (sym c.in-Some.ensures.value)
    ∙ c.self.view_is)

-- behind the others
pub invariant_of-self-in-Some : goal.invariant_of-self-in-Some
invariant_of-self-in-Some g c = subst AreLively (sym (
    (c.get_mut.follows.holds c.add.new.self).0
    ∙ joined_others c.self.inside.channels.entries c.args.channel c.args.user c.in-Some.members.now c.add.new.self
    c.get_mut.ensures.ordered c.in-Some.ensures.value c.in_ok-add.ensures.ok))
    (AreLively-joined c.self.inside.channels.entries c.args.channel c.args.user c.self.invariant)

pub returns-in-Some-clause-ok : goal.returns-in-Some-clause-ok
returns-in-Some-clause-ok g c =
    (c.get_mut.follows.holds c.add.new.self).0
    ∙ joined_others c.self.inside.channels.entries c.args.channel c.args.user c.in-Some.members.now c.add.new.self
    c.get_mut.ensures.ordered c.in-Some.ensures.value c.in_ok-add.ensures.ok
    ∙ ap (joined c.args.channel c.args.user) c.self.view_is

-- as the first
pub invariant_of-self-2 : goal.invariant_of-self-2
invariant_of-self-2 g c = subst AreLively (sym (
    c.in_ok-insert.ensures.entries
    ∙ (λ i. insert_entry name_cmp (c.get_mut.follows.holds-at-none i).entries c.args.channel c.in_ok-members.members)
    ∙ joined_first c.self.inside.channels.entries c.args.channel c.args.user c.in_ok-members.members
    (none_of c.get_mut.result c.in_default.not-Some ∙ c.get_mut.ensures.value) c.in_ok-members.ensures))
    (AreLively-joined c.self.inside.channels.entries c.args.channel c.args.user c.self.invariant)

pub returns-clause-ok : goal.returns-clause-ok
returns-clause-ok g c =
    c.in_ok-insert.ensures.entries
    ∙ (λ i. insert_entry name_cmp (c.get_mut.follows.holds-at-none i).entries c.args.channel c.in_ok-members.members)
    ∙ joined_first c.self.inside.channels.entries c.args.channel c.args.user c.in_ok-members.members
    (none_of c.get_mut.result c.in_default.not-Some ∙ c.get_mut.ensures.value) c.in_ok-members.ensures
    ∙ ap (joined c.args.channel c.args.user) c.self.view_is

use Rattle.std.proofs.Common.{◌∙◌, ap, sym, []}
use Rattle.channel_book.specs.Channels.{all_left}
use Rattle.channel_book.specs.Places.{places_in, without_user}
use Rattle.channel_book.proofs.Placed.{places-all_left, leaves_all}
use Rattle.channel_book.proofs.Sets.{no_names}
use Rattle.channel_book.proofs.book.ChannelBook.leave_all.Goals as goal

-- one who is in many
pub invariant_of-self : goal.invariant_of-self
invariant_of-self g c =
    c.in-Some.ensures.rest
    ∙ ap (without_user c.args.user.now) c.self.invariant
    ∙ sym (places-all_left c.self.inside.lists c.args.user.now c.len-count.ensures.ordered)
    ∙ ap places_in (sym c.remove_from_all.ensures)

pub returns-then-len-count : goal.returns-then-len-count
returns-then-len-count g c = c.remove_from_all.ensures ∙ ap (all_left c.args.user.now) c.self.view_is

-- one who is in few
pub invariant_of-self-else-len-count : goal.invariant_of-self-else-len-count
invariant_of-self-else-len-count g c =
    let own = c.in-Some.ensures.names ∙ (λ i. c.self.invariant i c.args.user.now) in
    c.in-Some.ensures.rest
    ∙ ap (without_user c.args.user.now) c.self.invariant
    ∙ sym (places-all_left c.self.inside.lists c.args.user.now c.len-count.ensures.ordered)
    ∙ ap places_in (sym (c.remove_each.ensures
    ∙ leaves_all c.args.user.now c.self.inside.lists c.len-count.ensures.lively c.len-count.ensures.ordered c.in-Some.channels.keys own))

pub returns-in-Some : goal.returns-in-Some
returns-in-Some g c =
    let own = c.in-Some.ensures.names ∙ (λ i. c.self.invariant i c.args.user.now) in
    c.remove_each.ensures
    ∙ leaves_all c.args.user.now c.self.inside.lists c.len-count.ensures.lively c.len-count.ensures.ordered c.in-Some.channels.keys own
    ∙ ap (all_left c.args.user.now) c.self.view_is

-- one who is in no channel
pub invariant_of-self-in_default : goal.invariant_of-self-in_default
invariant_of-self-in_default g c =
    let own = no_names c.take.result c.in_default.not-Some ∙ c.take.ensures.names ∙ (λ i. c.self.invariant i c.args.user.now) in
    c.take.ensures.rest
    ∙ ap (without_user c.args.user.now) c.self.invariant
    ∙ sym (places-all_left c.self.inside.lists c.args.user.now c.len-count.ensures.ordered)
    ∙ ap places_in (sym (leaves_all c.args.user.now c.self.inside.lists c.len-count.ensures.lively c.len-count.ensures.ordered [] own))

pub returns : goal.returns
returns g c =
    let own = no_names c.take.result c.in_default.not-Some ∙ c.take.ensures.names ∙ (λ i. c.self.invariant i c.args.user.now) in
    leaves_all c.args.user.now c.self.inside.lists c.len-count.ensures.lively c.len-count.ensures.ordered [] own
    ∙ ap (all_left c.args.user.now) c.self.view_is

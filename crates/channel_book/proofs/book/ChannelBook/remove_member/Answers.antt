use Rattle.std.proofs.Common.{◌∙◌, ap, sym}
use Rattle.channel_book.specs.Places.{places_in, without_place}
use Rattle.channel_book.proofs.Placed.{places-left}
use Rattle.channel_book.proofs.book.ChannelBook.remove_member.Goals as goal

pub invariant_of-self : goal.invariant_of-self
invariant_of-self g c =
    c.remove-2.ensures
    ∙ ap (without_place c.args.channel.now c.args.user.now) c.self.invariant
    ∙ sym (places-left c.self.inside.lists c.args.user.now c.remove.ensures.ordered c.args.channel.now)
    ∙ ap places_in (sym c.remove.ensures.left)

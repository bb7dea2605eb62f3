use Rattle.std.proofs.Common.{◌∙◌, ap}
use Rattle.channel_book.specs.Channels.{Channels}
use Rattle.channel_book.specs.Places.{places_in}
use Rattle.channel_book.proofs.book.ChannelBook.channels_of.Goals as goal

pub returns : goal.returns
returns g c = c.get.ensures ∙ (λ i. c.self.invariant i c.args.user.now) ∙ ap (λ (channels : Channels). places_in channels c.args.user.now) c.self.view_is

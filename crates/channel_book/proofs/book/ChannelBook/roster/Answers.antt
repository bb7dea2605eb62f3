use Rattle.std.specs.List.{IsDistinct}
use Rattle.channel_book.proofs.book.ChannelBook.roster.Goals as goal

pub returns-in-None-clause-distinct : goal.returns-in-None-clause-distinct
unfolding IsDistinct
returns-in-None-clause-distinct g c = tt

use Rattle.std.proofs.Common.{◌∙◌, ap}
use Rattle.line_words.specs.Table.{name_cmp}
use Rattle.line_words.proofs.Tables.{lookup_is_find}
use Rattle.channel_book.specs.Channels.{Channels, names_in, names_of}
use Rattle.channel_book.proofs.lists.Lists.get.Goals as goal

pub returns : goal.returns
returns g c =
    ap names_of (c.get.ensures.value ∙ lookup_is_find name_cmp c.args.channel.now c.self.inside.channels.entries)
    ∙ ap (λ (channels : Channels). names_in channels c.args.channel.now) c.self.view_is

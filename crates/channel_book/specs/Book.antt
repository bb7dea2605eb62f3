-- What the book keeps.
use Rattle.std.specs.Prelude.{IsTrue}
use Rattle.std.specs.List.{AllByRecursion}
use Rattle.channel_book.specs.Channels.{Channels, has_names}

-- somebody is in each channel
abbrev pub AreLively : Channels → Type 0
AreLively channels = AllByRecursion (λ e. IsTrue (has_names e.1)) channels

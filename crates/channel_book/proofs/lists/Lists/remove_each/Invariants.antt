use Rattle.std.proofs.Common.{◌≡◌, map}
use Rattle.std.specs.Map.Iter.{deref}
use Rattle.channel_book.specs.Places.{left_each}
use Rattle.channel_book.proofs.lists.Lists.remove_each.Given as goal

abbrev pub invariant-loop-channel : goal.invariant-loop-channel
invariant-loop-channel g l = l.self ≡ left_each l.user (map deref l.yielded) l.initial.self

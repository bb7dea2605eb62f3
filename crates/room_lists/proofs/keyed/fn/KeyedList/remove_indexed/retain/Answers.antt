use Rattle.std.proofs.Common.{◌∙◌, ap, not, refl}
use Rattle.room_lists.proofs.Seen.{was_seen}
use Rattle.room_lists.proofs.keyed.fn.KeyedList.remove_indexed.retain.Goals as goal

pub returns : goal.returns
returns g c = (ap not (c.contains.ensures ∙ was_seen c.args.key c.captures.index.now.keys), refl)

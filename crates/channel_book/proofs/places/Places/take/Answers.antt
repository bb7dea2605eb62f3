use Rattle.std.proofs.Common.{refl}
use Rattle.std.specs.Prelude.{None}
use Rattle.channel_book.proofs.Sets.{written}
use Rattle.channel_book.proofs.places.Places.take.Goals as goal

pub returns-clause-rest : goal.returns-clause-rest
returns-clause-rest c = written c.args.user.now c.args.self.now.by_user.entries c.swap_remove.new.self.entries None _ c.swap_remove.ensures.updates.0 refl

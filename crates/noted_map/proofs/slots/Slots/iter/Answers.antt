use Rattle.std.proofs.iter.runs.Sources.{from_front}
use Rattle.std.proofs.Common.{ap, length, refl}
use Rattle.std.specs.Map.Iter.{TakesFirst, deref_pair}
use Rattle.noted_map.proofs.SlotLaws.{rising_live, small_seen}
use Rattle.noted_map.proofs.slots.Slots.iter.Goals as goal

pub returns-clause-runs : goal.returns-clause-runs
returns-clause-runs g c = from_front (TakesFirst deref_pair) deref_pair (λ s. s) (λ s t h. ap length h.0) (λ s x t h. h)

pub returns-clause-ordered : goal.returns-clause-ordered
returns-clause-ordered g c = rising_live g.K.Ord.cmp g.met.K.Ord.total c.self.inside.places.entries c.args.self.now c.self.view_is c.iter.ensures.ordered

pub returns-clause-fits : goal.returns-clause-fits
returns-clause-fits g c = small_seen g.K.Ord.cmp c.self.inside.places.entries c.args.self.now _ _ c.self.view_is refl c.iter.ensures.fits

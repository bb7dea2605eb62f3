use Rattle.std.proofs.Common.{◌∙◌, ap}
use Rattle.line_words.proofs.Tables.{lookup_is_find}
use Rattle.line_words.proofs.Written.{remove_is_without}
use Rattle.noted_map.specs.Slots.{live}
use Rattle.noted_map.proofs.SlotLaws.{sorted_of, count-without, live-without}
use Rattle.noted_map.proofs.places.remove_at.Goals as goal

pub returns-clause-now : goal.returns-clause-now
returns-clause-now g c = c.remove.ensures.entries ∙ remove_is_without g.K.Ord.cmp g.met.K.Ord.total c.args.key.now c.args.places.now.entries c.len.ensures.ordered

pub returns-clause-count : goal.returns-clause-count
returns-clause-count g c =
    rw (c.remove.ensures.value ∙ lookup_is_find g.K.Ord.cmp c.args.key.now c.args.places.now.entries)
    (count-without g.K.Ord.cmp g.met.K.Ord.total g.met.K.Key.same c.args.places.now.entries c.remove.new.self.entries c.args.key.now (sorted_of g.K.Ord.cmp c.args.places.now.entries c.len.ensures.ordered)
    (ap live (c.remove.ensures.entries ∙ remove_is_without g.K.Ord.cmp g.met.K.Ord.total c.args.key.now c.args.places.now.entries c.len.ensures.ordered) ∙ live-without g.K.Ord.cmp c.args.places.now.entries c.args.key.now))

use Rattle.std.proofs.Common.{◌∙◌}
use Rattle.std.specs.Prelude.{Some}
use Rattle.line_words.proofs.Tables.{lookup_is_find, insert_is_put}
use Rattle.noted_map.proofs.SlotLaws.{sorted_of, count-put, small_live}
use Rattle.noted_map.proofs.places.put_at.Goals as goal

pub returns-clause-was : goal.returns-clause-was
returns-clause-was g c = c.in_ok-insert.ensures.old ∙ lookup_is_find g.K.Ord.cmp c.args.key c.args.places.now.entries

pub returns-clause-ok : goal.returns-clause-ok
returns-clause-ok g c = c.in_ok-insert.ensures.entries ∙ insert_is_put g.K.Ord.cmp c.args.places.now.entries c.args.key (Some c.args.value)

pub returns-clause-count : goal.returns-clause-count
returns-clause-count g c =
    rw (c.in_ok-insert.ensures.entries ∙ insert_is_put g.K.Ord.cmp c.args.places.now.entries c.args.key (Some c.args.value), c.in_ok-insert.ensures.old ∙ lookup_is_find g.K.Ord.cmp c.args.key c.args.places.now.entries)
    (count-put g.K.Ord.cmp g.met.K.Ord.total g.met.K.Key.same c.args.places.now.entries c.args.key c.args.value (sorted_of g.K.Ord.cmp c.args.places.now.entries c.len.ensures.ordered))

pub returns-in_err-insert-clause-small : goal.returns-in_err-insert-clause-small
returns-in_err-insert-clause-small g c = small_live g.K.Ord.cmp c.args.places.now.entries _ _ c.len.ensures.len c.len.ensures.small

pub returns-clause-small : goal.returns-clause-small
returns-clause-small g c = small_live g.K.Ord.cmp c.args.places.now.entries _ _ c.len.ensures.len c.len.ensures.small

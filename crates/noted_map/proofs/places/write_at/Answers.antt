use Rattle.std.proofs.Common.{◌∙◌, ◌+◌, ap, sym, length}
use Rattle.noted_map.specs.Slots.{live}
use Rattle.std.specs.Prelude.{Some}
use Rattle.std.specs.Option.{option_copied_mut}
use Rattle.std.specs.BTreeMap.{is_at}
use Rattle.std.specs.Map.{set_value}
use Rattle.line_words.proofs.Tables.{lookup_is_find}
use Rattle.line_words.proofs.Written.{set_is_change, none_is_change}
use Rattle.noted_map.proofs.SlotLaws.{sorted_of, write_counts, small_live}
use Rattle.noted_map.proofs.places.write_at.Goals as goal

pub returns-in-Some-clause-was : goal.returns-in-Some-clause-was
returns-in-Some-clause-was g c = ap Some c.replace.ensures.value ∙ c.in-Some.ensures.value ∙ lookup_is_find g.K.Ord.cmp c.args.key.now c.args.places.now.entries

pub returns-in-Some-clause-now : goal.returns-in-Some-clause-now
returns-in-Some-clause-now g c =
    (c.get_mut.follows.holds c.replace.new.dest).0 ∙ ap (set_value (is_at (g.K.Ord.cmp c.args.key.now)) c.args.places.now.entries) c.replace.ensures.after
    ∙ set_is_change g.K.Ord.cmp g.met.K.Ord.total (λ _. c.args.held) c.args.key.now c.in-Some.place.now c.args.places.now.entries c.get_mut.ensures.ordered (sym c.in-Some.ensures.value)

pub returns-in-None-clause-was : goal.returns-in-None-clause-was
returns-in-None-clause-was g c = sym (ap option_copied_mut c.in-None.is) ∙ c.get_mut.ensures.value ∙ lookup_is_find g.K.Ord.cmp c.args.key.now c.args.places.now.entries

pub returns-in-None-clause-now : goal.returns-in-None-clause-now
returns-in-None-clause-now g c =
    (λ i. (c.get_mut.follows.holds-at-none i).entries)
    ∙ none_is_change g.K.Ord.cmp g.met.K.Ord.total (λ _. c.args.held) c.args.key.now c.args.places.now.entries (sym c.get_mut.ensures.value ∙ ap option_copied_mut c.in-None.is)

pub returns-in-Some-clause-count : goal.returns-in-Some-clause-count
returns-in-Some-clause-count g c =
    rw (
      (c.get_mut.follows.holds c.replace.new.dest).0 ∙ ap (set_value (is_at (g.K.Ord.cmp c.args.key.now)) c.args.places.now.entries) c.replace.ensures.after
          ∙ set_is_change g.K.Ord.cmp g.met.K.Ord.total (λ _. c.args.held) c.args.key.now c.in-Some.place.now c.args.places.now.entries c.get_mut.ensures.ordered (sym c.in-Some.ensures.value),
      c.replace.ensures.value,
    )
    (write_counts g.K.Ord.cmp g.met.K.Ord.total g.met.K.Key.same c.args.places.now.entries c.args.key.now c.args.held c.in-Some.place.now (sorted_of g.K.Ord.cmp c.args.places.now.entries c.len.ensures.ordered)
    (sym (c.in-Some.ensures.value ∙ lookup_is_find g.K.Ord.cmp c.args.key.now c.args.places.now.entries)))

pub returns-in-Some-clause-small : goal.returns-in-Some-clause-small
returns-in-Some-clause-small g c = small_live g.K.Ord.cmp c.args.places.now.entries _ _ c.len.ensures.len c.len.ensures.small

pub returns-in-None-clause-count : goal.returns-in-None-clause-count
returns-in-None-clause-count g c = ap (λ n. n + 0) (ap (λ es. length (live es)) (λ i. (c.get_mut.follows.holds-at-none i).entries))

pub returns-in-None-clause-small : goal.returns-in-None-clause-small
returns-in-None-clause-small g c = small_live g.K.Ord.cmp c.args.places.now.entries _ _ c.len.ensures.len c.len.ensures.small

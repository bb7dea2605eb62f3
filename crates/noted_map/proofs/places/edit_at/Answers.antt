use Rattle.std.proofs.Common.{◌∙◌, ap, sym}
use Rattle.std.specs.Option.{option_map, option_copied_mut}
use Rattle.std.specs.BTreeMap.{is_at}
use Rattle.std.specs.Map.{set_value}
use Rattle.std.proofs.lemmas.Map.Steps.{set_value_same}
use Rattle.std.proofs.lemmas.Result.{on_ok_weaker, on_err_weaker}
use Rattle.line_words.proofs.Written.{set_is_change, none_is_change}
use Rattle.noted_map.proofs.places.edit_at.Goals as goal

pub returns-in-Some-clause-ok : goal.returns-in-Some-clause-ok
returns-in-Some-clause-ok g c =
    on_ok_weaker c.edit_held.result (λ changed. (c.get_mut.follows.holds c.edit_held.new.place).0 ∙ ap (set_value (is_at (g.K.Ord.cmp c.args.key.now)) c.args.places.now.entries) changed
    ∙ set_is_change g.K.Ord.cmp g.met.K.Ord.total (option_map (g.E.Edit.after c.args.edit)) c.args.key.now c.in-Some.place.now c.args.places.now.entries c.get_mut.ensures.ordered (sym c.in-Some.ensures.value)) c.edit_held.ensures.ok

pub returns-in-Some-clause-err : goal.returns-in-Some-clause-err
returns-in-Some-clause-err g c =
    on_err_weaker c.edit_held.result (λ stays. (c.get_mut.follows.holds c.edit_held.new.place).0 ∙ ap (set_value (is_at (g.K.Ord.cmp c.args.key.now)) c.args.places.now.entries) stays
    ∙ set_value_same (is_at (g.K.Ord.cmp c.args.key.now)) c.args.places.now.entries c.in-Some.place.now (sym c.in-Some.ensures.value)) c.edit_held.ensures.err

pub returns-in-None-clause-ok : goal.returns-in-None-clause-ok
returns-in-None-clause-ok g c =
    (λ i. (c.get_mut.follows.holds-at-none i).entries)
    ∙ none_is_change g.K.Ord.cmp g.met.K.Ord.total (option_map (g.E.Edit.after c.args.edit)) c.args.key.now c.args.places.now.entries (sym c.get_mut.ensures.value ∙ ap option_copied_mut c.in-None.is)

use Rattle.std.proofs.Common.{◌∙◌, ap, sym}
use Rattle.std.specs.Option.{option_map, option_copied_mut}
use Rattle.std.specs.BTreeMap.{is_at}
use Rattle.std.specs.Map.{set_value}
use Rattle.line_words.proofs.Written.{set_is_change, none_is_change}
use Rattle.noted_map.proofs.places.undo_at.Goals as goal

pub returns-in-Some : goal.returns-in-Some
returns-in-Some g c =
    (c.get_mut.follows.holds c.undo_held.new.place).0 ∙ ap (set_value (is_at (g.K.Ord.cmp c.args.key.now)) c.args.places.now.entries) c.undo_held.ensures
    ∙ set_is_change g.K.Ord.cmp g.met.K.Ord.total (option_map (g.U.Undo.back c.args.undo)) c.args.key.now c.in-Some.place.now c.args.places.now.entries c.get_mut.ensures.ordered (sym c.in-Some.ensures.value)

pub returns-in-None : goal.returns-in-None
returns-in-None g c =
    (λ i. (c.get_mut.follows.holds-at-none i).entries)
    ∙ none_is_change g.K.Ord.cmp g.met.K.Ord.total (option_map (g.U.Undo.back c.args.undo)) c.args.key.now c.args.places.now.entries (sym c.get_mut.ensures.value ∙ ap option_copied_mut c.in-None.is)

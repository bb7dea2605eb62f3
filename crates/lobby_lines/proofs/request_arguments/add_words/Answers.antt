use Rattle.std.proofs.Common.{◌∙◌, ◌++◌, ◌∷◌, Ok, ap, pos, subst, sym, drop, ◌+◌, get_or, rules}
use Rattle.std.proofs.lemmas.List.{drop_more}
use Rattle.lobby_lines.specs.declared.fields.FieldRow.{FieldRow}
use Rattle.lobby_lines.specs.Requests.{◌>>=◌}
use Rattle.lobby_lines.specs.Writing.{Blames, words_put}
use Rattle.lobby_lines.proofs.RequestGoing.{Going, blame, starts, stops_at, goes, words_next}
use Rattle.lobby_lines.proofs.request_arguments.add_words.Goals as goal

-- what stands behind the last field
abbrev none : FieldRow
none = record { text = record { start = 0; length = 0 }; number = pos 0; holds = 0; unused = 0 }

pub loop-field-init : goal.loop-field-init
loop-field-init c = starts _ _

pub loop-field-preserved : goal.loop-field-preserved
loop-field-preserved c =
    let fs = drop (c.loop-field.field-index + 1) c.args.fields.now in
    let g = subst (λ fs. Going (words_put c.args.text.now c.args.fields.now) (words_put c.args.text.now fs) c.args.line.now.items c.loop-field.line.items)
    (drop_more c.args.fields.now c.loop-field.field-index none c.loop-field-test.true) c.loop-field.invariant in
    goes _ _ _ _ _ _ _ g (words_next c.args.text.now (get_or c.args.fields.now c.loop-field.field-index none) fs
    ∙ ap (λ r. r >>= λ w. words_put c.args.text.now fs >>= λ t. Ok ((32 ∷ w) ++ t)) (sym c.in_ok-word_of.ensures)) c.in_ok-put_behind.ensures.ok

pub returns-in_err-word_of-clause-blamed : goal.returns-in_err-word_of-clause-blamed
returns-in_err-word_of-clause-blamed c =
    let all = words_put c.args.text.now c.args.fields.now in
    let g = subst (λ fs. Going all (words_put c.args.text.now fs) c.args.line.now.items c.loop-field.line.items)
    (drop_more c.args.fields.now c.loop-field.field-index none c.loop-field-test.true) c.loop-field.invariant in
    let begun = subst (λ r. Going all r c.args.line.now.items c.loop-field.line.items) (words_next c.args.text.now (get_or c.args.fields.now c.loop-field.field-index none) (drop (c.loop-field.field-index + 1) c.args.fields.now)) g in
    let blamed : Blames c.in_err-word_of.field-0.0 all = stops_at _ all _ _ _ _ begun (blame _ _ (sym c.in_err-word_of.ensures)) in
    search (rules, blamed)

use Rattle.std.proofs.Common.{map, drop, subst, sym, ◌+◌, ◌∙◌, false, rules}
use Rattle.lobby_lines.specs.Requests.{kind_of}
use Rattle.lobby_lines.specs.Writing.{Blames, parts}
use Rattle.lobby_lines.proofs.RequestGoing.{Going, starts, stops_at, parts_next, parts_skipped, next_kind}
use Rattle.lobby_lines.proofs.request_arguments.put_arguments.Goals as goal

pub loop-kind-preserved : goal.loop-kind-preserved
loop-kind-preserved c =
    let all = parts false 32 c.args.text.now (map kind_of c.args.kinds.now) c.args.fields.now in
    let g = next_kind all c.loop-kind.is_missing c.loop-kind.separator c.args.text.now c.args.kinds.now c.loop-kind.kind-index _ c.loop-kind.rest.now
    c.args.line.now.items c.loop-kind.line.items c.loop-kind-test.true c.loop-kind.invariant in
    let ks = map kind_of (drop (c.loop-kind.kind-index + 1) c.args.kinds.now) in
    subst (λ m. Going all (parts c.in_ok-is_missing.is_missing m c.args.text.now ks c.in_ok-behind.behind.now) c.args.line.now.items c.put_argument.new.line.items)
    (sym c.separator_behind-separator.ensures)
    (parts_next all c.loop-kind.is_missing c.in_ok-behind.is_absent c.in_ok-is_missing.is_missing c.loop-kind.separator c.args.text.now _ ks
    c.loop-kind.rest.now c.in_ok-behind.behind.now c.args.line.now.items c.loop-kind.line.items c.put_argument.new.line.items g c.in_ok-behind.ensures.put
    (sym c.none_skipped.ensures ∙ c.in_ok-is_missing.was))

pub loop-kind-init : goal.loop-kind-init
loop-kind-init c = starts _ _

pub returns-in_err-behind-clause-blamed : goal.returns-in_err-behind-clause-blamed
returns-in_err-behind-clause-blamed c =
    let all = parts false 32 c.args.text.now (map kind_of c.args.kinds.now) c.args.fields.now in
    let g = next_kind all c.loop-kind.is_missing c.loop-kind.separator c.args.text.now c.args.kinds.now c.loop-kind.kind-index _ c.loop-kind.rest.now
    c.args.line.now.items c.loop-kind.line.items c.loop-kind-test.true c.loop-kind.invariant in
    let blamed : Blames c.in_err-behind.field-0.0 all = stops_at _ all _ _ _ _ g c.in_err-behind.ensures.blamed in
    search (rules, blamed)

pub returns-in_err-is_missing-clause-blamed : goal.returns-in_err-is_missing-clause-blamed
returns-in_err-is_missing-clause-blamed c =
    let all = parts false 32 c.args.text.now (map kind_of c.args.kinds.now) c.args.fields.now in
    let g = next_kind all c.loop-kind.is_missing c.loop-kind.separator c.args.text.now c.args.kinds.now c.loop-kind.kind-index _ c.loop-kind.rest.now
    c.args.line.now.items c.loop-kind.line.items c.loop-kind-test.true c.loop-kind.invariant in
    let blamed : Blames c.in_err-is_missing.field-0.0 all =
    parts_skipped all c.loop-kind.is_missing c.in_ok-behind.is_absent false c.loop-kind.separator c.args.text.now _ _
    c.loop-kind.rest.now c.in_ok-behind.behind.now c.args.line.now.items c.loop-kind.line.items c.put_argument.new.line.items
    c.in_err-is_missing.field-0.0 g c.in_ok-behind.ensures.put (sym c.none_skipped.ensures ∙ c.in_err-is_missing.was) in
    search (rules, blamed)

use Rattle.std.proofs.Common.{arith, rules, sym, ◌∙◌}
use Rattle.lobby_lines.proofs.Values.{wrote, is_line, is_too_long, is_blamed}
use Rattle.lobby_lines.proofs.printing.print_request.Goals as goal

pub returns-in_err-put_arguments-clause-refused : goal.returns-in_err-put_arguments-clause-refused
returns-in_err-put_arguments-clause-refused c =
    let blamed = is_blamed c.in_err-put_arguments.field-0.0 c.args.head.now c.args.fields.now c.args.text.now c.in-Some.row.now c.in_ok-id.id
    c.in-Some.ensures.some (sym c.id_of.ensures ∙ c.in_ok-id.was) c.in_err-put_arguments.ensures.blamed in
    let from = c.from_residual-in_err-put_arguments.ensures in
    search rules

pub returns-then-len-gt-LINE_LIMIT-clause-refused : goal.returns-then-len-gt-LINE_LIMIT-clause-refused
returns-then-len-gt-LINE_LIMIT-clause-refused c =
    let w = wrote c.args.head.now c.args.fields.now c.args.text.now c.in-Some.row.now c.in_ok-id.id c.new-line.result.items c.put_id.new.out.items
    c.extend_from_slice.new.self.items c.put_arguments.new.line.items c.in-Some.ensures.some (sym c.id_of.ensures ∙ c.in_ok-id.was) c.new-line.ensures.items
    c.in_ok-put_id.ensures.ok c.in_ok-extend_from_slice.ensures.items c.in_ok-put_arguments.ensures.put in
    is_too_long c.args.head.now c.args.fields.now c.args.text.now c.put_arguments.new.line.items w
    (let n = c.len.ensures in let more = c.if-len-gt-LINE_LIMIT.true in omega arith)

pub returns-clause-printed : goal.returns-clause-printed
returns-clause-printed c =
    let w = wrote c.args.head.now c.args.fields.now c.args.text.now c.in-Some.row.now c.in_ok-id.id c.new-line.result.items c.put_id.new.out.items
    c.extend_from_slice.new.self.items c.put_arguments.new.line.items c.in-Some.ensures.some (sym c.id_of.ensures ∙ c.in_ok-id.was) c.new-line.ensures.items
    c.in_ok-put_id.ensures.ok c.in_ok-extend_from_slice.ensures.items c.in_ok-put_arguments.ensures.put in
    is_line c.args.head.now c.args.fields.now c.args.text.now c.put_arguments.new.line.items c.put_end.new.out.items w
    (let n = c.len.ensures in let most = c.if-len-gt-LINE_LIMIT.false in omega arith) c.in_ok-put_end.ensures.ok

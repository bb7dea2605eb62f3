use Rattle.std.proofs.Common.{◌≡◌, ◌∙◌, sym, vec_capacity}
use Rattle.record_lines.specs.declared.fault.RecordFault.TheVariants as refused
use Rattle.record_lines.specs.Entries.{fault_for}
use Rattle.record_lines.proofs.Entered.{printed_text_of, printed_wants, read_refused, unread_text_of, unread_wants}
use Rattle.record_lines.proofs.said.put_request.Goals as goal

pub returns-in-Unread-clause-text : goal.returns-in-Unread-clause-text
returns-in-Unread-clause-text c =
    unread_text_of c.args.request.now c.in-Unread.fault c.args.text.now.items _ c.in-Unread.is c.requires
    c.in_ok-put_unread.ensures.ok

pub returns-in-Ok-clause-text : goal.returns-in-Ok-clause-text
returns-in-Ok-clause-text c =
    printed_text_of c.args.request.now c.args.text.now.items _ c.requires c.in-Ok.ensures.printed

pub returns-in-Err-clause-refused : goal.returns-in-Err-clause-refused
returns-in-Err-clause-refused c = rw c.fault_of.ensures (read_refused c.in-Err.error c.args.request.now
    (λ unread. c.in_default.not-Unread unread.0 unread.1) c.in-Err.ensures.refused)

pub returns-in_err-put_unread-clause-wanted : goal.returns-in_err-put_unread-clause-wanted
returns-in_err-put_unread-clause-wanted c = λ _.
    unread_wants c.args.request.now c.in-Unread.fault c.args.text.now.items (vec_capacity c.args.text.now) c.in-Unread.is c.requires
    c.in_err-put_unread.ensures.wanted

pub returns-in-Err-clause-wanted : goal.returns-in-Err-clause-wanted
returns-in-Err-clause-wanted c = λ e.
    let is : c.fault_of.result ≡ refused.Memory = cc in
    let same : fault_for c.in-Err.error ≡ refused.Memory = sym c.fault_of.ensures ∙ is in
    printed_wants c.in-Err.error c.args.request.now c.args.text.now c.requires same c.in-Err.ensures.wanted

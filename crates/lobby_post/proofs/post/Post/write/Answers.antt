use Rattle.std.proofs.Common.{◌≡◌, ◌∙◌, ◌++◌, ap, length, rules, arith, append_assoc, length-append}
use Rattle.std.specs.Prelude.{None}
use Rattle.reply_kinds.specs.Replies.{id_text, printed_line}
use Rattle.lobby_post.specs.Posted.{Posted, telling}
use Rattle.lobby_post.proofs.Lines.{parts_more, written}
use Rattle.lobby_post.proofs.post.Post.write.Goals as goal

pub returns : goal.returns
returns c =
    let begins : c.len-own.result ≡ length c.self.inside.text.items = search rules in
    let line : c.len-shared.result ≡ length c.print_id.new.out.items = search rules in
    written _ _ c.self.inside.text.items c.print_id.new.out.items c.print.new.out.items _
    c.args.line _ _ c.in_ok-print_id.ensures.items c.in_ok-print.ensures.items begins line c.self.invariant.0
    ∙ ap (λ (p : Posted). telling p (printed_line p.id c.args.line) (printed_line None c.args.line) (length (printed_line p.id c.args.line))) c.self.view_is

pub invariant_of-self-in_err-print : goal.invariant_of-self-in_err-print
invariant_of-self-in_err-print c =
    let i = c.self.inside in
    let first = c.self.invariant.1 in
    let within = c.self.invariant.2 in
    let same : c.print.new.out.items ≡ c.print_id.new.out.items = c.in_err-print.ensures.items in
    let grown : c.print.new.out.items ≡ i.text.items ++ id_text i.id = same ∙ c.in_ok-print_id.ensures.items in
    let long = ap length grown ∙ length-append i.text.items _ in
    let parts = parts_more i.text.items _ _ i.pieces.items i.shares.items grown c.self.invariant.0 c.self.invariant.3 in
    (parts.0, omega (arith, first, long), omega (arith, within, long), parts.1, rw c.forget_line.ensures tt)

pub invariant_of-self-2 : goal.invariant_of-self-2
invariant_of-self-2 c =
    let i = c.self.inside in
    let line = printed_line None c.args.line in
    let grown : c.print.new.out.items ≡ i.text.items ++ (id_text i.id ++ line) = c.in_ok-print.ensures.items
    ∙ ap (λ t. t ++ line) c.in_ok-print_id.ensures.items ∙ append_assoc i.text.items _ _ in
    let begins : c.len-own.result ≡ length i.text.items = search rules in
    let starts : c.len-shared.result ≡ length c.print_id.new.out.items = search rules in
    let long = ap length grown ∙ length-append i.text.items _ in
    let first = ap length c.in_ok-print.ensures.items ∙ length-append c.print_id.new.out.items line in
    let parts = parts_more i.text.items _ _ i.pieces.items i.shares.items grown c.self.invariant.0 c.self.invariant.3 in
    (parts.0, omega (arith, begins, long), omega (arith, starts, first), parts.1, rw c.forget_line.ensures tt)

use Rattle.std.proofs.Common.{◌≡◌, ◌∙◌, ap, length, rules, [], arith, length-append}
use Rattle.std.specs.Prelude.{None}
use Rattle.reply_kinds.specs.Replies.{printed_line}
use Rattle.lobby_post.specs.Posted.{Posted, telling}
use Rattle.lobby_post.proofs.Lines.{parts_more, written_for_others}
use Rattle.lobby_post.proofs.post.Post.write_for_others.Goals as goal

pub returns : goal.returns
returns c =
    let line : c.len-shared.result ≡ length c.self.inside.text.items = search rules in
    let ends : c.len-self-inside.result ≡ length c.print.new.out.items = search rules in
    written_for_others _ _ c.self.inside.text.items c.print.new.out.items _
    c.args.line _ _ c.in_ok-print.ensures.items line ends c.self.invariant.0
    ∙ ap (λ (p : Posted). telling p [] (printed_line None c.args.line) (length (printed_line None c.args.line))) c.self.view_is

pub invariant_of-self-2 : goal.invariant_of-self-2
invariant_of-self-2 c =
    let i = c.self.inside in
    let begins : c.len-shared.result ≡ length i.text.items = search rules in
    let ends : c.len-self-inside.result ≡ length c.print.new.out.items = search rules in
    let long = ap length c.in_ok-print.ensures.items ∙ length-append i.text.items _ in
    let parts = parts_more i.text.items _ _ i.pieces.items i.shares.items c.in_ok-print.ensures.items c.self.invariant.0 c.self.invariant.3 in
    (parts.0, omega (arith, ends), omega (arith, begins, long), parts.1, rw c.forget_line.ensures tt)

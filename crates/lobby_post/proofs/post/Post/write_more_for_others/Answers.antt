use Rattle.std.proofs.Common.{◌≡◌, ◌∙◌, ◌++◌, [], ◌∷◌, length, ap, sym, append-nil, rules, arith, length-append}
use Rattle.lobby_post.specs.Posted.{Posted, with_others}
use Rattle.lobby_post.proofs.Lines.{parts_more, written_more_for_others}
use Rattle.lobby_post.proofs.post.Post.write_more_for_others.Goals as goal

pub returns : goal.returns
returns c =
    let ends : c.len-self-inside.result ≡ length c.print.new.out.items = search rules in
    written_more_for_others _ _ c.self.inside.text.items _ c.print.new.out.items _ _ _
    (c.in_ok-print.ensures.items ∙ ap (λ line. c.self.inside.text.items ++ line) (sym (append-nil _))) c.self.invariant.0 c.self.invariant.2 ends
    ∙ ap (λ (p : Posted). with_others p (c.args.line ∷ [])) c.self.view_is

pub invariant_of-self-2 : goal.invariant_of-self-2
invariant_of-self-2 c =
    let i = c.self.inside in
    let within = c.self.invariant.2 in
    let ends : c.len-self-inside.result ≡ length c.print.new.out.items = search rules in
    let long = ap length c.in_ok-print.ensures.items ∙ length-append i.text.items _ in
    let parts = parts_more i.text.items _ _ i.pieces.items i.shares.items c.in_ok-print.ensures.items c.self.invariant.0 c.self.invariant.3 in
    (parts.0, omega (arith, ends), omega (arith, within, long), parts.1, rw c.forget_line.ensures tt)

use Rattle.std.proofs.Common.{◌∙◌, ap, sym, subst}
use Rattle.lobby_post.specs.Mail.{AreDue}
use Rattle.lobby_post.specs.Pieces.{pieces_of}
use Rattle.lobby_post.specs.Posted.{Posted}
use Rattle.lobby_post.proofs.post.Post.cancel.Goals as goal

pub cancel-requires-clause-due : goal.cancel-requires-clause-due
cancel-requires-clause-due c =
    subst (λ ps. AreDue ps c.args.slots.now)
    (sym ((λ i. pieces_of (c.deref.ensures.value i) (c.deref-2.ensures.value i)) ∙ ap (λ (p : Posted). p.sent) c.self.view_is)) c.requires.due

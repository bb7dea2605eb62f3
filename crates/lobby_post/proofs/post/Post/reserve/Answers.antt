use Rattle.std.proofs.Common.{◌∙◌, ap, subst, OnErr, OnOk}
use Rattle.lobby_post.specs.Mail.{AreDue, WantsMemory}
use Rattle.lobby_post.specs.Pieces.{pieces_of}
use Rattle.lobby_post.specs.Posted.{Posted}
use Rattle.lobby_post.proofs.post.Post.reserve.Goals as goal

pub returns-clause-due : goal.returns-clause-due
returns-clause-due c =
    subst (λ ps. OnOk c.reserve.result (AreDue ps c.reserve.new.clients))
    ((λ i. pieces_of (c.deref.ensures.value i) (c.deref-2.ensures.value i)) ∙ ap (λ (p : Posted). p.sent) c.self.view_is) c.reserve.ensures.due

pub returns-clause-wanted : goal.returns-clause-wanted
returns-clause-wanted c =
    subst (λ ps. OnErr c.reserve.result (WantsMemory ps c.args.slots.now))
    ((λ i. pieces_of (c.deref.ensures.value i) (c.deref-2.ensures.value i)) ∙ ap (λ (p : Posted). p.sent) c.self.view_is) c.reserve.ensures.wanted

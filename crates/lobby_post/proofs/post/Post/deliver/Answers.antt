use Rattle.std.proofs.Common.{◌≡◌, ◌∙◌, ◌+◌, ◌/◌, List, ℕ, ap, length, rules, sym, subst}
use Rattle.lobby_post.specs.Mail.{AreDue, bytes_for, deliver, plain, wakes_home}
use Rattle.lobby_post.specs.Pieces.{pieces_of}
use Rattle.lobby_post.specs.Posted.{Posted}
use Rattle.line_words.specs.Table.{ByNumber}
use Rattle.std.specs.Map.{keys_of}
use Rattle.lobby_post.specs.Amounts.{bytes_in_all, counted_on}
use Rattle.lobby_post.specs.Dirty.{IsNewly, line_of}
use Rattle.lobby_post.proofs.post.Post.deliver.Goals as goal

pub deliver-wakes-requires-clause-due : goal.deliver-wakes-requires-clause-due
deliver-wakes-requires-clause-due c =
    subst (λ ps. AreDue ps c.args.slots.now)
    (sym ((λ i. pieces_of (c.deref.ensures.value i) (c.deref-2.ensures.value i)) ∙ ap (λ (p : Posted). p.sent) c.self.view_is)) c.requires.due

pub returns-clause-clients : goal.returns-clause-clients
returns-clause-clients c = λ limit all.
    c.deliver-wakes.ensures.clients limit all
    ∙ ap (λ ps. deliver limit ps (plain c.args.slots.now))
    ((λ i. pieces_of (c.deref.ensures.value i) (c.deref-2.ensures.value i)) ∙ ap (λ (p : Posted). p.sent) c.self.view_is)

pub returns-clause-wakes : goal.returns-clause-wakes
returns-clause-wakes c = λ limit home.
    c.deliver-wakes.ensures.wakes limit home
    ∙ ap (λ ps. wakes_home limit ps (plain c.args.slots.now) home)
    ((λ i. pieces_of (c.deref.ensures.value i) (c.deref-2.ensures.value i)) ∙ ap (λ (p : Posted). p.sent) c.self.view_is)

pub returns-clause-newly : goal.returns-clause-newly
returns-clause-newly c = λ n home known small.
    subst (λ ps. IsNewly ps c.args.slots.now home (line_of c.args.dirty.now home).waiting (line_of c.deliver-wakes.new.dirty home).waiting)
    ((λ i. pieces_of (c.deref.ensures.value i) (c.deref-2.ensures.value i)) ∙ ap (λ (p : Posted). p.sent) c.self.view_is)
    (c.deliver-wakes.ensures.newly n home known small)

pub returns-clause-told : goal.returns-clause-told
returns-clause-told c =
    c.deliver-wakes.ensures.told
    ∙ ap (λ ps. counted_on c.args.told.now (bytes_in_all (bytes_for ps) (keys_of c.args.slots.now)))
    ((λ i. pieces_of (c.deref.ensures.value i) (c.deref-2.ensures.value i)) ∙ ap (λ (p : Posted). p.sent) c.self.view_is)

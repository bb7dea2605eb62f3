use Rattle.std.proofs.Common.{length, ap, sym, ◌∙◌, arith}
use Rattle.byte_queue.specs.Waiting.{Waiting}
use Rattle.outbox.specs.Queue.{Queue}
use Rattle.outbox.specs.Shares.{Pending}
use Rattle.outbox.proofs.Woven.{none_own, none_shared}
use Rattle.outbox.proofs.Outbox.hand_over.Goals as goal

pub invariant_of-self : goal.invariant_of-self
invariant_of-self c =
    let none = none_own c.self.invariant (omega (arith, ap (λ (q : Queue). length q.unread) c.self.view_is)) in
    let none_left = none_shared c.self.invariant (omega (arith, ap (λ (q : Queue). length q.unread) c.self.view_is)) in
    rw (ap (λ (w : Waiting). w.bytes) c.take_buffer.ensures.left ∙ sym none) (rw (ap (λ (p : Pending). p.items) c.give_up.ensures ∙ sym none_left) c.self.invariant)

use Rattle.std.proofs.Common.{◌∷◌, ◌++◌, codes, subst, sym}
use Rattle.std.specs.Prelude.{◌↔◌, IsTrue}
use Rattle.record_play.specs.Leaving.{IsSent}
use Rattle.record_play.proofs.Left.{sent_if}
use Rattle.record_play.proofs.order.is_sent.Goals as goal

pub returns-in-Some : goal.returns-in-Some
returns-in-Some c =
    subst (λ b. IsTrue b ↔ IsSent c.args.line.now) (sym c.is_some.ensures)
    (sent_if c.args.line.now c.in-Some.step.now c.in-Some.field-0-0 c.sender.result c.in-Some.ensures.sound c.sender.ensures.some c.sender.ensures.none
    (λ n s has. (c.in-Some.ensures.complete n s has).1))

pub returns-in-None : goal.returns-in-None
returns-in-None c = (
  (λ told. absurd cc),
  λ sent. absurd (c.in-None.ensures.complete sent.0 (codes "send " ++ (sent.1 ++ 32 ∷ sent.2)) sent.3),
)

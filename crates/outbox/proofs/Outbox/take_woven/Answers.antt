use Rattle.std.proofs.Common.{◌≡◌, ℕ, ◌-◌, ◌++◌, take, drop, length, ap, ◌∙◌, refl, arith, length-drop}
use Rattle.std.proofs.lemmas.List.{drop-drop}
use borrow.Rule.Slice.PartMut.{mid_of}
use Rattle.outbox.specs.Queue.{Queue}
use Rattle.outbox.proofs.Woven.{same_queue, moved_more}
use Rattle.outbox.proofs.Outbox.take_woven.Goals as goal

pub loop-done-preserved : goal.loop-done-preserved
loop-done-preserved c =
    let h = c.loop-done.invariant in
    let e = c.take_run-done.ensures in
    let d = c.loop-done.done in
    let n = c.take_run-done.result in
    let all = c.args.self.now.unread in
    let waits : c.loop-done.self.unread ≡ drop d all = ap (λ (q : Queue). q.unread) h.left in
    let long : length c.loop-done.self.unread ≡ length all - d = ap length waits ∙ length-drop d all in
    record {
      within = omega (arith, e.within.0, e.within.1, long, c.min-wanted.ensures, c.unread.ensures.count, c.loop-done.auto.into, h.within, length-drop {A = ℕ});
      given = moved_more d n all c.args.into.now c.loop-done.into c.take_run-done.new.into h.given (e.given ∙ ap (λ l. take n l ++ drop n (mid_of d (length c.loop-done.into - d) c.loop-done.into)) waits)
          (omega (arith, h.within, c.min-wanted.ensures, c.unread.ensures.count)) (omega (arith, h.within, c.min-wanted.ensures)) c.loop-done.auto.into;
      left = same_queue _ _
          (ap (λ (q : Queue). q.limit) e.left ∙ ap (λ (q : Queue). q.limit) h.left)
          (ap (λ (q : Queue). q.unread) e.left ∙ ap (drop n) waits ∙ drop-drop n d all)
          (ap (λ (q : Queue). q.cut) e.left ∙ ap (λ (q : Queue). q.cut) h.left)
          refl
          refl;
      spare_kept = omega (arith, h.spare_kept, e.spare_kept);
      pieces_kept = omega (arith, h.pieces_kept, e.pieces_kept);
    }

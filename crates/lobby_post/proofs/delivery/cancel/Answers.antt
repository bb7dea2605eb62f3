use Rattle.std.proofs.Common.{◌∙◌, sym, refl, subst}
use Rattle.line_words.proofs.Ties.{none_of}
use Rattle.lobby_post.proofs.Crowds.{written_through}
use Rattle.lobby_post.proofs.Rounds.{AreLeft, all_forgotten, all_left, forgets, forgets_past, inside_next, pieces_is, limits_next, plain_same, none_left}
use Rattle.lobby_post.proofs.Listed.{listings_same}
use Rattle.lobby_post.proofs.delivery.cancel.Goals as goal
use Rattle.lobby_post.proofs.delivery.cancel.Goals.{in-Some, in_default}

pub loop-piece-preserved : goal.loop-piece-preserved
loop-piece-preserved c =
    let inv = c.loop-piece.invariant in
    let first = subst (λ ps. AreLeft ps c.loop-piece.clients)
    (pieces_is c.args.text.now c.args.pieces.now c.loop-piece.piece-index c.loop-piece-test.true) inv.due in
    elim c.match-get_mut_at.branch [
      | in-Some w ↦
          let written = written_through _ w.in-Some.slot.now w.cancel.new.self c.loop-piece.clients w.in-Some.ensures.value in
          rw w.clients-is (record {
            inside = inside_next c.args.text.now c.args.pieces.now c.loop-piece.piece-index c.loop-piece-test.true inv.inside;
            due = forgets _ _ _ w.in-Some.slot.now w.cancel.new.self c.loop-piece.clients _ written w.in-Some.ensures.value w.cancel.ensures.due first;
            limits = λ limit all. limits_next limit _ w.in-Some.slot.now w.cancel.new.self c.loop-piece.clients _ written w.in-Some.ensures.value w.cancel.ensures.limit (inv.limits limit all);
            clients = plain_same _ w.in-Some.slot.now w.cancel.new.self c.loop-piece.clients _ refl w.in-Some.ensures.value w.cancel.ensures.client ∙ inv.clients;
            listings = listings_same _ w.in-Some.slot.now w.cancel.new.self c.loop-piece.clients _ refl w.in-Some.ensures.value w.cancel.ensures.client w.cancel.ensures.listed ∙ inv.listings;
          })
      | in_default w ↦
          let none = sym (none_of c.get_mut_at.result w.in_default.not-Some ∙ c.get_mut_at.ensures.value) in
          rw w.clients-is (record {
            inside = inside_next c.args.text.now c.args.pieces.now c.loop-piece.piece-index c.loop-piece-test.true inv.inside;
            due = forgets_past _ _ _ c.loop-piece.clients none first;
            limits = inv.limits;
            clients = inv.clients;
            listings = inv.listings;
          })
    ]

pub returns-clause-due : goal.returns-clause-due
returns-clause-due c = all_forgotten _ (subst (λ ps. AreLeft ps c.loop-piece.clients)
    (none_left c.args.text.now c.args.pieces.now c.loop-piece.piece-index c.loop-piece-test.false) c.loop-piece.invariant.due)

pub loop-piece-init : goal.loop-piece-init
loop-piece-init c = record {
  inside = c.requires.inside;
  due = all_left _ _ c.requires.due;
  limits = λ limit all. all;
  clients = refl;
  listings = refl;
}

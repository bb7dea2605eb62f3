use Rattle.std.proofs.Common.{◌∙◌, ◌≤◌, arith, ap, sym, refl, subst, take}
use Rattle.lobby_post.specs.declared.due.Due.{Due}
use Rattle.lobby_post.specs.Dues.{copied, due_and}
use Rattle.lobby_model.specs.State.{is_live}
use Rattle.lobby_post.specs.Mail.{AreDue, IsShort}
use Rattle.lobby_post.specs.Pieces.{pieces_of}
use Rattle.line_words.proofs.Ties.{none_of}
use Rattle.lobby_post.proofs.Crowds.{written_through, due_kept}
use Rattle.lobby_post.proofs.Rounds.{inside_next, inside_here, bytes_long, came_first, came_next, pieces_done, due_more, wants_here, grown_past, ready_next, limits_next, plain_same}
use Rattle.lobby_post.proofs.Listed.{listings_same}
use Rattle.lobby_post.proofs.delivery.reserve.Goals as goal
use Rattle.lobby_post.proofs.delivery.reserve.Goals.{in-Some+in-Ok, in_default}

pub returns-in-Err-clause-clients : goal.returns-in-Err-clause-clients
returns-in-Err-clause-clients c =
    c.cancel.ensures.clients ∙ plain_same _ c.in-Some.slot.now c.reserve.new.self c.loop-i.clients _
    refl c.in-Some.ensures.value c.reserve.ensures.client ∙ c.loop-i.invariant.clients

pub returns-in-Err-clause-same_listings : goal.returns-in-Err-clause-same_listings
returns-in-Err-clause-same_listings c =
    c.cancel.ensures.same_listings ∙ listings_same _ c.in-Some.slot.now c.reserve.new.self c.loop-i.clients _
    refl c.in-Some.ensures.value c.reserve.ensures.client c.reserve.ensures.listed ∙ c.loop-i.invariant.listings

pub returns-in-Err-clause-limits : goal.returns-in-Err-clause-limits
returns-in-Err-clause-limits c = λ limit all.
    c.cancel.ensures.limits limit
    (limits_next limit _ c.in-Some.slot.now c.reserve.new.self c.loop-i.clients _
    (written_through _ c.in-Some.slot.now c.reserve.new.self c.loop-i.clients c.in-Some.ensures.value)
    c.in-Some.ensures.value c.reserve.ensures.limit (c.loop-i.invariant.limits limit all))

pub cancel-requires-clause-due : goal.cancel-requires-clause-due
cancel-requires-clause-due c =
    due_kept (pieces_of c.args.text.now (take c.loop-i.i c.args.pieces.now)) _ c.in-Some.slot.now c.reserve.new.self c.loop-i.clients _
    (written_through _ c.in-Some.slot.now c.reserve.new.self c.loop-i.clients c.in-Some.ensures.value)
    c.in-Some.ensures.value (λ hears. ap is_live (sym c.reserve.ensures.client) ∙ hears) c.in-Err.ensures.err c.loop-i.invariant.due

pub returns-in-Err-clause-wanted : goal.returns-in-Err-clause-wanted
returns-in-Err-clause-wanted c =
    let inv = c.loop-i.invariant in
    let long = bytes_long c.args.text.now c.args.pieces.now c.loop-i.i c.loop-i-test.true
    (inside_here c.args.text.now c.args.pieces.now c.loop-i.i c.loop-i-test.true inv.inside) in
    wants_here c.args.text.now c.args.pieces.now c.loop-i.i c.loop-i-test.true c.in-Some.slot.now c.args.clients.now c.loop-i.clients
    c.in-Some.ensures.value inv.came inv.due
    (subst (λ n. IsShort c.in-Some.slot.now (due_and c.in-Some.slot.now.due n)) (sym long) c.in-Err.ensures.wanted)

pub loop-i-preserved : goal.loop-i-preserved
loop-i-preserved c =
    let inv = c.loop-i.invariant in
    let long = bytes_long c.args.text.now c.args.pieces.now c.loop-i.i c.loop-i-test.true
    (inside_here c.args.text.now c.args.pieces.now c.loop-i.i c.loop-i-test.true inv.inside) in
    let done = pieces_done c.args.text.now c.args.pieces.now c.loop-i.i c.loop-i-test.true in
    elim c.match-get_mut_at.branch [
      | in-Some+in-Ok w ↦
          let written = written_through _ w.in-Some.slot.now w.reserve.new.self c.loop-i.clients w.in-Some.ensures.value in
          rw w.clients-is (record {
            inside = inside_next c.args.text.now c.args.pieces.now c.loop-i.i c.loop-i-test.true inv.inside;
            due = due_more c.args.text.now c.args.pieces.now c.loop-i.i c.loop-i-test.true w.in-Some.slot.now w.reserve.new.self c.loop-i.clients _ written w.in-Some.ensures.value w.reserve.ensures.client
                (λ hears. w.in-Ok.ensures.due hears ∙ ap (λ n. due_and w.in-Some.slot.now.due n) (sym long)) inv.due;
            came = came_next c.args.clients.now _ w.in-Some.slot.now w.reserve.new.self c.loop-i.clients _ written w.in-Some.ensures.value w.reserve.ensures.client
                w.reserve.ensures.spare_kept w.reserve.ensures.pieces_kept inv.came;
            ready = ready_next _ w.in-Some.slot.now w.reserve.new.self c.loop-i.clients _ written w.in-Some.ensures.value w.in-Ok.ensures.ready inv.ready;
            limits = λ limit all. limits_next limit _ w.in-Some.slot.now w.reserve.new.self c.loop-i.clients _ written w.in-Some.ensures.value w.reserve.ensures.limit (inv.limits limit all);
            clients = plain_same _ w.in-Some.slot.now w.reserve.new.self c.loop-i.clients _ refl w.in-Some.ensures.value w.reserve.ensures.client ∙ inv.clients;
            listings = listings_same _ w.in-Some.slot.now w.reserve.new.self c.loop-i.clients _ refl w.in-Some.ensures.value w.reserve.ensures.client w.reserve.ensures.listed ∙ inv.listings;
          })
      | in_default w ↦
          let none = sym (none_of c.get_mut_at.result w.in_default.not-Some ∙ c.get_mut_at.ensures.value) in
          rw w.clients-is (record {
            inside = inside_next c.args.text.now c.args.pieces.now c.loop-i.i c.loop-i-test.true inv.inside;
            due = subst (λ ps. AreDue ps c.loop-i.clients) (sym done) (grown_past _ _ _ c.loop-i.clients none inv.due);
            ready = inv.ready;
            came = inv.came;
            limits = inv.limits;
            clients = inv.clients;
            listings = inv.listings;
          })
    ]

pub loop-i-init : goal.loop-i-init
loop-i-init c = record {
  inside = c.requires.inside;
  due = c.requires.due;
  ready = λ q held f hears fits. subst (λ (d : Due). (copied d ≤ held.spare) × (d.shared_pieces ≤ held.spare_pieces))
      (sym (c.requires.due q held f hears)) (omega arith, omega arith);
  came = came_first c.args.clients.now;
  limits = λ limit all. all;
  clients = refl;
  listings = refl;
}

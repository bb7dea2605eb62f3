use Rattle.std.proofs.Common.{◌∙◌, ◌+◌, ℕ, ap, arith, drop, refl, subst, sym}
use Rattle.std.specs.Prelude.{◌||◌}
use Rattle.lobby_post.specs.Mail.{AreDue, bytes_for, plain, wakes_home}
use Rattle.lobby_post.proofs.Crowds.{written_through}
use Rattle.lobby_post.proofs.Rounds.{inside_next, pieces_is, less_due, less_past, due_here, limits_next, ready_next, clients_next, clients_past, clients_end, wakes_next, woken_past, wakes_end, none_left, no_shares, told_behind, told_end, told_next}
use Rattle.lobby_post.specs.Dues.{shares_of}
use Rattle.lobby_post.specs.Pieces.{pieces_of}
use Rattle.std.specs.Map.{keys_of}
use Rattle.lobby_post.specs.Amounts.{bytes_in_all, counted_on}
use Rattle.lobby_post.specs.Dirty.{AreKnown, line_of, listings_of}
use Rattle.lobby_post.proofs.Underway.{IsUnderway, known_end, newly_end, stands_next, underway_first, underway_next, underway_past}
use Rattle.lobby_post.proofs.delivery.deliver.Goals as goal
use Rattle.lobby_post.proofs.delivery.deliver.Goals.{in-Some, in-None}

pub put-requires-clause-due : goal.put-requires-clause-due
put-requires-clause-due c =
    due_here _ _ _ c.in-Some.slot.now c.loop-piece.clients c.in-Some.ensures.value
    (subst (λ ps. AreDue ps c.loop-piece.clients)
    (pieces_is c.args.text.now c.args.pieces.now c.loop-piece.piece-index c.loop-piece-test.true) c.loop-piece.invariant.due)

pub put-requires-clause-share : goal.put-requires-clause-share
put-requires-clause-share c =
    (c.next_share-share.ensures _ (c.loop-piece.invariant.shares
    ∙ ap shares_of (pieces_is c.args.text.now c.args.pieces.now c.loop-piece.piece-index c.loop-piece-test.true))).0

pub put-requires-clause-ready : goal.put-requires-clause-ready
put-requires-clause-ready c = c.loop-piece.invariant.ready _ c.in-Some.slot.now (sym c.in-Some.ensures.value)

pub loop-piece-preserved : goal.loop-piece-preserved
loop-piece-preserved c =
    let inv = c.loop-piece.invariant in
    let first = subst (λ ps. AreDue ps c.loop-piece.clients)
    (pieces_is c.args.text.now c.args.pieces.now c.loop-piece.piece-index c.loop-piece-test.true) inv.due in
    let shared = inv.shares
    ∙ ap shares_of (pieces_is c.args.text.now c.args.pieces.now c.loop-piece.piece-index c.loop-piece-test.true) in
    let begun : (n : ℕ) → AreKnown (listings_of c.args.clients.now) (line_of c.args.dirty.now) n → IsUnderway _ _ _ _ _ _ n = λ n known.
    subst (λ ps. IsUnderway (pieces_of c.args.text.now c.args.pieces.now) ps c.args.clients.now c.loop-piece.clients (line_of c.args.dirty.now) (line_of c.loop-piece.dirty) n)
    (pieces_is c.args.text.now c.args.pieces.now c.loop-piece.piece-index c.loop-piece-test.true) (inv.underway n known) in
    elim c.match-get_mut_at.branch [
      | in-Some w ↦
          let written = written_through _ w.in-Some.slot.now w.put.new.slot c.loop-piece.clients w.in-Some.ensures.value in
          rw (w.clients-is, w.dirty-is, w.wakes-is, w.shares-is, w.count-is) (record {
            inside = inside_next c.args.text.now c.args.pieces.now c.loop-piece.piece-index c.loop-piece-test.true inv.inside;
            due = less_due _ _ _ w.in-Some.slot.now w.put.new.slot c.loop-piece.clients _ written w.in-Some.ensures.value w.put.ensures.client.heard w.put.ensures.due w.put.ensures.uncounted first;
            ready = ready_next _ w.in-Some.slot.now w.put.new.slot c.loop-piece.clients _ written w.in-Some.ensures.value w.put.ensures.ready inv.ready;
            shares = (w.next_share-share.ensures _ shared).1;
            told = told_next c.args.text.now c.args.pieces.now c.loop-piece.piece-index c.loop-piece-test.true c.loop-piece.count w.with_bytes-count.result w.in-Some.slot.now w.put.new.slot c.loop-piece.clients
                w.with_bytes-count.ensures w.in-Some.ensures.value c.get_mut_at.ensures.ordered
                ∙ inv.told;
            small = omega (arith, w.with_bytes-count.ensures);
            limits = λ limit all. limits_next limit _ w.in-Some.slot.now w.put.new.slot c.loop-piece.clients _ written w.in-Some.ensures.value w.put.ensures.limit (inv.limits limit all);
            clients = λ limit all. clients_next c.args.text.now c.args.pieces.now c.loop-piece.piece-index c.loop-piece-test.true w.in-Some.slot.now w.put.new.slot c.loop-piece.clients _ refl w.in-Some.ensures.value w.put.ensures.client c.get_mut_at.ensures.ordered inv.due limit (inv.limits limit all) ∙ inv.clients limit all;
            wakes = λ limit home. wakes_next c.args.text.now c.args.pieces.now c.loop-piece.piece-index c.loop-piece-test.true w.in-Some.slot.now w.put.new.slot c.loop-piece.clients _ refl w.in-Some.ensures.value w.put.ensures.client c.get_mut_at.ensures.ordered inv.due
                limit c.loop-piece.wakes w.put.result _ home (w.union-wakes.ensures home) (w.put.ensures.home home) ∙ inv.wakes limit home;
            homes = λ home q. stands_next _ _ w.in-Some.slot.now w.put.new.slot c.loop-piece.clients w.in-Some.ensures.value w.put.ensures.client w.put.ensures.listed home q ∙ inv.homes home q;
            underway = λ n known. underway_next _ _ w.in-Some.slot.now w.put.new.slot c.loop-piece.clients w.in-Some.ensures.value w.put.ensures.client w.put.ensures.listed
                _ _ _ _ _ _ n w.put.ensures.lines (begun n known);
          })
      | in-None w ↦
          let none = sym w.in-None.ensures.value in
          rw (w.clients-is, w.dirty-is, w.wakes-is, w.shares-is, w.count-is) (record {
            inside = inside_next c.args.text.now c.args.pieces.now c.loop-piece.piece-index c.loop-piece-test.true inv.inside;
            due = less_past _ _ _ c.loop-piece.clients none first;
            ready = inv.ready;
            shares = (w.next_share-unused.ensures _ shared).1;
            told = told_behind c.args.text.now c.args.pieces.now c.loop-piece.piece-index c.loop-piece-test.true c.loop-piece.count c.loop-piece.clients none ∙ inv.told;
            small = inv.small;
            limits = inv.limits;
            clients = λ limit all. clients_past c.args.text.now c.args.pieces.now c.loop-piece.piece-index c.loop-piece-test.true c.loop-piece.clients none limit ∙ inv.clients limit all;
            wakes = λ limit home. woken_past c.args.text.now c.args.pieces.now c.loop-piece.piece-index c.loop-piece-test.true c.loop-piece.clients none limit c.loop-piece.wakes home ∙ inv.wakes limit home;
            homes = inv.homes;
            underway = λ n known. underway_past _ _ _ _ _ _ _ _ n none (begun n known);
          })
    ]

pub returns-clause-clients : goal.returns-clause-clients
returns-clause-clients c = λ limit all. sym (clients_end c.args.text.now c.args.pieces.now c.loop-piece.piece-index c.loop-piece-test.false limit _)
    ∙ c.loop-piece.invariant.clients limit all

pub returns-clause-due : goal.returns-clause-due
returns-clause-due c = subst (λ ps. AreDue ps c.loop-piece.clients)
    (none_left c.args.text.now c.args.pieces.now c.loop-piece.piece-index c.loop-piece-test.false) c.loop-piece.invariant.due

pub returns-clause-shares : goal.returns-clause-shares
returns-clause-shares c = c.loop-piece.invariant.shares
    ∙ no_shares c.args.text.now c.args.pieces.now c.loop-piece.piece-index c.loop-piece-test.false

pub returns-clause-told : goal.returns-clause-told
returns-clause-told c = told_end c.args.text.now c.args.pieces.now c.loop-piece.piece-index c.loop-piece-test.false c.loop-piece.count (keys_of c.loop-piece.clients) c.loop-piece.invariant.small
    ∙ c.loop-piece.invariant.told

pub returns-clause-wakes : goal.returns-clause-wakes
returns-clause-wakes c = λ limit home. sym (wakes_end c.args.text.now c.args.pieces.now c.loop-piece.piece-index c.loop-piece-test.false limit c.loop-piece.wakes home _) ∙ c.loop-piece.invariant.wakes limit home

pub returns-clause-known : goal.returns-clause-known
returns-clause-known c = λ n known.
    known_end (pieces_of c.args.text.now c.args.pieces.now) c.args.clients.now c.loop-piece.clients (line_of c.args.dirty.now)
    (line_of c.loop-piece.dirty) (line_of c.settle.new.self) n known
    (subst (λ ps. IsUnderway (pieces_of c.args.text.now c.args.pieces.now) ps c.args.clients.now c.loop-piece.clients (line_of c.args.dirty.now) (line_of c.loop-piece.dirty) n)
    (none_left c.args.text.now c.args.pieces.now c.loop-piece.piece-index c.loop-piece-test.false) (c.loop-piece.invariant.underway n known))
    c.settle.ensures

pub returns-clause-newly : goal.returns-clause-newly
returns-clause-newly c = λ n home known small.
    newly_end (pieces_of c.args.text.now c.args.pieces.now) c.args.clients.now c.loop-piece.clients (line_of c.args.dirty.now)
    (line_of c.loop-piece.dirty) (line_of c.settle.new.self) n known
    (subst (λ ps. IsUnderway (pieces_of c.args.text.now c.args.pieces.now) ps c.args.clients.now c.loop-piece.clients (line_of c.args.dirty.now) (line_of c.loop-piece.dirty) n)
    (none_left c.args.text.now c.args.pieces.now c.loop-piece.piece-index c.loop-piece-test.false) (c.loop-piece.invariant.underway n known))
    c.settle.ensures home small

pub loop-piece-init : goal.loop-piece-init
loop-piece-init c = record {
  inside = c.requires.inside;
  due = c.requires.due;
  ready = c.requires.ready;
  shares = c.requires.shares;
  told = refl;
  small = omega arith;
  limits = λ limit all. all;
  clients = λ limit all. refl;
  wakes = λ limit home. ap (λ b. b || wakes_home limit (pieces_of c.args.text.now c.args.pieces.now) (plain c.args.clients.now) home) (c.none-wakes.ensures home);
  homes = λ home q. refl;
  underway = λ n known. underway_first _ _ _ n known;
}

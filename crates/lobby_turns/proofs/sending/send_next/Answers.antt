use Rattle.std.proofs.Common.{[], refl, sym, subst}
use Rattle.lobby_turns.specs.declared.sending.SendState.TheVariants as send
use Rattle.lobby_holds.specs.Snapshot.{Carried, among}
use Rattle.lobby_turns.specs.Sending.{SendsNext}
use Rattle.lobby_lock.specs.Passes.{ShownPass}
use Rattle.lobby_holds.proofs.Kept.{kept}
use Rattle.lobby_holds.proofs.Talks.{from_ok, from_err}
use Rattle.lobby_turns.proofs.Sendings.{no_write, only_same, drains_none, next_memory}
use Rattle.lobby_turns.proofs.sending.send_next.Goals as goal

pub returns-then-not-is_written-clause-sends : goal.returns-then-not-is_written-clause-sends
returns-then-not-is_written-clause-sends g c = λ others. c.send_link.ensures.sends _ others (drains_none _) (only_same _)

pub returns-in-Err-clause-sends : goal.returns-in-Err-clause-sends
returns-in-Err-clause-sends g c = λ others.
    let wire = g.L.Link.wire c.args.link.now in
    let err = from_err _ _ _ c.in-Err.is c.drain-pass.ensures.err in
    let before = among others c.args.conn.now wire c.args.pass in
    subst (λ (x : Carried × ShownPass). SendsNext before (among others x.0 wire x.1) send.Memory) (λ i. (sym err.0 i, sym err.1 i)) (next_memory before (c.is_written.ensures.0 c.if-not-is_written.false))

pub returns-in-Ok-clause-sends : goal.returns-in-Ok-clause-sends
returns-in-Ok-clause-sends g c = λ others.
    let wire = g.L.Link.wire c.args.link.now in
    let e = c.drain-pass.ensures in
    c.send_piece.ensures.sends _ others (from_ok _ _ _ c.in-Ok.is e.ok others wire) (no_write _ _ refl e.session e.unfed)

pub returns-in-Err-clause-desk : goal.returns-in-Err-clause-desk
returns-in-Err-clause-desk g c = (kept _ _ _ (returns-in-Err-clause-sends g c []).went.joined.joined).0

pub returns-in-Err-clause-number : goal.returns-in-Err-clause-number
returns-in-Err-clause-number g c = (kept _ _ _ (returns-in-Err-clause-sends g c []).went.joined.joined).1

pub returns-in-Ok-clause-desk : goal.returns-in-Ok-clause-desk
returns-in-Ok-clause-desk g c = (kept _ _ _ (returns-in-Ok-clause-sends g c []).went.joined.joined).0

pub returns-in-Ok-clause-number : goal.returns-in-Ok-clause-number
returns-in-Ok-clause-number g c = (kept _ _ _ (returns-in-Ok-clause-sends g c []).went.joined.joined).1

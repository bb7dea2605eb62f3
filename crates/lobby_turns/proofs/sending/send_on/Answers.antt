use Rattle.std.proofs.Common.{◌∙◌, [], refl, subst, arith}
use Rattle.lobby_holds.specs.Snapshot.{among, snapshot}
use Rattle.lobby_turns.proofs.Served.{served_none, served_then, served_went}
use Rattle.lobby_turns.proofs.Sendings.{finished_may, first_wrote, made_more, only_same, sending_wrote, sends_again, sends_on, sends_finished}
use Rattle.lobby_turns.specs.Sending.{Sending}
use Rattle.lobby_turns.proofs.sending.send_on.Goals as goal

pub returns-in-All-clause-sends : goal.returns-in-All-clause-sends
returns-in-All-clause-sends g c = λ old before others h s. sends_on old before _ 0 _ c.in-All.is (omega arith) h s

pub returns-in-Finished-clause-sends : goal.returns-in-Finished-clause-sends
returns-in-Finished-clause-sends g c = λ old before others h s. sends_finished old before _ _ 0 16 _ c.in-Finished.is (omega arith) refl h s (c.write_out.ensures others)

pub loop-writes-init : goal.loop-writes-init
loop-writes-init g c =
    let first = snapshot c.args.conn.now (g.L.Link.wire c.args.link.now) c.args.pass in (
      λ old before others h s. sending_wrote old before _ 0 _ c.in-Again.is h s,
      (0, refl, only_same first),
      first_wrote first first _ c.in-Again.is c.requires.wire,
      served_none _ _,
      refl,
      refl,
    )

pub loop-writes-preserved : goal.loop-writes-preserved
loop-writes-preserved g c =
    let i = c.loop-writes.invariant in
    let s = c.send_next-next.ensures in (
      λ old before others h f. sending_wrote _ _ _ _ _ c.in-Again-state.is (i.0 old before others h f) (s.sends others),
      made_more _ _ _ _ _ _ c.in-Again-state.is i.1.1 i.1.2 (s.sends []),
      i.2,
      served_then _ _ _ _ _ _ i.3 (served_went _ _ _ refl (s.sends []).went),
      s.desk ∙ i.4,
      s.number ∙ i.5,
    )

pub returns-in-All-state-clause-sends : goal.returns-in-All-state-clause-sends
returns-in-All-state-clause-sends g c = λ old before others h f.
    sends_on _ _ _ _ _ c.in-All-state.is c.loop-writes-test.true (c.loop-writes.invariant.0 old before others h f) (c.send_next-next.ensures.sends others)

pub returns-in-Finished-state-clause-sends : goal.returns-in-Finished-state-clause-sends
returns-in-Finished-state-clause-sends g c = λ old before others h f.
    sends_finished _ _ _ _ _ _ _ c.in-Finished-state.is c.loop-writes-test.true (omega (arith, c.loop-writes-test.true)) (c.loop-writes.invariant.0 old before others h f) (c.send_next-next.ensures.sends others) (c.write_out-in-Finished-state.ensures others)

pub returns-clause-sends : goal.returns-clause-sends
returns-clause-sends g c = λ old before others h f.
    let now = among others c.loop-writes.conn (g.L.Link.wire c.loop-writes.link) c.loop-writes.pass in
    sends_again old now (subst (λ n. Sending old now n) (omega (arith, c.loop-writes-test.false)) (c.loop-writes.invariant.0 old before others h f))

pub write_out-requires-in-Finished-state-clause-wire : goal.write_out-requires-in-Finished-state-clause-wire
write_out-requires-in-Finished-state-clause-wire g c =
    let i = c.loop-writes.invariant in
    finished_may _ _ _ i.1.0 _ _ c.in-Finished-state.is i.2 i.1.1 c.loop-writes-test.true i.1.2 (c.send_next-next.ensures.sends [])

pub returns-in-All-clause-serves : goal.returns-in-All-clause-serves
returns-in-All-clause-serves g c = served_none _ _

pub returns-in-Finished-clause-serves : goal.returns-in-Finished-clause-serves
returns-in-Finished-clause-serves g c = served_went _ _ _ refl (c.write_out.ensures []).went

pub returns-in-All-state-clause-serves : goal.returns-in-All-state-clause-serves
returns-in-All-state-clause-serves g c = served_then _ _ _ _ _ _ c.loop-writes.invariant.3 (served_went _ _ _ refl (c.send_next-next.ensures.sends []).went)

pub returns-in-Finished-state-clause-serves : goal.returns-in-Finished-state-clause-serves
returns-in-Finished-state-clause-serves g c =
    served_then _ _ _ _ _ _ c.loop-writes.invariant.3
    (served_then _ _ _ _ _ _ (served_went _ _ _ refl (c.send_next-next.ensures.sends []).went) (served_went _ _ _ refl (c.write_out-in-Finished-state.ensures []).went))

pub returns-clause-serves : goal.returns-clause-serves
returns-clause-serves g c = c.loop-writes.invariant.3

use Rattle.std.proofs.Common.{◌-◌, ◌+◌, ◌∙◌, Bool, [], refl, sym, subst, arith, true≢false}
use Rattle.lobby_turns.specs.declared.receiving.Left.{Left}
use Rattle.lobby_holds.specs.Snapshot.{among}
use Rattle.lobby_turns.specs.Receiving.{IsReceiving, share_of}
use Rattle.lobby_turns.proofs.Receivings.{dry_fed, gave, goes_on_dry, goes_on_said, goes_on_read, goes_on_waiting, last_may_send, made_may_go_on, made_may_send, made_none, made_said, made_step, made_then, receives_done, receives_drained, receives_ends, receives_refused, receives_limit}
use Rattle.lobby_turns.proofs.Served.{served_none, served_step, served_then, served_went}
use Rattle.lobby_turns.proofs.receiving.receive.Goals as goal

pub loop-allowance-init : goal.loop-allowance-init
loop-allowance-init g c = (
  λ old begun. subst (λ (dry : Bool). IsReceiving old (among old.others c.args.conn.now (g.L.Link.wire c.args.link.now) c.args.pass) c.args.from.lines c.args.from.reads c.args.from.bytes c.args.from.all.wakes c.args.from.all.told dry)
      (sym (c.is_dry_still.ensures.same begun.dry_fed)) begun,
  λ e. absurd (true≢false (sym e)),
  c.is_dry_still.ensures.fed,
  (0, omega arith, omega arith, made_none _),
  served_none _ _,
  λ _. refl,
  refl,
  refl,
)

pub next_step-next-requires-clause-wire : goal.next_step-next-requires-clause-wire
next_step-next-requires-clause-wire g c =
    let made = c.loop-allowance.invariant.3 in
    made_may_go_on _ _ made.0 c.requires.fresh made.3 (omega (arith, made.1, (c.is_at_limit.ensures.room c.loop-allowance-test.true).1))

pub returns-in-Ends-clause-receives : goal.returns-in-Ends-clause-receives
returns-in-Ends-clause-receives g c = λ old begun.
    let left : Left = record { lines = 64 - c.loop-allowance.at.lines; bytes = 65536 - c.loop-allowance.at.bytes; told = c.left_to_tell.result; looks = c.loop-allowance.looks; is_dry = c.loop-allowance.at.is_dry } in
    receives_ends _ _ _ _ _ _ (share_of c.args.allowance c.loop-allowance.at.all.told) _ left _ _ c.left_to_tell.ensures c.in-Ends.is (c.is_at_limit.ensures.room c.loop-allowance-test.true).1 c.next_step-next.ensures.within (c.loop-allowance.invariant.0 old begun) (c.next_step-next.ensures.received old.others)

pub returns-in-Done-clause-receives : goal.returns-in-Done-clause-receives
returns-in-Done-clause-receives g c = λ old begun.
    let left : Left = record { lines = 64 - c.loop-allowance.at.lines; bytes = 65536 - c.loop-allowance.at.bytes; told = c.left_to_tell.result; looks = c.loop-allowance.looks; is_dry = c.loop-allowance.at.is_dry } in
    receives_done _ _ _ _ _ _ (share_of c.args.allowance c.loop-allowance.at.all.told) _ left _ c.in-Done.is (c.is_at_limit.ensures.room c.loop-allowance-test.true).1 c.next_step-next.ensures.within (c.loop-allowance.invariant.0 old begun) (c.next_step-next.ensures.received old.others)

pub returns-in-Drained-clause-receives : goal.returns-in-Drained-clause-receives
returns-in-Drained-clause-receives g c = λ old begun.
    let s = c.next_step-next.ensures in
    let left : Left = record { lines = 64 - c.loop-allowance.at.lines; bytes = 65536 - c.loop-allowance.at.bytes; told = c.left_to_tell.result; looks = c.loop-allowance.looks; is_dry = c.loop-allowance.at.is_dry } in
    receives_drained _ _ _ _ _ _ (share_of c.args.allowance c.and-all.result.told) _ _ left _ _ _ _ c.in-Drained.is refl s.fed s.within (c.loop-allowance.invariant.0 old begun) (s.received old.others)
    c.and-all.ensures.wakes c.and-all.ensures.told

pub returns-then-said-clause-receives : goal.returns-then-said-clause-receives
returns-then-said-clause-receives g c = λ old begun.
    let s = c.next_step-next.ensures in
    let left : Left = record { lines = 64 - c.loop-allowance.at.lines; bytes = 65536 - c.loop-allowance.at.bytes; told = c.left_to_tell.result; looks = c.loop-allowance.looks; is_dry = c.loop-allowance.at.is_dry } in
    receives_refused _ _ _ _ _ _ (share_of c.args.allowance c.and-at.result.told) _ _ left _ _ _ c.in-Said.is c.if-said.true refl s.within (c.loop-allowance.invariant.0 old begun) (s.received old.others)
    c.and-at.ensures.wakes c.and-at.ensures.told

pub returns-in-Waits-clause-receives : goal.returns-in-Waits-clause-receives
returns-in-Waits-clause-receives g c = λ old begun.
    let s = c.next_step-next.ensures in
    goes_on_waiting _ _ _ _ _ _ _ _ _ _ c.in-Waits.is s.fed (c.loop-allowance.invariant.0 old begun) (s.received old.others)

pub loop-allowance-preserved-else-said : goal.loop-allowance-preserved-else-said
loop-allowance-preserved-else-said g c =
    let i = c.loop-allowance.invariant in
    let s = c.next_step-next.ensures in
    let left : Left = record { lines = 64 - c.loop-allowance.at.lines; bytes = 65536 - c.loop-allowance.at.bytes; told = c.left_to_tell.result; looks = c.loop-allowance.looks; is_dry = c.loop-allowance.at.is_dry } in (
      λ old begun. goes_on_said _ _ _ _ _ _ _ _ _ left _ _ _ _ c.in-Said.is refl s.fed s.within (i.0 old begun) (s.received old.others) c.and-at.ensures.wakes c.and-at.ensures.told,
      λ e. absurd (true≢false (sym e)),
      s.fed,
      (i.3.0, i.3.1, i.3.2, made_then _ _ _ _ _ _ i.3.3 (made_said _ _ _ _ c.in-Said.is (s.received [])) (omega arith)),
      served_then _ _ _ _ _ _ i.4 (served_step _ _ _ refl (s.received [])),
      λ e. s.pass e ∙ i.5 e,
      s.desk ∙ i.6,
      s.number ∙ i.7,
    )

pub loop-allowance-preserved-in-Read : goal.loop-allowance-preserved-in-Read
loop-allowance-preserved-in-Read g c =
    let i = c.loop-allowance.invariant in
    let s = c.next_step-next.ensures in
    let left : Left = record { lines = 64 - c.loop-allowance.at.lines; bytes = 65536 - c.loop-allowance.at.bytes; told = c.left_to_tell.result; looks = c.loop-allowance.looks; is_dry = c.loop-allowance.at.is_dry } in (
      λ old begun. goes_on_read _ _ _ _ _ _ _ _ _ left _ c.in-Read.is (c.is_at_limit.ensures.room c.loop-allowance-test.true).1 refl s.within (i.0 old begun) (s.received old.others),
      λ _. gave _ _ _ _ c.in-Read.is (s.received []),
      s.fed,
      (i.3.0 + 1, omega (arith, i.3.1), omega (arith, i.3.1, (c.is_at_limit.ensures.room c.loop-allowance-test.true).1), made_then _ _ _ _ _ _ i.3.3 (made_step _ _ _ (s.received [])) (omega arith)),
      served_then _ _ _ _ _ _ i.4 (served_step _ _ _ refl (s.received [])),
      λ e. s.pass e ∙ i.5 e,
      s.desk ∙ i.6,
      s.number ∙ i.7,
    )

pub loop-allowance-preserved : goal.loop-allowance-preserved
loop-allowance-preserved g c =
    let i = c.loop-allowance.invariant in
    let s = c.next_step-next.ensures in (
      λ old begun. goes_on_dry _ _ _ _ _ _ _ _ _ _ c.in-Dry.is (c.is_at_limit.ensures.room c.loop-allowance-test.true).1 (i.0 old begun) (s.received old.others),
      λ e. absurd (true≢false (sym e)),
      λ _. dry_fed _ _ _ c.in-Dry.is (s.received []),
      (i.3.0 + 1, omega (arith, i.3.1), omega (arith, i.3.1, (c.is_at_limit.ensures.room c.loop-allowance-test.true).1), made_then _ _ _ _ _ _ i.3.3 (made_step _ _ _ (s.received [])) (omega arith)),
      served_then _ _ _ _ _ _ i.4 (served_step _ _ _ refl (s.received [])),
      λ e. s.pass e ∙ i.5 e,
      s.desk ∙ i.6,
      s.number ∙ i.7,
    )

pub returns-clause-receives : goal.returns-clause-receives
returns-clause-receives g c = λ old begun.
    let s = c.stop_at_limit.ensures in
    receives_limit _ _ _ _ _ _ (share_of c.args.allowance c.loop-allowance.at.all.told) _ _ _ (c.is_at_limit.ensures.most c.loop-allowance-test.false) (c.loop-allowance.invariant.0 old begun) (s.went old.others (g.L.Link.wire c.loop-allowance.link) c.loop-allowance.pass) refl s.unwritten s.limit

pub returns-clause-serves : goal.returns-clause-serves
returns-clause-serves g c =
    let wire = g.L.Link.wire c.loop-allowance.link in
    served_then _ _ _ _ _ _ c.loop-allowance.invariant.4 (served_went _ _ _ refl (c.stop_at_limit.ensures.went [] wire c.loop-allowance.pass))

pub returns-clause-wire : goal.returns-clause-wire
returns-clause-wire g c =
    let made = c.loop-allowance.invariant.3 in
    made_may_send _ _ made.0 c.requires.fresh made.3 made.2

pub returns-then-said-clause-wire : goal.returns-then-said-clause-wire
returns-then-said-clause-wire g c =
    let made = c.loop-allowance.invariant.3 in
    last_may_send _ _ _ made.0 c.requires.fresh made.3 (made_step _ _ _ (c.next_step-next.ensures.received [])) (omega (arith, made.1, (c.is_at_limit.ensures.room c.loop-allowance-test.true).1))

pub returns-then-said-clause-serves : goal.returns-then-said-clause-serves
returns-then-said-clause-serves g c = served_then _ _ _ _ _ _ c.loop-allowance.invariant.4 (served_step _ _ _ refl (c.next_step-next.ensures.received []))

pub returns-in-Drained-clause-wire : goal.returns-in-Drained-clause-wire
returns-in-Drained-clause-wire g c =
    let made = c.loop-allowance.invariant.3 in
    last_may_send _ _ _ made.0 c.requires.fresh made.3 (made_step _ _ _ (c.next_step-next.ensures.received [])) (omega (arith, made.1, (c.is_at_limit.ensures.room c.loop-allowance-test.true).1))

pub returns-in-Drained-clause-serves : goal.returns-in-Drained-clause-serves
returns-in-Drained-clause-serves g c = served_then _ _ _ _ _ _ c.loop-allowance.invariant.4 (served_step _ _ _ refl (c.next_step-next.ensures.received []))

pub returns-in-Waits-clause-wire : goal.returns-in-Waits-clause-wire
returns-in-Waits-clause-wire g c =
    let made = c.loop-allowance.invariant.3 in
    last_may_send _ _ _ made.0 c.requires.fresh made.3 (made_step _ _ _ (c.next_step-next.ensures.received [])) (omega (arith, made.1, (c.is_at_limit.ensures.room c.loop-allowance-test.true).1))

pub returns-in-Waits-clause-serves : goal.returns-in-Waits-clause-serves
returns-in-Waits-clause-serves g c = served_then _ _ _ _ _ _ c.loop-allowance.invariant.4 (served_step _ _ _ refl (c.next_step-next.ensures.received []))

pub returns-in-Done-clause-wire : goal.returns-in-Done-clause-wire
returns-in-Done-clause-wire g c =
    let made = c.loop-allowance.invariant.3 in
    last_may_send _ _ _ made.0 c.requires.fresh made.3 (made_step _ _ _ (c.next_step-next.ensures.received [])) (omega (arith, made.1, (c.is_at_limit.ensures.room c.loop-allowance-test.true).1))

pub returns-in-Done-clause-serves : goal.returns-in-Done-clause-serves
returns-in-Done-clause-serves g c = served_then _ _ _ _ _ _ c.loop-allowance.invariant.4 (served_step _ _ _ refl (c.next_step-next.ensures.received []))

pub returns-in-Ends-clause-wire : goal.returns-in-Ends-clause-wire
returns-in-Ends-clause-wire g c =
    let made = c.loop-allowance.invariant.3 in
    last_may_send _ _ _ made.0 c.requires.fresh made.3 (made_step _ _ _ (c.next_step-next.ensures.received [])) (omega (arith, made.1, (c.is_at_limit.ensures.room c.loop-allowance-test.true).1))

pub returns-in-Ends-clause-serves : goal.returns-in-Ends-clause-serves
returns-in-Ends-clause-serves g c = served_then _ _ _ _ _ _ c.loop-allowance.invariant.4 (served_step _ _ _ refl (c.next_step-next.ensures.received []))

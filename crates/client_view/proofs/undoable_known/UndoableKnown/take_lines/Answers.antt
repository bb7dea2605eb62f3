use Rattle.std.proofs.Common.{◌≡◌, ℕ, ◌+◌, ◌-◌, ◌∙◌, ap, length, take, drop, arith}
use Rattle.line_framer.specs.Frames.{without_cr}
use Rattle.lobby_view.specs.View.{shown_all}
use Rattle.client_view.proofs.Follows.{read_of}
use Rattle.client_view.proofs.Lines.{line_more, long_known, long_count, long_is_spoilt, last_known, last_count, last_spoilt}
use Rattle.client_view.proofs.undoable_known.UndoableKnown.take_lines.Goals as goal

-- a line is too long
pub returns-then-end-gt-LINE_LIMIT-clause-known : goal.returns-then-end-gt-LINE_LIMIT-clause-known
returns-then-end-gt-LINE_LIMIT-clause-known c =
    let now = c.loop-end in
    long_known c.args.bytes.now c.args.self.now.now now.self.now now.taken now.count now.invariant.lines c.in-Some.end c.in-Some.ensures c.if-end-gt-LINE_LIMIT.true

pub returns-then-end-gt-LINE_LIMIT-clause-count : goal.returns-then-end-gt-LINE_LIMIT-clause-count
returns-then-end-gt-LINE_LIMIT-clause-count c =
    let now = c.loop-end in
    long_count c.args.bytes.now c.args.self.now.now now.self.now now.taken now.count now.invariant.lines c.in-Some.end c.in-Some.ensures c.if-end-gt-LINE_LIMIT.true

pub returns-then-end-gt-LINE_LIMIT-clause-spoilt : goal.returns-then-end-gt-LINE_LIMIT-clause-spoilt
returns-then-end-gt-LINE_LIMIT-clause-spoilt c =
    let now = c.loop-end in
    long_is_spoilt c.args.bytes.now c.args.self.now.now now.self.now now.taken now.count now.invariant.lines c.in-Some.end c.in-Some.ensures c.if-end-gt-LINE_LIMIT.true

-- one line more
pub loop-end-preserved : goal.loop-end-preserved
loop-end-preserved c =
    let now = c.loop-end in
    let folded = c.in_ok-count.ensures in
    let size : (now.taken + c.in-Some.end) - now.taken ≡ c.in-Some.end = omega arith in
    let line_is = ap (λ (n : ℕ). read_of (without_cr (take n (drop now.taken c.args.bytes.now)))) size in
    record {
      lines = line_more c.args.bytes.now c.args.self.now.now now.self.now now.taken now.count now.invariant.lines c.in-Some.end c.in-Some.ensures
          c.if-end-gt-LINE_LIMIT.false c.take.new.self.now c.in_ok-count.field-0 (folded.ok.now ∙ ap (shown_all now.self.now) line_is) (folded.count ∙ ap length line_is);
      before = folded.ok.before now.invariant.noting ∙ now.invariant.before;
      noting = folded.ok.noting ∙ now.invariant.noting;
    }

-- no line ends any more
pub returns-clause-known : goal.returns-clause-known
returns-clause-known c =
    let now = c.loop-end in
    last_known c.args.bytes.now c.args.self.now.now now.self.now now.taken now.count now.invariant.lines c.in_default.ensures

pub returns-clause-count : goal.returns-clause-count
returns-clause-count c =
    let now = c.loop-end in
    last_count c.args.bytes.now c.args.self.now.now now.self.now now.taken now.count now.invariant.lines c.in_default.ensures

pub returns-clause-spoilt : goal.returns-clause-spoilt
returns-clause-spoilt c =
    let now = c.loop-end in
    last_spoilt c.args.bytes.now c.args.self.now.now now.self.now now.taken now.count now.invariant.lines c.in_default.ensures

use Rattle.std.proofs.Common.{rules, map, drop, ◌+◌}
use Rattle.lobby_lines.specs.Replies.{kind_of}
use Rattle.lobby_lines.proofs.ReplyGoing.{starts, goes_on, stops, ends_so, next_kind, no_kind}
use Rattle.lobby_lines.proofs.reply_arguments.put_arguments.Goals as goal

pub loop-kind-init : goal.loop-kind-init
loop-kind-init c = starts (map kind_of c.args.kinds.now) c.args.bytes.now c.args.fields.now

pub loop-kind-preserved : goal.loop-kind-preserved
loop-kind-preserved c =
    let all = map kind_of c.args.kinds.now in
    let g = next_kind c.args.kinds.now c.loop-kind.kind-index _ all c.loop-kind.rest.now c.args.bytes.now c.args.fields.now c.loop-kind.fields
    c.loop-kind-test.true c.loop-kind.invariant in
    goes_on _ (map kind_of (drop (c.loop-kind.kind-index + 1) c.args.kinds.now)) all c.loop-kind.rest.now c.args.bytes.now c.in_ok-rest.rest.now
    c.args.fields.now c.loop-kind.fields c.put_argument.new.fields g c.in_ok-rest.ensures.read

pub returns-in_err-rest-clause-unread : goal.returns-in_err-rest-clause-unread
returns-in_err-rest-clause-unread c =
    let all = map kind_of c.args.kinds.now in
    let g = next_kind c.args.kinds.now c.loop-kind.kind-index _ all c.loop-kind.rest.now c.args.bytes.now c.args.fields.now c.loop-kind.fields
    c.loop-kind-test.true c.loop-kind.invariant in
    let failed = stops c.in_err-rest.field-0.0 _ _ all c.loop-kind.rest.now c.args.bytes.now c.args.fields.now c.loop-kind.fields g c.in_err-rest.ensures.unread in
    let from = c.from_residual.ensures in
    search rules

pub returns-clause-read : goal.returns-clause-read
returns-clause-read c =
    let all = map kind_of c.args.kinds.now in
    let g = no_kind c.args.kinds.now c.loop-kind.kind-index all c.loop-kind.rest.now c.args.bytes.now c.args.fields.now c.loop-kind.fields
    c.loop-kind-test.false c.loop-kind.invariant in
    (ends_so c.ended.result all c.loop-kind.rest.now c.args.bytes.now c.args.fields.now c.loop-kind.fields c.ended.ensures g).0

pub returns-clause-unread : goal.returns-clause-unread
returns-clause-unread c =
    let all = map kind_of c.args.kinds.now in
    let g = no_kind c.args.kinds.now c.loop-kind.kind-index all c.loop-kind.rest.now c.args.bytes.now c.args.fields.now c.loop-kind.fields
    c.loop-kind-test.false c.loop-kind.invariant in
    (ends_so c.ended.result all c.loop-kind.rest.now c.args.bytes.now c.args.fields.now c.loop-kind.fields c.ended.ensures g).1

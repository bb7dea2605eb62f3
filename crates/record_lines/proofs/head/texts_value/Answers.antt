use Rattle.std.proofs.Common.{arith}
use Rattle.record_lines.proofs.Built.{texts_more, texts_whole}
use Rattle.record_lines.proofs.head.texts_value.Goals as goal

pub loop-text-preserved : goal.loop-text-preserved
loop-text-preserved c =
    texts_more c.args.texts.now c.loop-text.text-index c.text-item.result c.as_slice.result.now c.loop-text.values.items
    c.push.new.self.items c.in_ok-text_value.field-0 c.loop-text.invariant (omega arith) c.text-item.is
    c.as_slice.ensures.value c.in_ok-text_value.ensures c.in_ok-push.ensures.items

pub returns : goal.returns
returns c = texts_whole c.args.texts.now c.loop-text.text-index c.loop-text.values c.loop-text.invariant (omega arith)

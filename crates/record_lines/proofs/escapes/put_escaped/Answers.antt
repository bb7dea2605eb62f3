use Rattle.std.proofs.Common.{vec_capacity, arith}
use Rattle.reply_printer.proofs.Kept.{on_refusal}
use Rattle.record_lines.proofs.EscapedBytes.{byte_lacks}
use Rattle.record_lines.proofs.escapes.put_escaped.Goals as goal

pub returns-in_err-put_byte-clause-wanted : goal.returns-in_err-put_byte-clause-wanted
returns-in_err-put_byte-clause-wanted c =
    on_refusal c.from_residual.result
    (byte_lacks c.args.out.now.items c.loop-byte.out.items c.args.bytes.now c.loop-byte.byte-index (vec_capacity c.loop-byte.out)
    (vec_capacity c.args.out.now) c.loop-byte.invariant.text (omega (arith, c.loop-byte-test.true)) c.loop-byte.invariant.room
    c.in_err-put_byte.ensures.wanted)

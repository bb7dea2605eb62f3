use Rattle.std.proofs.Common.{◌≡◌, ◌*◌, ◌%◌, ◌^◌, arith}
use Rattle.std.proofs.lemmas.Nat.{one_shl, and_mask}
use Rattle.status_bits.proofs.field.Field.number_in.Goals as goal

-- the mask is 2 ^ width - 1
pub returns : goal.returns
returns c =
    let mask : 1 * 2 ^ c.args.self.width % 4294967296 ≡ 2 ^ c.args.self.width =
    one_shl _ 32 (omega arith) in
    rw mask (and_mask _ _)

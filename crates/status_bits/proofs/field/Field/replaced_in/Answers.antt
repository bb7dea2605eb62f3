use Rattle.std.proofs.Common.{arith}
use Rattle.std.proofs.lemmas.Nat.{shl_whole}
use Rattle.status_bits.proofs.Shifts.{placed-lt}
use Rattle.status_bits.proofs.field.Field.replaced_in.Goals as goal

pub overflow_add-result : goal.overflow_add-result
overflow_add-result c =
    let placed = placed-lt c.args.number c.args.self.first c.args.self.width c.requires.fits c.requires.place in
    let whole = shl_whole c.args.number c.args.self.width c.args.self.first 32 c.requires.fits
    (omega arith) in
    rw c.from.ensures (rw whole (omega arith))

pub returns : goal.returns
returns c =
    let whole = shl_whole c.args.number c.args.self.width c.args.self.first 32 c.requires.fits
    (omega arith) in
    rw (c.from.ensures, c.part_of.ensures) (rw whole)

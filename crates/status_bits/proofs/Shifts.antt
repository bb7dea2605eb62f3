-- Numbers that are shifted to their place in a word.
use Rattle.std.proofs.Common.{◌≡◌, ℕ, ◌+◌, ◌*◌, ◌/◌, ◌%◌, ◌^◌, ◌<◌, ◌≤◌, subst, arith}
use Rattle.std.proofs.lemmas.Nat.{shl_whole, mod-pow-add, shr_split, mod_below}

-- the part of a field is no more than the word
pub part-le : (word first width : ℕ) → word / 2 ^ first % 2 ^ width * 2 ^ first ≤ word
part-le word first width =
    let whole = shr_split word (width + first) in
    let split = mod-pow-add word width first in
    omega arith

-- a number that fits its field stays below the end of the field
pub placed-lt : (number first width : ℕ) → number < 2 ^ width → first + width < 32
    → number * 2 ^ first < 2 ^ 31
placed-lt number first width fits place =
    let whole : number * 2 ^ first % 2 ^ 31 ≡ number * 2 ^ first =
    shl_whole number width first 31 fits (omega arith) in
    subst (λ n. n < 2 ^ 31) whole (mod_below (number * 2 ^ first) (2 ^ 31) (omega arith))

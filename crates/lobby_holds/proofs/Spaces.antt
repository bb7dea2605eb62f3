-- Bytes in a part of a buffer.
use Rattle.std.proofs.Common.{◌≡◌, ℕ, ◌+◌, ◌-◌, ◌≤◌, List, [], ◌++◌, length, take, drop, sym, ap, ◌∙◌, arith, append_assoc}
use Rattle.std.proofs.Math.Seq.{take-append-add}
use Rattle.std.proofs.lemmas.List.{length-drop, length-append, length-take-le, take-append-le, drop-append-le, drop-drop, drop_all, take-take}

pub part_length : (from to : ℕ) (xs : List ℕ) → to ≤ length xs → length (drop from (take to xs)) ≡ to - from
part_length from to xs within = length-drop from (take to xs) ∙ ap (λ n. n - from) (length-take-le to xs within)

-- the first of them went on
pub part_after : (from to count : ℕ) (xs : List ℕ) → drop (from + count) (take to xs) ≡ drop count (drop from (take to xs))
part_after from to count xs = sym (drop-drop count from (take to xs))

-- all of them did
pub part_over : (from to count : ℕ) (xs : List ℕ) → to ≤ length xs → to - from ≤ count → [] ≡ drop count (drop from (take to xs))
part_over from to count xs within all =
    let short : length (drop from (take to xs)) ≤ count = omega (arith, part_length from to xs within, all) in
    sym (drop_all count (drop from (take to xs)) short)

-- the buffer has grown behind them
pub part_grown : (from to : ℕ) (xs more : List ℕ) → to ≤ length xs → drop from (take to (xs ++ more)) ≡ drop from (take to xs)
part_grown from to xs more within = ap (drop from) (take-append-le to xs more within)

-- more was written behind them, of which so many are kept
pub part_behind : (from to count n : ℕ) (xs into rest more : List ℕ) → from ≤ to → to ≤ length xs → count ≤ length into → to + length into ≤ n
    → drop from (take (to + count) (take n ((take to xs ++ (into ++ rest)) ++ more))) ≡ drop from (take to xs) ++ take count into
part_behind from to count n xs into rest more order within few long =
    let front : length (take to xs) ≡ to = length-take-le to xs within in
    let less : to + count ≤ n = omega (arith, few, long) in
    let inside : from ≤ length (take to xs) = omega (arith, front, order) in
    let all : (take to xs ++ (into ++ rest)) ++ more ≡ take to xs ++ (into ++ (rest ++ more)) =
    append_assoc (take to xs) (into ++ rest) more ∙ ap (λ l. take to xs ++ l) (append_assoc into rest more) in
    ap (drop from) (
    take-take (to + count) n _ less
    ∙ ap (take (to + count)) all
    ∙ ap (λ k. take (k + count) (take to xs ++ (into ++ (rest ++ more)))) (sym front)
    ∙ take-append-add (take to xs) (into ++ (rest ++ more)) count
    ∙ ap (λ l. take to xs ++ l) (take-append-le count into (rest ++ more) few))
    ∙ drop-append-le from (take to xs) (take count into) inside

-- a part of a slice that has n bytes behind its place
pub slice_length : (at n : ℕ) (xs : List ℕ) → at + n ≤ length xs → length (take (at + n - at) (drop at xs)) ≡ n
slice_length at n xs within =
    let few : at + n - at ≤ length (drop at xs) = omega (arith, length-drop at xs, within) in
    omega (arith, length-take-le (at + n - at) (drop at xs) few)

-- the front of a list that stands before another, as a list cut to n
pub front_kept : (count n : ℕ) (xs more : List ℕ) → count ≤ length xs → length xs ≡ n → take count (take n (xs ++ more)) ≡ take count xs
front_kept count n xs more few long =
    let within : count ≤ n = omega (arith, few, long) in
    take-take count n (xs ++ more) within ∙ take-append-le count xs more few

pub front_length : (count n : ℕ) (xs more : List ℕ) → count ≤ length xs → length xs ≡ n → count ≤ length (take n (xs ++ more))
front_length count n xs more few long =
    let all : n ≤ length (xs ++ more) = omega (arith, long, length-append xs more) in
    omega (arith, few, long, length-take-le n (xs ++ more) all)

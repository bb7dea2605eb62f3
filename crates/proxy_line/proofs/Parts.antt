-- Where a list parts at its first such byte.
use Rattle.std.proofs.Common.{◌≡◌, ℕ, ◌+◌, ◌<◌, ◌^◌, true, false, ◌||◌, List, [], ◌∷◌, ◌++◌, refl, sym, ap, ◌∙◌, arith, eq-eqb, nat_eq, decimal}
use Rattle.std.proofs.Common.{suc, ◌-◌, ◌≤◌, length, get_or, take, drop, take-append-drop, drop-cons, add-one, length-take, length-drop}
use Rattle.std.proofs.lemmas.Bool.{false≢true, false_from_ne_true, eqb-true, or_parts}
use Rattle.std.proofs.lemmas.List.{take_all, get_or-take}
use Rattle.std.proofs.lemmas.Str.Parse.{digit_at}
use Rattle.std.proofs.lemmas.Fmt.{decimal_is_IsNumeral}
use Rattle.line_words.specs.Bytes.{has_byte}

-- a byte that the list lacks stands not at its front
not_first : (m x : ℕ) (xs : List ℕ) → has_byte m (x ∷ xs) ≡ false → m ≡ x → ⊥
not_first m x xs h e = false≢true (sym (or_parts (nat_eq x m) (has_byte m xs) h).0 ∙ eq-eqb x m (sym e))

pub parted_once : (m : ℕ) (xs ys : List ℕ) {r s : List ℕ} → has_byte m xs ≡ false → has_byte m ys ≡ false → xs ++ m ∷ r ≡ ys ++ m ∷ s → (xs ≡ ys) × (r ≡ s)
parted_once m [] [] h g e = (refl, cc)
parted_once m [] (y ∷ ys) h g e = let same : m ≡ y = cc in absurd (not_first m y ys g same)
parted_once m (x ∷ xs) [] h g e = let same : m ≡ x = cc in absurd (not_first m x xs h same)
parted_once m (x ∷ xs) (y ∷ ys) {r} {s} h g e =
    let tails : xs ++ m ∷ r ≡ ys ++ m ∷ s = cc in
    let more = parted_once m xs ys (or_parts (nat_eq x m) _ h).1 (or_parts (nat_eq y m) _ g).1 tails in
    let heads : x ≡ y = cc in
    (ap (λ l. x ∷ l) more.0 ∙ ap (λ z. z ∷ ys) heads, more.1)

pub never_parted : (m : ℕ) (xs ys r : List ℕ) → has_byte m xs ≡ false → xs ≡ ys ++ m ∷ r → ⊥
never_parted m [] [] r h e = cc
never_parted m [] (y ∷ ys) r h e = cc
never_parted m (x ∷ xs) [] r h e = let same : m ≡ x = cc in not_first m x xs h same
never_parted m (x ∷ xs) (y ∷ ys) r h e = never_parted m xs ys r (or_parts (nat_eq x m) _ h).1 cc

-- the parts round a place where the byte stands
pub parts_round : (m at : ℕ) (xs : List ℕ) → at < length xs → nat_eq (get_or xs at 0) m ≡ true → xs ≡ take at xs ++ m ∷ take (length xs - (at + 1)) (drop (at + 1) xs)
parts_round m at xs h e =
    let is : get_or xs at 0 ≡ m = grind arith in
    let all : take (length xs - (at + 1)) (drop (at + 1) xs) ≡ drop (at + 1) xs = take_all _ _ (omega (arith, length-drop (at + 1) xs)) in
    rw (all, add-one) (sym (take-append-drop at xs) ∙ ap (λ l. take at xs ++ l) (drop-cons xs at 0 h ∙ ap (λ y. y ∷ drop (suc at) xs) is))

lacks : (m : ℕ) (xs : List ℕ) → ((k : ℕ) → k < length xs → nat_eq (get_or xs k 0) m ≡ true → ⊥) → has_byte m xs ≡ false
lacks m [] none = refl
lacks m (x ∷ xs) none =
    let rest = lacks m xs (λ k small is. none (suc k) (omega arith) is) in
    let here : nat_eq x m ≡ false = false_from_ne_true _ (none 0 (omega arith)) in
    ap (λ b. b || has_byte m xs) here ∙ rest

pub lacks_below : (m n : ℕ) (xs : List ℕ) → n ≤ length xs → ((k : ℕ) → 0 ≤ k → k < n → nat_eq (get_or xs k 0) m ≡ true → ⊥) → has_byte m (take n xs) ≡ false
lacks_below m n xs h none =
    lacks m (take n xs) (λ k small is.
    let below : k < n = omega (arith, length-take n xs) in
    none k (omega arith) below (sym (ap (λ x. nat_eq x m) (get_or-take n xs k 0 below)) ∙ is))

pub lacks_all : (m : ℕ) (xs : List ℕ) → ((k : ℕ) → 0 ≤ k → k < length xs → nat_eq (get_or xs k 0) m ≡ true → ⊥) → has_byte m xs ≡ false
lacks_all m xs none = lacks m xs (λ k small is. none k (omega arith) small is)

-- digits lack each byte that is none
lacks_others : (m n : ℕ) → ((d : ℕ) → 48 ≤ d → d ≤ 57 → d ≡ m → ⊥) → n < 2 ^ 64 → has_byte m (decimal n) ≡ false
lacks_others m n other small =
    let digits = (decimal_is_IsNumeral n small).0 in
    lacks m (decimal n) (λ k at is.
    let digit = digit_at (decimal n) k digits.1 at in
    other (get_or (decimal n) k 0) (omega (arith, digit.0)) (omega (arith, digit.1)) (eqb-true (get_or (decimal n) k 0) m is))

-- such as each byte before `0`
pub lacks_digits : (m n : ℕ) → m < 48 → n < 2 ^ 64 → has_byte m (decimal n) ≡ false
lacks_digits m n low small = lacks_others m n (λ d least most same. omega (arith, least, same)) small

-- and a colon
pub lacks_colon : (n : ℕ) → n < 2 ^ 64 → has_byte 58 (decimal n) ≡ false
lacks_colon n small = lacks_others 58 n (λ d least most same. omega (arith, most, same)) small

-- two lists that lack a byte lack it joined
pub lacks-append : (m : ℕ) (xs ys : List ℕ) → has_byte m xs ≡ false → has_byte m ys ≡ false → has_byte m (xs ++ ys) ≡ false
lacks-append m [] ys h g = g
lacks-append m (x ∷ xs) ys h g =
    let rest = lacks-append m xs ys (or_parts (nat_eq x m) _ h).1 g in
    ap (λ b. b || has_byte m (xs ++ ys)) (or_parts (nat_eq x m) _ h).0 ∙ rest

-- a list with the length 0
pub nothing_left : (xs : List ℕ) → nat_eq (length xs) 0 ≡ true → xs ≡ []
nothing_left [] h = refl
nothing_left (x ∷ xs) h = absurd (omega (arith, eqb-true _ _ h))

-- What is due to a client, piece by piece: nothing where it gets no bytes.
use Rattle.std.proofs.Common.{◌≡◌, ◌⊎◌, inl, inr, ℕ, ◌+◌, ◌-◌, ◌^◌, ◌≤◌, ◌<◌, List, [], ◌∷◌, ◌++◌, length, refl, sym, ap, ◌∙◌, true, false, arith, length-append}
use Rattle.std.specs.Prelude.{if◌then◌else◌}
use Rattle.std.proofs.lemmas.Bool.{leb-true}
use Rattle.line_words.specs.Table.{ByNumber, same_number}
use Rattle.lobby_model.proofs.Delivered.{same_itself}
use Rattle.lobby_post.specs.Dues.{counted, copied, shared_bytes_in, count_for, due_and, due_but, is_long, shared_pieces_in, Covers, nothing_due}
use Rattle.lobby_post.specs.Mail.{bytes_for, due_for}
use Rattle.lobby_post.proofs.Parcels.{more_due, other_piece, own_piece}

module _ (count : ℕ → ℕ) where
  count_other : (c : ℕ) (bytes : List ℕ) (rest : ByNumber (List ℕ)) (d : ℕ) → same_number d c ≡ false → count_for count rest d
      ≡ count_for count ((c, bytes) ∷ rest) d
  count_other c bytes rest d e = sym (ap (λ b. if b then count (length bytes) + count_for count rest d else count_for count rest d) e)

  count_own : (c : ℕ) (bytes : List ℕ) (rest : ByNumber (List ℕ)) → count_for count ((c, bytes) ∷ rest) c
      ≡ count (length bytes) + count_for count rest c
  count_own c bytes rest = ap (λ b. if b then count (length bytes) + count_for count rest c else count_for count rest c) (same_itself c)

  count_more : (done : ByNumber (List ℕ)) (c : ℕ) (bytes : List ℕ) (q : ℕ) → count_for count (done ++ (c, bytes) ∷ []) q
      ≡ (if same_number q c then count_for count done q + count (length bytes) else count_for count done q)
  count_more [] c bytes q =
      elim (same_number q c) as (λ b. (if b then count (length bytes) + 0 else 0) ≡ (if b then 0 + count (length bytes) else 0)) [
        | true ↦ omega arith
        | false ↦ refl
      ]
  count_more (p ∷ done) c bytes q =
      elim (same_number q p.0) as (λ b. (if b then count (length p.1) + count_for count (done ++ (c, bytes) ∷ []) q else count_for count (done ++ (c, bytes) ∷ []) q)
      ≡ (if same_number q c then (if b then count (length p.1) + count_for count done q else count_for count done q) + count (length bytes)
      else (if b then count (length p.1) + count_for count done q else count_for count done q))) [
        | true ↦ elim (same_number q c) as (λ b. count_for count (done ++ (c, bytes) ∷ []) q
            ≡ (if b then count_for count done q + count (length bytes) else count_for count done q)
            → count (length p.1) + count_for count (done ++ (c, bytes) ∷ []) q
            ≡ (if b then (count (length p.1) + count_for count done q) + count (length bytes) else count (length p.1) + count_for count done q)) [
              | true ↦ λ h. omega (arith, h)
              | false ↦ λ h. omega (arith, h)
            ] (count_more done c bytes q)
        | false ↦ count_more done c bytes q
      ]

few_shared : (n : ℕ) → shared_bytes_in n ≤ n
few_shared n = elim (is_long n) as (λ b. (if b then n else 0) ≤ n) [ true ↦ omega arith | false ↦ omega arith ]

few_pieces : (n : ℕ) → shared_pieces_in n ≤ n
few_pieces n = elim (is_long n) as (λ b. is_long n ≡ b → (if b then 1 else 0) ≤ n) [
  | true ↦ λ t. let long : 2048 ≤ n = leb-true 2048 n t in omega (arith, long)
  | false ↦ λ t. omega arith
] refl

-- what is counted never passes the count itself, and is it where it is no more than the most
pub counted_again : (a n : ℕ) → counted (counted a + n) ≡ counted (a + n)
counted_again a n = omega arith

pub counted_less : (a : ℕ) → counted a ≤ a
counted_less a = omega arith

pub pieces_within : (pieces : ByNumber (List ℕ)) (d : ℕ) → count_for shared_pieces_in pieces d ≤ length (bytes_for pieces d)
pieces_within [] d = omega arith
pieces_within (p ∷ pieces) d =
    elim (same_number d p.0) as (λ b. (if b then shared_pieces_in (length p.1) + count_for shared_pieces_in pieces d else count_for shared_pieces_in pieces d)
    ≤ length (if b then p.1 ++ bytes_for pieces d else bytes_for pieces d)) [
      | true ↦
          let long = length-append p.1 (bytes_for pieces d) in
          let here = few_pieces (length p.1) in
          let rest = pieces_within pieces d in
          omega (arith, long, here, rest)
      | false ↦ pieces_within pieces d
    ]

pub shared_within : (pieces : ByNumber (List ℕ)) (d : ℕ) → count_for shared_bytes_in pieces d ≤ length (bytes_for pieces d)
shared_within [] d = omega arith
shared_within (p ∷ pieces) d =
    elim (same_number d p.0) as (λ b. (if b then shared_bytes_in (length p.1) + count_for shared_bytes_in pieces d else count_for shared_bytes_in pieces d)
    ≤ length (if b then p.1 ++ bytes_for pieces d else bytes_for pieces d)) [
      | true ↦
          let long = length-append p.1 (bytes_for pieces d) in
          let here = few_shared (length p.1) in
          let rest = shared_within pieces d in
          omega (arith, long, here, rest)
      | false ↦ shared_within pieces d
    ]

-- the piece begins a list of pieces
module _ (c : ℕ) (bytes : List ℕ) (rest : ByNumber (List ℕ)) where
  pub due_other : (q : ℕ) → same_number q c ≡ false → due_for ((c, bytes) ∷ rest) q ≡ due_for rest q
  due_other q e = λ i. record {
    bytes = counted (length (sym (other_piece c bytes rest q e) i));
    shared_bytes = counted (sym (count_other shared_bytes_in c bytes rest q e) i);
    shared_pieces = counted (sym (count_other shared_pieces_in c bytes rest q e) i);
  }

  long : length (bytes_for ((c, bytes) ∷ rest) c) ≡ length bytes + length (bytes_for rest c)
  long = ap length (own_piece c bytes rest) ∙ length-append bytes (bytes_for rest c)

  -- where all is counted, the piece is part of it
  pub due_covers : (due_for ((c, bytes) ∷ rest) c).bytes < 2 ^ 32 - 1 → Covers (due_for ((c, bytes) ∷ rest) c) (length bytes)
  due_covers few =
      let l = long in
      let k = count_own shared_bytes_in c bytes rest in
      let s = count_own shared_pieces_in c bytes rest in
      let all = shared_within ((c, bytes) ∷ rest) c in
      let each = pieces_within ((c, bytes) ∷ rest) c in
      (omega (arith, l, k, few, all, shared_within rest c), omega (arith, k, few, all), omega (arith, s, few, each))

  pub due_left : ((due_for ((c, bytes) ∷ rest) c).bytes < 2 ^ 32 - 1) ⊎ (length bytes ≡ 0)
      → due_but (due_for ((c, bytes) ∷ rest) c) (length bytes) ≡ due_for rest c
  due_left (inl few) =
      let l = long in
      let k = count_own shared_bytes_in c bytes rest in
      let s = count_own shared_pieces_in c bytes rest in
      let all = shared_within ((c, bytes) ∷ rest) c in
      let each = pieces_within ((c, bytes) ∷ rest) c in
      let a : counted (length (bytes_for ((c, bytes) ∷ rest) c)) - length bytes ≡ counted (length (bytes_for rest c)) = omega (arith, l, few) in
      let b : counted (count_for shared_bytes_in ((c, bytes) ∷ rest) c) - shared_bytes_in (length bytes) ≡ counted (count_for shared_bytes_in rest c) =
      omega (arith, k, few, all) in
      let d : counted (count_for shared_pieces_in ((c, bytes) ∷ rest) c) - shared_pieces_in (length bytes) ≡ counted (count_for shared_pieces_in rest c) =
      omega (arith, s, few, each) in
      λ i. record { bytes = a i; shared_bytes = b i; shared_pieces = d i }
  due_left (inr none) =
      let l = long in
      let k = count_own shared_bytes_in c bytes rest in
      let s = count_own shared_pieces_in c bytes rest in
      let no_bytes : shared_bytes_in (length bytes) ≡ 0 = ap shared_bytes_in none in
      let no_piece : shared_pieces_in (length bytes) ≡ 0 = ap shared_pieces_in none in
      let a : counted (length (bytes_for ((c, bytes) ∷ rest) c)) - length bytes ≡ counted (length (bytes_for rest c)) = omega (arith, l, none) in
      let b : counted (count_for shared_bytes_in ((c, bytes) ∷ rest) c) - shared_bytes_in (length bytes) ≡ counted (count_for shared_bytes_in rest c) =
      omega (arith, k, no_bytes) in
      let d : counted (count_for shared_pieces_in ((c, bytes) ∷ rest) c) - shared_pieces_in (length bytes) ≡ counted (count_for shared_pieces_in rest c) =
      omega (arith, s, no_piece) in
      λ i. record { bytes = a i; shared_bytes = b i; shared_pieces = d i }

-- one more piece
module _ (c : ℕ) (bytes : List ℕ) (done : ByNumber (List ℕ)) where
  pub due_grown : due_and (due_for done c) (length bytes) ≡ due_for (done ++ (c, bytes) ∷ []) c
  due_grown =
      let a : length (bytes_for done c) + length bytes ≡ length (bytes_for (done ++ (c, bytes) ∷ []) c) =
      sym (ap length (more_due done c bytes c ∙ ap (λ b. if b then bytes_for done c ++ bytes else bytes_for done c) (same_itself c))
      ∙ length-append (bytes_for done c) bytes) in
      let b = sym (count_more shared_bytes_in done c bytes c
      ∙ ap (λ b. if b then count_for shared_bytes_in done c + shared_bytes_in (length bytes) else count_for shared_bytes_in done c) (same_itself c)) in
      let d = sym (count_more shared_pieces_in done c bytes c
      ∙ ap (λ b. if b then count_for shared_pieces_in done c + shared_pieces_in (length bytes) else count_for shared_pieces_in done c) (same_itself c)) in
      let e = counted_again (length (bytes_for done c)) (length bytes) ∙ ap counted a in
      let f = counted_again (count_for shared_bytes_in done c) (shared_bytes_in (length bytes)) ∙ ap counted b in
      let g = counted_again (count_for shared_pieces_in done c) (shared_pieces_in (length bytes)) ∙ ap counted d in
      λ i. record { bytes = e i; shared_bytes = f i; shared_pieces = g i }

  pub due_same : (q : ℕ) → same_number q c ≡ false → due_for done q ≡ due_for (done ++ (c, bytes) ∷ []) q
  due_same q e = λ i. record {
    bytes = counted (length (sym (more_due done c bytes q ∙ ap (λ b. if b then bytes_for done q ++ bytes else bytes_for done q) e) i));
    shared_bytes = counted (sym (count_more shared_bytes_in done c bytes q
        ∙ ap (λ b. if b then count_for shared_bytes_in done q + shared_bytes_in (length bytes) else count_for shared_bytes_in done q) e) i);
    shared_pieces = counted (sym (count_more shared_pieces_in done c bytes q
        ∙ ap (λ b. if b then count_for shared_pieces_in done q + shared_pieces_in (length bytes) else count_for shared_pieces_in done q) e) i);
  }

-- pieces behind others
module _ (count : ℕ → ℕ) where
  pub count_front : (front back : ByNumber (List ℕ)) (d : ℕ) → count_for count front d ≤ count_for count (front ++ back) d
  count_front [] back d = omega arith
  count_front (p ∷ front) back d =
      elim (same_number d p.0) as (λ b. (if b then count (length p.1) + count_for count front d else count_for count front d)
      ≤ (if b then count (length p.1) + count_for count (front ++ back) d else count_for count (front ++ back) d)) [
        | true ↦ let h = count_front front back d in omega (arith, h)
        | false ↦ count_front front back d
      ]

pub bytes_front : (front back : ByNumber (List ℕ)) (d : ℕ) → length (bytes_for front d) ≤ length (bytes_for (front ++ back) d)
bytes_front [] back d = omega arith
bytes_front (p ∷ front) back d =
    elim (same_number d p.0) as (λ b. length (if b then p.1 ++ bytes_for front d else bytes_for front d)
    ≤ length (if b then p.1 ++ bytes_for (front ++ back) d else bytes_for (front ++ back) d)) [
      | true ↦
          let h = bytes_front front back d in
          let a = length-append p.1 (bytes_for front d) in
          let b = length-append p.1 (bytes_for (front ++ back) d) in
          omega (arith, h, a, b)
      | false ↦ bytes_front front back d
    ]

-- what is copied is no more than all
pub copied_within : (pieces : ByNumber (List ℕ)) (d : ℕ) → copied (due_for pieces d) ≤ length (bytes_for pieces d)
copied_within pieces d = omega arith

module _ (count : ℕ → ℕ) where
  count_none : count 0 ≡ 0 → (pieces : ByNumber (List ℕ)) (d : ℕ) → length (bytes_for pieces d) ≡ 0 → count_for count pieces d ≡ 0
  count_none zero [] d none = refl
  count_none zero (p ∷ pieces) d none =
      elim (same_number d p.0) as (λ b. length (if b then p.1 ++ bytes_for pieces d else bytes_for pieces d) ≡ 0
      → (if b then count (length p.1) + count_for count pieces d else count_for count pieces d) ≡ 0) [
        | true ↦ λ t.
            let long = length-append p.1 (bytes_for pieces d) in
            let first : length p.1 ≡ 0 = omega (arith, t, long) in
            let rest : length (bytes_for pieces d) ≡ 0 = omega (arith, t, long) in
            let none_here : count (length p.1) ≡ 0 = ap count first ∙ zero in
            let none_left = count_none zero pieces d rest in
            omega (arith, none_here, none_left)
        | false ↦ λ t. count_none zero pieces d t
      ] none

-- no bytes, nothing due
pub none_due : (pieces : ByNumber (List ℕ)) (d : ℕ) → bytes_for pieces d ≡ [] → nothing_due ≡ due_for pieces d
none_due pieces d none = λ i. record {
  bytes = counted (length (sym none i));
  shared_bytes = counted (sym (count_none shared_bytes_in refl pieces d (ap length none)) i);
  shared_pieces = counted (sym (count_none shared_pieces_in refl pieces d (ap length none)) i);
}

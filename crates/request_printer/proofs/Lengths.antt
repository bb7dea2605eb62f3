-- An argument is written no longer than it is read.
use Rattle.std.proofs.Common.{◌≡◌, ℕ, zero, suc, ◌+◌, ◌^◌, ◌<◌, ◌≤◌, List, [], ◌∷◌, length, length-append, refl, sym}
use Rattle.std.proofs.Common.{ap, subst, Bool, true, false, inl, inr, arith}
use Rattle.std.specs.Prelude.{ℤ, pos, negsuc, neg_ℤ, ◌≤ℤ◌, ◌⊎◌, ◌==◌, ◌&&◌, nat_le, decimal, IsTrue, Some, None, sum_by}
use Rattle.std.specs.Fmt.{signed_decimal}
use Rattle.std.proofs.Math.Nat.{pow-le-pow_right}
use Rattle.std.proofs.lemmas.Bool.{and_parts, leb-true}
use Rattle.std.proofs.lemmas.Fmt.{decimal_nonempty, length-decimal-le}
use Rattle.std.proofs.lemmas.Int.{ints}
use Rattle.std.proofs.lemmas.Int.Digits.{digits_value-lt}
use Rattle.std.proofs.lemmas.List.Sums.{sum_by-cons}
use Rattle.line_words.specs.Bytes.{is_text}
use Rattle.line_words.specs.Numbers.{IsNumeral, is_digits, value_of}
use Rattle.line_words.specs.Parts.{before, from}
use Rattle.line_words.specs.declared.lists.Pair.{Pair}
use Rattle.line_words.proofs.Splitting.{before-from}
use Rattle.command_grammar.specs.declared.command.ReadFault.TheVariants as fault
use Rattle.command_grammar.specs.declared.command.Command.{Command}
use Rattle.command_grammar.specs.Arguments.{IsFault, Number, Natural, flagged, has_flag}
use Rattle.command_grammar.specs.Forms.{Argument}
use Rattle.command_grammar.specs.Sizes.{size, pair_size}
use Rattle.command_grammar.specs.Table as kind
use Rattle.command_grammar.specs.Table.{Kind, Value}
use Rattle.command_grammar.proofs.Taken.{IsUnread, Taken, taken, unless_unread}
use Rattle.reply_kinds.specs.Kinds.{words_text, pair_text, pairs_text}
use Rattle.reply_kinds.proofs.Decimals.{all_digits, own}
use Rattle.request_printer.specs.Writing.{written}

-- an argument that was read, and what is left behind it
pub record KindRead (k : Kind) (K : Value k → List ℕ → Command → Type 0) (rest : List ℕ) (c : Command) : Type 0 where
  pub value : Value k
  pub behind : List ℕ
  pub next : K value behind c
  pub text : IsTrue (is_text behind)
  pub room : (separator : ℕ) → length (written separator k value) + length behind ≤ length rest

-- Numbers

pub digits_length : (ds : List ℕ) → is_digits ds ≡ true → length (decimal (value_of ds)) ≤ length ds
digits_length ds h =
    let p = and_parts (nat_le 1 (length ds) && nat_le (length ds) 10) (all_digits ds) h in
    let q = and_parts (nat_le 1 (length ds)) (nat_le (length ds) 10) p.0 in
    let some = leb-true 1 (length ds) q.0 in
    let short = leb-true (length ds) 10 q.1 in
    let digits = own.to ds p.1 in
    let ten : 0 < 10 = omega arith in
    let below : value_of ds < 10 ^ length ds = omega (arith, own.same ds digits, digits_value-lt 10 ds digits) in
    let small : value_of ds < 2 ^ 64 = omega (arith, pow-le-pow_right {n = 10} ten {i = length ds} {j = 10} short) in
    length-decimal-le (length ds) (value_of ds) some below small

negative_length : (n m : ℕ) → length (decimal n) ≤ m → n < 2 ^ 64 → 0 < m
    → length (signed_decimal (neg_ℤ (pos n))) ≤ suc m
negative_length zero m h small some = omega arith
negative_length (suc n) m h small some = omega arith

numeral_length : (w : List ℕ) (z : ℤ) → IsNumeral w z → length (signed_decimal z) ≤ length w
numeral_length [] z h = absurd h
numeral_length (b ∷ bs) z (inl h) =
    subst (λ y. length (signed_decimal y) ≤ length (b ∷ bs)) (sym h.1) (digits_length (b ∷ bs) h.0)
numeral_length (b ∷ bs) z (inr h) =
    subst (λ y. length (signed_decimal y) ≤ length (b ∷ bs)) (sym h.2)
    (negative (value_of bs) (digits_length bs h.1) (some bs h.1))
  where
    some : (ds : List ℕ) → is_digits ds ≡ true → 0 < length ds
    some [] h = absurd (let n : ⊥ = cc in n)
    some (x ∷ ds) h = omega arith

    negative : (n : ℕ) → length (decimal n) ≤ length bs → 0 < length bs
        → length (signed_decimal (neg_ℤ (pos n))) ≤ length (b ∷ bs)
    negative zero h some = omega arith
    negative (suc n) h some = omega arith

record NumberRead (low high : ℤ) (K : ℤ → List ℕ → Command → Type 0) (rest : List ℕ) (c : Command) : Type 0 where
  number : ℤ
  behind : List ℕ
  next : K number behind c
  high_fits : number ≤ℤ high
  text : IsTrue (is_text behind)
  room : 1 + length (signed_decimal number) + length behind ≤ length rest

abbrev NumberWord : ℤ → ℤ → (ℤ → List ℕ → Command → Type 0) → List ℕ → List ℕ → Command → Type 0
NumberWord low high K word behind c =
    ((z : ℤ) × IsNumeral word z × (low ≤ℤ z) × (z ≤ℤ high) × K z behind c)
    ⊎ (((z : ℤ) → IsNumeral word z → low ≤ℤ z → z ≤ℤ high → ⊥) × IsFault fault.BadNumber c)

number_read : (low high : ℤ) (K : ℤ → List ℕ → Command → Type 0) (rest : List ℕ) (c : Command) → IsTrue (is_text rest)
    → Number low high K rest c → IsUnread c ⊎ NumberRead low high K rest c
number_read low high K rest c h m =
    unless_unread (taken kind.Word (NumberWord low high K) rest c h m) (λ t. by t t.next)
  where
    by : (t : Taken kind.Word (NumberWord low high K) rest c) → NumberWord low high K t.value t.behind c
        → IsUnread c ⊎ NumberRead low high K rest c
    by t (inl x) =
        inr (record {
          number = x.0;
          behind = t.behind;
          next = x.4;
          high_fits = x.3;
          text = t.text;
          room = let r = t.room in let s = numeral_length t.value x.0 x.1 in omega arith;
        })
    by t (inr x) = inl (_, x.1)

record NaturalRead (high : ℕ) (K : ℕ → List ℕ → Command → Type 0) (rest : List ℕ) (c : Command) : Type 0 where
  number : ℕ
  behind : List ℕ
  next : K number behind c
  fits : number ≤ high
  text : IsTrue (is_text behind)
  room : 1 + length (decimal number) + length behind ≤ length rest

natural_read : (high : ℕ) (K : ℕ → List ℕ → Command → Type 0) (rest : List ℕ) (c : Command) → IsTrue (is_text rest)
    → Natural high K rest c → IsUnread c ⊎ NaturalRead high K rest c
natural_read high K rest c h m =
    unless_unread (number_read (pos 0) (pos high) (λ z behind c. (n : ℕ) × (z ≡ pos n) × K n behind c) rest c h m) λ t.
    inr (record {
      number = t.next.0;
      behind = t.behind;
      next = t.next.2;
      fits = (let k : pos t.next.0 ≤ℤ pos high = subst (λ y. y ≤ℤ pos high) t.next.1 t.high_fits in
          omega (arith, ints));
      text = t.text;
      room = subst (λ y. 1 + length (signed_decimal y) + length t.behind ≤ length rest) t.next.1 t.room;
    })

-- Lists

words_length : (ws : List (List ℕ)) → length (words_text ws) ≡ sum_by size ws
words_length [] = refl
words_length (w ∷ ws) =
    let rest = words_length ws in omega (arith, length-append w (words_text ws), sum_by-cons size w ws)

pairs_length : (separator : ℕ) (ps : List Pair) → length (pairs_text separator ps) ≡ sum_by pair_size ps
pairs_length separator [] = refl
pairs_length separator (p ∷ ps) =
    let rest = pairs_length 9 ps in
    omega (
      arith,
      length-append (pair_text p) (pairs_text 9 ps),
      length-append p.key (61 ∷ p.value),
      sum_by-cons
          pair_size p ps,
    )

-- Flags

flags_length : (b : Bool) (text : List ℕ) → b ≡ flagged (from 9 text) → (separator : ℕ)
    → length (written separator kind.LoginFlags b) ≤ 1 + length text
flags_length false text is separator = omega arith
flags_length true text is separator =
    let whole = ap length (before-from 9 text) in
    let some = behind (from 9 text) is in omega (arith, length-append (before 9 text) (from 9 text))
  where
    front : (t : List ℕ) → true ≡ has_flag (before 9 t) → 0 < length t
    front [] e = absurd (let n : ⊥ = cc in n)
    front (x ∷ t) e = omega arith

    behind : (t : List ℕ) → true ≡ flagged t → 1 < length t
    behind [] e = absurd (let n : ⊥ = cc in n)
    behind (x ∷ t) e = let some = front t e in omega arith

-- Any kind but an optional word

abbrev pub is_other : Kind → Bool
is_other kind.OptionalWord = false
is_other k = true

pub kind_read : (k : Kind) (K : Value k → List ℕ → Command → Type 0) (rest : List ℕ) (c : Command) → is_other k ≡ true
    → IsTrue (is_text rest) → Argument k K rest c → IsUnread c ⊎ KindRead k K rest c
kind_read kind.OptionalWord K rest c other h m = absurd (let n : ⊥ = cc in n)
kind_read kind.Word K rest c other h m =
    unless_unread (taken kind.Word K rest c h m) λ t. inr (record {
      value = t.value;
      behind = t.behind;
      next = t.next;
      text = t.text;
      room = λ separator. let r = t.room in omega arith;
    })
kind_read kind.Name K rest c other h m =
    unless_unread (taken kind.Name K rest c h m) λ t. inr (record {
      value = t.value;
      behind = t.behind;
      next = t.next;
      text = t.text;
      room = λ separator. let r = t.room in omega arith;
    })
kind_read (kind.Natural high) K rest c other h m =
    unless_unread (natural_read high K rest c h m) λ t. inr (record {
      value = t.number;
      behind = t.behind;
      next = t.next;
      text = t.text;
      room = λ separator. let r = t.room in omega arith;
    })
kind_read kind.Wide K rest c other h m =
    unless_unread (number_read (negsuc 2147483647) (pos 4294967295) K rest c h m) λ t. inr (record {
      value = t.number;
      behind = t.behind;
      next = t.next;
      text = t.text;
      room = λ separator. let r = t.room in omega arith;
    })
kind_read kind.Flag K rest c other h m = unless_unread (natural_read 1 (λ n. K (n == 1)) rest c h m) λ t. inr (record {
  value = t.number == 1;
  behind = t.behind;
  next = t.next;
  text = t.text;
  room = λ separator. let r = t.room in let f = t.fits in
      let some : 0 < length (decimal t.number) = decimal_nonempty t.number (omega arith) in omega arith;
})
kind_read kind.Sentence K rest c other h m =
    unless_unread (taken kind.Sentence K rest c h m) λ t. inr (record {
      value = t.value;
      behind = t.behind;
      next = t.next;
      text = t.text;
      room = λ separator. let r = t.room in omega arith;
    })
kind_read kind.Text K rest c other h m =
    unless_unread (taken kind.Text K rest c h m) λ t. inr (record {
      value = t.value;
      behind = t.behind;
      next = t.next;
      text = t.text;
      room = λ separator. let r = t.room in omega arith;
    })
kind_read kind.OptionalText K [] c other h m =
    inr (record { value = None; behind = []; next = m; text = refl; room = λ separator. omega arith })
kind_read kind.OptionalText K (space ∷ text) c other h m =
    inr (record { value = Some text; behind = []; next = m; text = refl; room = λ separator. omega arith })
kind_read kind.LoginFlags K [] c other h m =
    inr (record { value = false; behind = []; next = m; text = refl; room = λ separator. omega arith })
kind_read kind.LoginFlags K (tab ∷ text) c other h m =
    inr (record {
      value = flagged (from 9 text);
      behind = [];
      next = m;
      text = refl;
      room = λ separator. let l = flags_length (flagged (from 9 text)) text refl separator in omega arith;
    })
kind_read kind.Pairs K rest c other h m =
    unless_unread (taken kind.Pairs K rest c h m) λ t. inr (record {
      value = t.value;
      behind = t.behind;
      next = t.next;
      text = t.text;
      room = λ separator. let r = t.room in let l = pairs_length 32 t.value in omega arith;
    })
kind_read kind.Words K rest c other h m =
    unless_unread (taken kind.Words K rest c h m) λ t. inr (record {
      value = t.value;
      behind = t.behind;
      next = t.next;
      text = t.text;
      room = λ separator. let r = t.room in let l = words_length t.value in omega arith;
    })

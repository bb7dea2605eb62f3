-- An argument of each kind reads back as it is written.
use Rattle.std.proofs.Common.{◌≡◌, ℕ, ◌+◌, ◌<◌, List, [], ◌∷◌, ◌++◌, length, refl, sym, ap, subst, ◌∙◌, Bool, true}
use Rattle.std.proofs.Common.{false, cond, inl, inr, arith, map}
use Rattle.std.specs.Prelude.{ℤ, pos, ◌≤ℤ◌, ◌⊎◌, ◌==◌, ◌&&◌, not, nat_le, decimal, MatchBool, Option, Some}
use Rattle.std.specs.Fmt.{signed_decimal}
use Rattle.std.specs.List.{list_all, list_any}
use Rattle.std.proofs.lemmas.Bool.{and_parts, and_from, leb-true}
use Rattle.std.proofs.lemmas.Fmt.{decimal_digit}
use Rattle.std.proofs.lemmas.Int.{ints}
use Rattle.line_words.specs.Bytes.{has_byte, is_key, is_name, is_name_byte, is_sentence, is_sentence_byte}
use Rattle.line_words.specs.Bytes.{is_word, is_word_byte}
use Rattle.line_words.specs.Kinds.{is_pair, is_wide}
use Rattle.line_words.specs.Numbers.{IsNumeral}
use Rattle.line_words.specs.Parts.{from, between, tails, Ends}
use Rattle.line_words.specs.Words.{EndsWord, NextWord}
use Rattle.line_words.specs.declared.lists.Pair.{Pair}
use Rattle.line_words.proofs.Splitting.{lacks, before-append, from-append, between-cons}
use Rattle.command_grammar.specs.declared.command.ReadFault.TheVariants as fault
use Rattle.command_grammar.specs.declared.command.Command.{Command}
use Rattle.command_grammar.specs.Arguments.{IsFault, Word, OptionalWord, Name, Number, Natural, Wide, Flag, Sentence}
use Rattle.command_grammar.specs.Arguments.{PairsIn, AtLeastOne, Pairs, AreWords, Words}
use Rattle.command_grammar.specs.Kinds.{are_some}
use Rattle.reply_kinds.specs.Kinds.{words_text, pair_text, pairs_text}
use Rattle.reply_kinds.proofs.Bytes.{all_more, word_name, pair_sentence}
use Rattle.request_printer.proofs.Numbers.{decimal_word, decimal_numeral, signed_word, signed_numeral, wide_low}
use Rattle.request_printer.proofs.Numbers.{wide_high}

-- Words

-- a byte that the test refuses is in no list that passes it
pub absent : (test : ℕ → Bool) (stop : ℕ) (w : List ℕ) → test stop ≡ false → list_all test w ≡ true
    → has_byte stop w ≡ false
absent test stop [] lacking h = refl
absent test stop (b ∷ w) lacking h =
    let p = and_parts (test b) (list_all test w) h in
    rw (lacks test stop b lacking p.0) (absent test stop w lacking p.1)

pub next_word : (w more : List ℕ) → is_word w ≡ true → EndsWord more → NextWord (32 ∷ (w ++ more)) w more
next_word w more fit ends =
    let p = and_parts (nat_le 1 (length w)) (list_all is_word_byte w) fit in
    record {
      gap = 32 ∷ [];
      whole = refl;
      spaces = refl;
      some_space = omega arith;
      no_space = ap not (absent is_word_byte 32 w refl p.1);
      some_byte = (let some = leb-true 1 (length w) p.0 in omega arith);
      ends = ends;
    }

no_tab : (w : List ℕ) → is_word w ≡ true → has_byte 9 w ≡ false
no_tab w fit = absent is_word_byte 9 w refl (and_parts (nat_le 1 (length w)) (list_all is_word_byte w) fit).1

unless_tab : (w : List ℕ) (c : Command) (P : Type 0) → is_word w ≡ true → P
    → MatchBool (has_byte 9 w) (IsFault fault.BadByte c) P
unless_tab w c P fit h = subst (λ t. MatchBool t (IsFault fault.BadByte c) P) (sym (no_tab w fit)) h

pub word_back : (K : List ℕ → List ℕ → Command → Type 0) (w more : List ℕ) (c : Command) → is_word w ≡ true
    → EndsWord more → K w more c → Word K (32 ∷ (w ++ more)) c
word_back K w more c fit ends h = inr (w, more, next_word w more fit ends, unless_tab w c (K w more c) fit h)

pub optional_back : (K : Option (List ℕ) → List ℕ → Command → Type 0) (w more : List ℕ) (c : Command) → is_word w ≡ true
    → EndsWord more → K (Some w) more c → OptionalWord K (32 ∷ (w ++ more)) c
optional_back K w more c fit ends h = inr (w, more, next_word w more fit ends, unless_tab w c (K (Some w) more c) fit h)

name_word : (w : List ℕ) → is_name w ≡ true → is_word w ≡ true
name_word w fit =
    let p = and_parts (nat_le 1 (length w) && nat_le (length w) 20) (list_all is_name_byte w) fit in
    let q = and_parts (nat_le 1 (length w)) (nat_le (length w) 20) p.0 in
    and_from (nat_le 1 (length w)) (list_all is_word_byte w) q.0 (all_more is_name_byte is_word_byte word_name w p.1)

pub name_back : (K : List ℕ → List ℕ → Command → Type 0) (w more : List ℕ) (c : Command) → is_name w ≡ true
    → EndsWord more → K w more c → Name K (32 ∷ (w ++ more)) c
name_back K w more c fit ends h =
    word_back (λ word behind d. MatchBool (is_name word) (K word behind d) (IsFault fault.BadName d)) w more c
    (name_word w fit) ends (subst (λ t. MatchBool t (K w more c) (IsFault fault.BadName c)) (sym fit) h)

-- Numbers

abbrev NumberWord : ℤ → ℤ → (ℤ → List ℕ → Command → Type 0) → List ℕ → List ℕ → Command → Type 0
NumberWord low high K word behind c =
    ((z : ℤ) × IsNumeral word z × (low ≤ℤ z) × (z ≤ℤ high) × K z behind c)
    ⊎ (((z : ℤ) → IsNumeral word z → low ≤ℤ z → z ≤ℤ high → ⊥) × IsFault fault.BadNumber c)

number_back : (low high : ℤ) (K : ℤ → List ℕ → Command → Type 0) (w more : List ℕ) (z : ℤ) (c : Command)
    → is_word w ≡ true → EndsWord more → IsNumeral w z → low ≤ℤ z → z ≤ℤ high → K z more c
    → Number low high K (32 ∷ (w ++ more)) c
number_back low high K w more z c fit ends n l h k =
    let one : NumberWord low high K w more c = inl (z, n, l, h, k) in
    word_back (NumberWord low high K) w more c fit ends one

pub natural_back : (high : ℕ) (K : ℕ → List ℕ → Command → Type 0) (n : ℕ) (more : List ℕ) (c : Command)
    → nat_le high 4294967295 ≡ true → nat_le n high ≡ true → EndsWord more → K n more c
    → Natural high K (32 ∷ (decimal n ++ more)) c
natural_back high K n more c top fit ends h =
    let bound = leb-true high 4294967295 top in
    let below = leb-true n high fit in
    let small : n < 10000000000 = omega arith in
    number_back (pos 0) (pos high) (λ z behind c. (m : ℕ) × (z ≡ pos m) × K m behind c) (decimal n) more (pos n) c
    (decimal_word n small) ends (decimal_numeral n small) (omega (arith, ints)) (omega (arith, ints)) (n, refl, h)

pub wide_back : (K : ℤ → List ℕ → Command → Type 0) (z : ℤ) (more : List ℕ) (c : Command) → is_wide z ≡ true
    → EndsWord more → K z more c → Wide K (32 ∷ (signed_decimal z ++ more)) c
wide_back K z more c fit ends h =
    number_back _ _ K (signed_decimal z) more z c (signed_word z fit) ends (signed_numeral z fit) (wide_low z fit)
    (wide_high z fit) h

flag_digit : (K : Bool → List ℕ → Command → Type 0) (n : ℕ) (more : List ℕ) (c : Command) → nat_le n 1 ≡ true → n < 10
    → EndsWord more → K (n == 1) more c → Flag K (32 ∷ ((48 + n) ∷ more)) c
flag_digit K n more c fit small ends h =
    subst (λ (d : List ℕ). Flag K (32 ∷ (d ++ more)) c) (decimal_digit n small)
    (natural_back 1 (λ n. K (n == 1)) n more c refl fit ends h)

pub flag_back : (K : Bool → List ℕ → Command → Type 0) (b : Bool) (more : List ℕ) (c : Command) → EndsWord more
    → K b more c → Flag K (32 ∷ (cond b 49 48 ∷ more)) c
flag_back K true more c ends h = flag_digit K 1 more c refl (omega arith) ends h
flag_back K false more c ends h = flag_digit K 0 more c refl (omega arith) ends h

-- Sentences

pub sentence_back : (K : List ℕ → List ℕ → Command → Type 0) (separator : ℕ) (s more : List ℕ) (c : Command)
    → is_sentence s ≡ true → Ends 9 more → K s more c → Sentence K (separator ∷ (s ++ more)) c
sentence_back K separator s more c fit ends h =
    subst (λ (t : List ℕ). K t (from 9 (s ++ more)) c) (sym (before-append is_sentence_byte 9 s more refl fit ends))
    (subst (λ (t : List ℕ). K s t c) (sym (from-append is_sentence_byte 9 s more refl fit ends)) h)

-- Pairs

pairs_end : (ps : List Pair) → Ends 9 (pairs_text 9 ps)
pairs_end [] = tt
pairs_end (p ∷ ps) = refl

parts_behind : (ps : List Pair) → list_all is_pair ps ≡ true → tails 9 (pairs_text 9 ps) ≡ map pair_text ps
parts_behind [] h = refl
parts_behind (p ∷ ps) h =
    let q = and_parts (is_pair p) (list_all is_pair ps) h in
    parts p ps q.0 (parts_behind ps q.1)
  where
    parts : (p : Pair) (ps : List Pair) → is_pair p ≡ true → tails 9 (pairs_text 9 ps) ≡ map pair_text ps
        → between 9 (pair_text p ++ pairs_text 9 ps) ≡ pair_text p ∷ map pair_text ps
    parts p ps fit e =
        let front = before-append is_sentence_byte 9 (pair_text p) (pairs_text 9 ps) refl (pair_sentence p fit)
        (pairs_end ps) in
        let back = from-append is_sentence_byte 9 (pair_text p) (pairs_text 9 ps) refl (pair_sentence p fit)
        (pairs_end ps) in
        between-cons 9 (pair_text p ++ pairs_text 9 ps)
        ∙ ap (λ (f : List ℕ). f ∷ tails 9 (from 9 (pair_text p ++ pairs_text 9 ps))) front
        ∙ ap (λ (b : List ℕ). pair_text p ∷ tails 9 b) back ∙ ap (λ (ts : List (List ℕ)). pair_text p ∷ ts) e

pairs_in_back : (K : List Pair → Command → Type 0) (ps : List Pair) (c : Command) → list_all is_pair ps ≡ true → K ps c
    → PairsIn K (map pair_text ps) c
pairs_in_back K [] c fit h = h
pairs_in_back K (p ∷ ps) c fit h =
    let q = and_parts (is_pair p) (list_all is_pair ps) fit in
    let r = and_parts (is_key p.key) (is_sentence p.value) q.0 in
    by p.key p.value r.0 (pairs_in_back (λ more. K (p ∷ more)) ps c q.1 h)
  where
    by : (key value : List ℕ) → is_key key ≡ true
        → PairsIn (λ more. K (record { key = key; value = value } ∷ more)) (map pair_text ps) c
        → PairsIn K ((key ++ 61 ∷ value) ∷ map pair_text ps) c
    by [] value is rest = absurd (let n : ⊥ = cc in n)
    by (b ∷ bs) value is rest = inl (record { key = b ∷ bs; value = value }, record { whole = refl; key = is }, rest)

at_least_one_back : {A : Type 0} (test : A → Bool) (K : List A → Command → Type 0) (xs : List A) (c : Command)
    → are_some test xs ≡ true → K xs c → AtLeastOne K xs c
at_least_one_back test K [] c fit h = absurd (let n : ⊥ = cc in n)
at_least_one_back test K (x ∷ xs) c fit h = h

pub pairs_back : (K : List Pair → Command → Type 0) (ps : List Pair) (c : Command) → are_some is_pair ps ≡ true → K ps c
    → Pairs K (pairs_text 32 ps) c
pairs_back K [] c fit h = absurd (let n : ⊥ = cc in n)
pairs_back K (p ∷ ps) c fit h =
    let q = and_parts (nat_le 1 (length (p ∷ ps))) (list_all is_pair (p ∷ ps)) fit in
    subst (λ (ss : List (List ℕ)). PairsIn (AtLeastOne K) ss c) (sym (parts_behind (p ∷ ps) q.1))
    (pairs_in_back (AtLeastOne K) (p ∷ ps) c q.1 (at_least_one_back is_pair K (p ∷ ps) c fit h))

-- Words

words_end : (ws : List (List ℕ)) → EndsWord (words_text ws)
words_end [] = tt
words_end (w ∷ ws) = refl

words_are : (ws : List (List ℕ)) → list_all is_word ws ≡ true → AreWords (words_text ws) ws
words_are [] fit = refl
words_are (w ∷ ws) fit =
    let q = and_parts (is_word w) (list_all is_word ws) fit in
    (words_text ws, next_word w (words_text ws) q.0 (words_end ws), words_are ws q.1)

no_tabs : (ws : List (List ℕ)) → list_all is_word ws ≡ true → list_any (has_byte 9) ws ≡ false
no_tabs [] fit = refl
no_tabs (w ∷ ws) fit = let q = and_parts (is_word w) (list_all is_word ws) fit in rw (no_tab w q.0) (no_tabs ws q.1)

pub words_back : (K : List (List ℕ) → Command → Type 0) (ws : List (List ℕ)) (c : Command) → are_some is_word ws ≡ true
    → K ws c → Words K (words_text ws) c
words_back K ws c fit h =
    let q = and_parts (nat_le 1 (length ws)) (list_all is_word ws) fit in (
      ws,
      words_are ws q.1,
      subst (λ t. MatchBool t (IsFault fault.BadByte c) (AtLeastOne K ws c)) (sym (no_tabs ws q.1))
          (at_least_one_back is_word K ws c fit h),
    )

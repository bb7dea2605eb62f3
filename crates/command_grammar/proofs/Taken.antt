-- What a form takes from the rest of a line: arguments of their kinds, that have their bytes there.
use Rattle.std.proofs.Common.{◌≡◌, ℕ, ◌+◌, ◌≤◌, ◌<◌, List, [], ◌∷◌, ◌++◌, length, length-append, refl, ap, subst, Bool, true, false, cond, inl, inr, arith}
use Rattle.std.specs.Prelude.{ℤ, pos, negsuc, ◌≤ℤ◌, ◌⊎◌, ◌==◌, nat_le, IsTrue, MatchBool, Some, None, sum_by}
use Rattle.std.specs.List.{list_any, list_all}
use Rattle.std.proofs.lemmas.Bool.{and_parts, and_from, or_parts, le-leb}
use Rattle.std.proofs.lemmas.Int.{ints}
use Rattle.std.proofs.lemmas.List.Sums.{sum_by-cons}
use Rattle.line_words.specs.Bytes.{has_byte, is_key, is_name, is_sentence, is_sentence_byte, is_text, is_word}
use Rattle.line_words.specs.Kinds.{is_wide, is_pair}
use Rattle.line_words.specs.Numbers.{IsNumeral}
use Rattle.line_words.specs.Parts.{before, from, between, with_front}
use Rattle.line_words.specs.Sentences.{between_tabs}
use Rattle.line_words.specs.Words.{NextWord}
use Rattle.line_words.specs.declared.lists.Pair.{Pair}
use Rattle.line_words.proofs.Splitting.{before-from}
use Rattle.command_grammar.specs.declared.command.ReadFault.{ReadFault}
use Rattle.command_grammar.specs.declared.command.ReadFault.TheVariants as fault
use Rattle.command_grammar.specs.declared.command.Command.{Command}
use Rattle.command_grammar.specs.Arguments.{IsFault, Word, Number, Natural, IsPair, PairsIn, AtLeastOne, AreWords, flagged}
use Rattle.command_grammar.specs.Forms.{applied, Argument, Row}
use Rattle.command_grammar.specs.Kinds.{is_up_to, are_some, fits}
use Rattle.command_grammar.specs.Sizes.{size, pair_size, size_of, sizes_of}
use Rattle.command_grammar.specs.Table as kind
use Rattle.command_grammar.specs.Table.{Kind, Value, Values, Maker}
use Rattle.command_grammar.proofs.Sequences.{first}
use Rattle.command_grammar.proofs.Slices.{text_back, text_behind, word_kind, sentence_front, sentence_kinds}

-- the line was not read
abbrev pub IsUnread : Command → Type 0
IsUnread c = (f : ReadFault) × IsFault f c

-- unless it was not read, one more step
pub unless_unread : {c : Command} {A B : Type 0} → IsUnread c ⊎ A → (A → IsUnread c ⊎ B) → IsUnread c ⊎ B
unless_unread (inl f) next = inl f
unless_unread (inr x) next = next x

pub if_so : (t : Bool) (f : ReadFault) (c : Command) (P : Type 0) → MatchBool t P (IsFault f c) → IsUnread c ⊎ ((t ≡ true) × P)
if_so true f c P h = inr (refl, h)
if_so false f c P h = inl (f, h)

if_not : (t : Bool) (f : ReadFault) (c : Command) (P : Type 0) → MatchBool t (IsFault f c) P → IsUnread c ⊎ ((t ≡ false) × P)
if_not true f c P h = inl (f, h)
if_not false f c P h = inr (refl, h)

-- an argument of a kind, and what it leaves
pub record Taken (k : Kind) (K : Value k → List ℕ → Command → Type 0) (rest : List ℕ) (c : Command) : Type 0 where
  pub value : Value k
  pub behind : List ℕ
  pub next : K value behind c
  pub fit : IsTrue (fits k value)
  pub text : IsTrue (is_text behind)
  pub room : size_of k value + length behind ≤ length rest

-- Words

text_after : (rest w r : List ℕ) → IsTrue (is_text rest) → NextWord rest w r → IsTrue (is_text r)
text_after rest w r h n = text_back w r (text_back n.gap (w ++ r) (subst (λ t. IsTrue (is_text t)) n.whole h))

-- a word and what is behind it are no longer than the rest
word_size : {rest w r : List ℕ} → NextWord rest w r → size w + length r ≤ length rest
word_size {rest} {w} {r} n =
    let whole = ap length n.whole in
    let some = n.some_space in
    omega (arith, whole, length-append n.gap (w ++ r), length-append w r)

word_taken : (K : List ℕ → List ℕ → Command → Type 0) (rest : List ℕ) (c : Command) → IsTrue (is_text rest) → Word K rest c → IsUnread c ⊎ Taken kind.Word K rest c
word_taken K rest c h (inl x) = inl (_, x.1)
word_taken K rest c h (inr x) = unless_unread (if_not (has_byte 9 x.0) _ c _ x.3) λ y. inr (record {
  value = x.0;
  behind = x.1;
  next = y.1;
  fit = word_kind rest x.0 x.1 h (first x.2) y.0;
  text = text_after rest x.0 x.1 h x.2;
  room = word_size x.2;
})

-- Numbers

record NumberTaken (low high : ℤ) (K : ℤ → List ℕ → Command → Type 0) (rest : List ℕ) (c : Command) : Type 0 where
  number : ℤ
  behind : List ℕ
  next : K number behind c
  low_fits : low ≤ℤ number
  high_fits : number ≤ℤ high
  text : IsTrue (is_text behind)
  room : length behind ≤ length rest

abbrev NumberWord : ℤ → ℤ → (ℤ → List ℕ → Command → Type 0) → List ℕ → List ℕ → Command → Type 0
NumberWord low high K word behind c =
    ((z : ℤ) × IsNumeral word z × (low ≤ℤ z) × (z ≤ℤ high) × K z behind c)
    ⊎ (((z : ℤ) → IsNumeral word z → low ≤ℤ z → z ≤ℤ high → ⊥) × IsFault fault.BadNumber c)

number_taken : (low high : ℤ) (K : ℤ → List ℕ → Command → Type 0) (rest : List ℕ) (c : Command) → IsTrue (is_text rest) → Number low high K rest c → IsUnread c ⊎ NumberTaken low high K rest c
number_taken low high K rest c h m = unless_unread (word_taken (NumberWord low high K) rest c h m) (λ t. by t t.next)
  where
    by : (t : Taken kind.Word (NumberWord low high K) rest c) → NumberWord low high K t.value t.behind c → IsUnread c ⊎ NumberTaken low high K rest c
    by t (inl x) = inr (record { number = x.0; behind = t.behind; next = x.4; low_fits = x.2; high_fits = x.3; text = t.text; room = let r = t.room in omega arith })
    by t (inr x) = inl (_, x.1)

up_to : (n high : ℕ) (z : ℤ) → z ≡ pos n → z ≤ℤ pos high → IsTrue (is_up_to high n)
up_to n high z e h = le-leb n high (let k : pos n ≤ℤ pos high = subst (λ y. y ≤ℤ pos high) e h in omega (arith, ints))

natural_taken : (high : ℕ) (K : ℕ → List ℕ → Command → Type 0) (rest : List ℕ) (c : Command) → IsTrue (is_text rest) → Natural high K rest c → IsUnread c ⊎ Taken (kind.Natural high) K rest c
natural_taken high K rest c h m = unless_unread (number_taken (pos 0) (pos high) (λ z behind c. (n : ℕ) × (z ≡ pos n) × K n behind c) rest c h m) λ t. inr (record {
  value = t.next.0;
  behind = t.behind;
  next = t.next.2;
  fit = up_to t.next.0 high t.number t.next.1 t.high_fits;
  text = t.text;
  room = let r = t.room in omega arith;
})

wide : (z : ℤ) → negsuc 2147483647 ≤ℤ z → z ≤ℤ pos 4294967295 → IsTrue (is_wide z)
wide (pos n) l h = le-leb n 4294967295 (omega (arith, ints))
wide (negsuc n) l h = le-leb n 2147483647 (omega (arith, ints))

-- Lists

at_least_one_taken : {A : Type 0} (test : A → Bool) (K : List A → Command → Type 0) (xs : List A) (c : Command) → IsTrue (list_all test xs) → AtLeastOne K xs c → IsUnread c ⊎ (IsTrue (are_some test xs) × K xs c)
at_least_one_taken test K [] c h m = inl (_, m)
at_least_one_taken test K (x ∷ xs) c h m = inr (and_from (nat_le 1 (length (x ∷ xs))) (list_all test (x ∷ xs)) (le-leb 1 (length (x ∷ xs)) (omega arith)) h, m)

-- the sentences of a text take one byte more than it
parts_some : (stop : ℕ) (bs : List ℕ) → 0 < length (between stop bs)
parts_some stop [] = omega arith
parts_some stop (b ∷ bs) = by (b == stop) (between stop bs) (parts_some stop bs)
  where
    by : (t : Bool) (parts : List (List ℕ)) → 0 < length parts → 0 < length (cond t ([] ∷ parts) (with_front b parts))
    by true parts h = omega arith
    by false [] h = omega arith
    by false (x ∷ xs) h = omega arith

cut_size : (t : Bool) (b : ℕ) (parts : List (List ℕ)) → 0 < length parts → sum_by size (cond t ([] ∷ parts) (with_front b parts)) ≡ 1 + sum_by size parts
cut_size true b parts h = omega (arith, sum_by-cons size [] parts)
cut_size false b [] h = absurd (omega arith)
cut_size false b (x ∷ xs) h = omega (arith, sum_by-cons size (b ∷ x) xs, sum_by-cons size x xs)

sentences_size : (text : List ℕ) → sum_by size (between_tabs text) ≡ size text
sentences_size [] = omega arith
sentences_size (b ∷ bs) = let one = cut_size (b == 9) b (between 9 bs) (parts_some 9 bs) in let rest = sentences_size bs in omega arith

sentence_back : (xs ys : List ℕ) → IsTrue (is_sentence (xs ++ ys)) → IsTrue (is_sentence ys)
sentence_back [] ys h = h
sentence_back (x ∷ xs) ys h = sentence_back xs ys (and_parts (is_sentence_byte x) (is_sentence (xs ++ ys)) h).1

pair_fits : (sentence : List ℕ) (p : Pair) → IsTrue (is_sentence sentence) → IsPair sentence p → IsTrue (is_pair p)
pair_fits sentence p h k =
    and_from (is_key p.key) (is_sentence p.value) k.key (sentence_back (61 ∷ []) p.value (sentence_back p.key (61 ∷ p.value) (subst (λ s. IsTrue (is_sentence s)) k.whole h)))

pair_is_size : (sentence : List ℕ) (p : Pair) → IsPair sentence p → size sentence ≡ pair_size p
pair_is_size sentence p h = let whole = ap length h.whole in omega (arith, whole, length-append p.key (61 ∷ p.value))

-- pairs that sentences are
record PairsTaken (K : List Pair → Command → Type 0) (sentences : List (List ℕ)) (c : Command) : Type 0 where
  pairs : List Pair
  next : K pairs c
  fit : IsTrue (list_all is_pair pairs)
  room : sum_by pair_size pairs ≤ sum_by size sentences

pairs_taken : (K : List Pair → Command → Type 0) (sentences : List (List ℕ)) (c : Command) → IsTrue (list_all is_sentence sentences) → PairsIn K sentences c → IsUnread c ⊎ PairsTaken K sentences c
pairs_taken K [] c h m = inr (record { pairs = []; next = m; fit = refl; room = omega arith })
pairs_taken K ([] ∷ more) c h m = unless_unread (pairs_taken K more c h m) λ t. inr (record { pairs = t.pairs; next = t.next; fit = t.fit; room = let r = t.room in omega (arith, sum_by-cons size [] more) })
pairs_taken K ((b ∷ bs) ∷ more) c h (inr x) = inl (_, x.1)
pairs_taken K ((b ∷ bs) ∷ more) c h (inl x) =
    let parts = and_parts (is_sentence (b ∷ bs)) (list_all is_sentence more) h in
    unless_unread (pairs_taken (λ ps. K (x.0 ∷ ps)) more c parts.1 x.2) λ t. inr (record {
      pairs = x.0 ∷ t.pairs;
      next = t.next;
      fit = and_from (is_pair x.0) (list_all is_pair t.pairs) (pair_fits (b ∷ bs) x.0 parts.0 x.1) t.fit;
      room =
          let r = t.room in
          let n = pair_is_size (b ∷ bs) x.0 x.1 in
          omega (arith, sum_by-cons size (b ∷ bs) more, sum_by-cons pair_size x.0 t.pairs);
    })

words_fit : (words : List (List ℕ)) (rest : List ℕ) → IsTrue (is_text rest) → AreWords rest words → list_any (has_byte 9) words ≡ false → IsTrue (list_all is_word words)
words_fit [] rest h a t = refl
words_fit (w ∷ words) rest h a t =
    let parts = or_parts (has_byte 9 w) (list_any (has_byte 9) words) t in
    and_from (is_word w) (list_all is_word words) (word_kind rest w a.0 h (first a.1) parts.0) (words_fit words a.0 (text_after rest w a.0 h a.1) a.2 parts.1)

words_size : (rest : List ℕ) (words : List (List ℕ)) → AreWords rest words → sum_by size words ≤ length rest
words_size rest [] a = omega arith
words_size rest (w ∷ words) a = let n = word_size a.1 in let others = words_size a.0 words a.2 in omega (arith, sum_by-cons size w words)

-- Any kind

pub taken : (k : Kind) (K : Value k → List ℕ → Command → Type 0) (rest : List ℕ) (c : Command) → IsTrue (is_text rest) → Argument k K rest c → IsUnread c ⊎ Taken k K rest c
taken kind.Word K rest c h m = word_taken K rest c h m
taken kind.OptionalWord K rest c h (inl x) = inr (record { value = None; behind = []; next = x.1; fit = refl; text = refl; room = omega arith })
taken kind.OptionalWord K rest c h (inr x) = unless_unread (word_taken (λ w. K (Some w)) rest c h (inr x)) λ t.
    inr (record { value = Some t.value; behind = t.behind; next = t.next; fit = t.fit; text = t.text; room = t.room })
taken kind.Name K rest c h m = unless_unread (word_taken (λ w behind c. MatchBool (is_name w) (K w behind c) (IsFault fault.BadName c)) rest c h m) λ t. unless_unread (if_so (is_name t.value) _ c _ t.next) λ y.
    inr (record { value = t.value; behind = t.behind; next = y.1; fit = y.0; text = t.text; room = t.room })
taken (kind.Natural high) K rest c h m = natural_taken high K rest c h m
taken kind.Wide K rest c h m = unless_unread (number_taken (negsuc 2147483647) (pos 4294967295) K rest c h m) λ t.
    inr (record { value = t.number; behind = t.behind; next = t.next; fit = wide t.number t.low_fits t.high_fits; text = t.text; room = let r = t.room in omega arith })
taken kind.Flag K rest c h m = unless_unread (natural_taken 1 (λ n. K (n == 1)) rest c h m) λ t.
    inr (record { value = t.value == 1; behind = t.behind; next = t.next; fit = refl; text = t.text; room = let r = t.room in omega arith })
taken kind.Sentence K [] c h m = inl (_, m)
taken kind.Sentence K (separator ∷ text) c h m =
    let is_text_behind = text_back (separator ∷ []) text h in
    inr (record {
      value = before 9 text;
      behind = from 9 text;
      next = m;
      fit = sentence_front text is_text_behind;
      text = text_behind 9 text is_text_behind;
      room = let whole = ap length (before-from 9 text) in omega (arith, whole, length-append (before 9 text) (from 9 text));
    })
taken kind.Text K [] c h m = inl (_, m)
taken kind.Text K (space ∷ text) c h m = inr (record { value = text; behind = []; next = m; fit = text_back (space ∷ []) text h; text = refl; room = omega arith })
taken kind.OptionalText K [] c h m = inr (record { value = None; behind = []; next = m; fit = refl; text = refl; room = omega arith })
taken kind.OptionalText K (space ∷ text) c h m = inr (record { value = Some text; behind = []; next = m; fit = text_back (space ∷ []) text h; text = refl; room = omega arith })
taken kind.LoginFlags K [] c h m = inr (record { value = false; behind = []; next = m; fit = refl; text = refl; room = omega arith })
taken kind.LoginFlags K (tab ∷ text) c h m = inr (record { value = flagged (from 9 text); behind = []; next = m; fit = refl; text = refl; room = omega arith })
taken kind.Pairs K [] c h m = inl (_, m)
taken kind.Pairs K (space ∷ text) c h m =
    unless_unread (pairs_taken (AtLeastOne (λ ps. K ps [])) (between_tabs text) c (sentence_kinds text (text_back (space ∷ []) text h)) m) λ t.
    unless_unread (at_least_one_taken is_pair (λ ps. K ps []) t.pairs c t.fit t.next) λ y.
    inr (record { value = t.pairs; behind = []; next = y.1; fit = y.0; text = refl; room = let r = t.room in let n = sentences_size text in omega arith })
taken kind.Words K rest c h m =
    unless_unread (if_not (list_any (has_byte 9) m.0) _ c _ m.2) λ t.
    unless_unread (at_least_one_taken is_word (λ ws. K ws []) m.0 c (words_fit m.0 rest h m.1 t.0) t.1) λ y.
    inr (record { value = m.0; behind = []; next = y.1; fit = y.0; text = refl; room = let n = words_size rest m.0 m.1 in omega arith })

-- A row of kinds

abbrev pub EachFits : (ks : List Kind) → Values ks → Type 0
EachFits [] xs = Unit {0}
EachFits (k ∷ ks) xs = IsTrue (fits k xs.0) × EachFits ks xs.1

pub record RowTaken (ks : List Kind) (maker : Maker ks) (rest : List ℕ) (c : Command) : Type 0 where
  pub values : Values ks
  pub made : c ≡ applied ks maker values
  pub fit : EachFits ks values
  pub room : sizes_of ks values ≤ length rest

pub row_taken : (ks : List Kind) (maker : Maker ks) (rest : List ℕ) (c : Command) → IsTrue (is_text rest) → Row ks maker rest c → IsUnread c ⊎ RowTaken ks maker rest c
row_taken [] maker rest c h m = inr (record { values = tt; made = m; fit = tt; room = omega arith })
row_taken (k ∷ ks) maker rest c h m = unless_unread (taken k (λ x. Row ks (maker x)) rest c h m) λ t. unless_unread (row_taken ks (maker t.value) t.behind c t.text t.next) λ more. inr (record {
  values = (t.value, more.values);
  made = more.made;
  fit = (t.fit, more.fit);
  room = let a = t.room in let b = more.room in omega arith;
})

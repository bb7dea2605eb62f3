-- Texts, sentences, pairs and lists of words: a form of them names one command.
use Rattle.std.proofs.Common.{◌≡◌, ℕ, zero, suc, ◌<◌, List, [], ◌∷◌, ◌++◌, length, length-append, refl, sym, ap, subst, ◌∙◌, Bool, true, false, cond, inl, inr, arith}
use Rattle.std.specs.Prelude.{◌==◌, ◌||◌, ◌⊎◌, not, nat_le, IsTrue, MatchBool, Option, Some, None, Result, Ok, Err}
use Rattle.std.specs.List.{list_any, list_all}
use Rattle.std.proofs.Math.Bool.{or-false, or_assoc}
use Rattle.std.proofs.lemmas.Bool.{and_parts, eq-eqb, eqb-true}
use Rattle.line_words.specs.Bytes.{is_spaces, has_byte, is_key, is_key_byte}
use Rattle.line_words.specs.Parts.{before, from, Ends, between, with_front, tails}
use Rattle.line_words.specs.Words.{EndsWord, FirstWord, NextWord}
use Rattle.line_words.specs.Sentences.{between_tabs}
use Rattle.line_words.specs.declared.lists.Pair.{Pair}
use Rattle.line_words.proofs.Splitting.{before-from, before-append, from-append, from_ends, between-cons}
use Rattle.command_grammar.specs.declared.command.ReadFault.{ReadFault}
use Rattle.command_grammar.specs.declared.command.ReadFault.TheVariants as fault
use Rattle.command_grammar.specs.declared.command.Command.{Command}
use Rattle.command_grammar.specs.declared.command.Command.TheVariants as command
use Rattle.command_grammar.specs.Arguments.{IsFault, Text, OptionalText, Sentence, flagged, LoginFlags, IsPair, PairsIn, AtLeastOne, Pairs, AreWords, Words}
use Rattle.command_grammar.specs.Readers.{without_spaces, ◌>>=◌, text_at, optional_text_at, login_flags_at, sentence_at, pair, pair_of, pair_in, pairs_in, at_least_one, pairs_of, pairs_at, without_empty, words_in, words_at}
use Rattle.command_grammar.proofs.Cuts.{Parts, parts_of, and_first, and_second, next_word_made, no_word_left, skipped}
use Rattle.command_grammar.proofs.Settles.{Settles, fault_made, bind_bind}

pub Text-settles : {K : List ℕ → Command → Type 0} (k : List ℕ → Result Command ReadFault) → ((text : List ℕ) → Settles (K text) (k text)) → (rest : List ℕ)
    → Settles (Text K rest) (text_at rest >>= k)
unfolding text_at
Text-settles {K} k each [] = fault_made
Text-settles {K} k each (space ∷ text) = each text

pub OptionalText-settles : {K : Option (List ℕ) → Command → Type 0} (k : Option (List ℕ) → Result Command ReadFault) → ((text : Option (List ℕ)) → Settles (K text) (k text)) → (rest : List ℕ)
    → Settles (OptionalText K rest) (k (optional_text_at rest))
unfolding optional_text_at
OptionalText-settles {K} k each [] = each None
OptionalText-settles {K} k each (space ∷ text) = each (Some text)

pub LoginFlags-settles : {K : Bool → Command → Type 0} (k : Bool → Result Command ReadFault) → ((b : Bool) → Settles (K b) (k b)) → (rest : List ℕ)
    → Settles (LoginFlags K rest) (k (login_flags_at rest))
unfolding login_flags_at
LoginFlags-settles {K} k each [] = each false
LoginFlags-settles {K} k each (tab ∷ text) = each (flagged (from 9 text))

pub Sentence-settles : {K : List ℕ → List ℕ → Command → Type 0} (k : List ℕ × List ℕ → Result Command ReadFault)
    → ((sentence behind : List ℕ) → Settles (K sentence behind) (k (sentence, behind))) → (rest : List ℕ)
    → Settles (Sentence K rest) (sentence_at rest >>= k)
unfolding sentence_at text_at
Sentence-settles {K} k each [] = fault_made
Sentence-settles {K} k each (separator ∷ text) = each (before 9 text) (from 9 text)

-- Pairs

-- the pair of a sentence: it, or none
abbrev pub PairRead : List ℕ → Result Pair ReadFault → Type 0
PairRead sentence (Ok p) = IsPair sentence p
PairRead sentence (Err f) = ((p : Pair) → IsPair sentence p → ⊥) × (fault.BadPair ≡ f)

pub pair_is : (sentence : List ℕ) (p : Pair) → IsPair sentence p → pair_in sentence ≡ Ok p
unfolding pair_in
pair_is sentence p h =
    let key : list_all is_key_byte p.key ≡ true = (and_parts (nat_le 1 (length p.key)) (list_all is_key_byte p.key) h.key).1 in
    let front = before-append is_key_byte 61 p.key (61 ∷ p.value) refl key refl in
    let back = from-append is_key_byte 61 p.key (61 ∷ p.value) refl key refl in
    ap (λ (s : List ℕ). pair_of (before 61 s) (from 61 s)) h.whole ∙ ap (λ (k : List ℕ). pair_of k (from 61 (p.key ++ 61 ∷ p.value))) front
    ∙ ap (λ (v : List ℕ). pair_of p.key v) back ∙ rw h.key refl

one_pair : (sentence : List ℕ) (p q : Pair) → IsPair sentence p → IsPair sentence q → p ≡ q
one_pair sentence p q a b = let e = pair_is sentence p a in let f = pair_is sentence q b in cc

no_pair : (sentence : List ℕ) → pair_in sentence ≡ Err fault.BadPair → (p : Pair) → IsPair sentence p → ⊥
no_pair sentence e p h = let f = pair_is sentence p h in let n : ⊥ = cc in n

pair_keyed : (sentence key value : List ℕ) (x : ℕ) (t : Bool) → sentence ≡ key ++ (x ∷ value) → x ≡ 61 → is_key key ≡ t
    → pair_in sentence ≡ cond t (Ok (pair key value)) (Err fault.BadPair)
    → PairRead sentence (cond t (Ok (pair key value)) (Err fault.BadPair))
pair_keyed sentence key value x true whole equals is read = record { whole = whole ∙ ap (λ (n : ℕ). key ++ (n ∷ value)) equals; key = is }
pair_keyed sentence key value x false whole equals is read = (no_pair sentence read, refl)

pair_parted : (sentence key behind : List ℕ) → sentence ≡ key ++ behind → Ends 61 behind → pair_in sentence ≡ pair_of key behind → PairRead sentence (pair_of key behind)
pair_parted sentence key [] whole ends read = (no_pair sentence read, refl)
pair_parted sentence key (x ∷ value) whole ends read = pair_keyed sentence key value x (is_key key) whole ends refl read

pub pair_read : (sentence : List ℕ) → PairRead sentence (pair_in sentence)
unfolding pair_in
pair_read sentence = pair_parted sentence (before 61 sentence) (from 61 sentence) (before-from 61 sentence) (from_ends 61 sentence) refl

at_least_one-settles : {A : Type 0} {K : List A → Command → Type 0} (k : List A → Result Command ReadFault) → ((xs : List A) → Settles (K xs) (k xs)) → (xs : List A) → Settles (AtLeastOne K xs) (at_least_one xs >>= k)
at_least_one-settles k each [] = fault_made
at_least_one-settles k each (x ∷ xs) = each (x ∷ xs)

pair_step : (K : List Pair → Command → Type 0) (k : List Pair → Result Command ReadFault) (sentence : List ℕ) (more : List (List ℕ)) (read : Result Pair ReadFault) → PairRead sentence read
    → ((p : Pair) → Settles (PairsIn (λ pairs. K (p ∷ pairs)) more) (pairs_in more >>= λ ps. k (p ∷ ps)))
    → Settles (λ c. ((p : Pair) × IsPair sentence p × PairsIn (λ pairs. K (p ∷ pairs)) more c) ⊎ (((p : Pair) → IsPair sentence p → ⊥) × IsFault fault.BadPair c))
    ((read >>= λ p. pairs_in more >>= λ ps. Ok (p ∷ ps)) >>= k)
pair_step K k sentence more (Ok p) h each =
    let after : List Pair → Result (List Pair) ReadFault = λ ps. Ok (p ∷ ps) in
    let one = subst (λ (q : Result Command ReadFault). Settles (PairsIn (λ pairs. K (p ∷ pairs)) more) q) (sym (bind_bind (pairs_in more) after k)) (each p) in
    record {
      holds = inl (p, h, one.holds);
      only = λ c g. elim g [
        | inl x ↦ one.only c (subst (λ q. PairsIn (λ pairs. K (q ∷ pairs)) more c) (one_pair sentence x.0 p x.1 h) x.2)
        | inr x ↦ absurd (x.0 p h)
      ];
    }
pair_step K k sentence more (Err f) h each = record {
  holds = inr (h.0, ap command.Unread (sym h.1));
  only = λ c g. elim g [ inl x ↦ absurd (h.0 x.0 x.1) | inr x ↦ x.1 ∙ ap command.Unread h.1 ];
}

pairs_settles : (K : List Pair → Command → Type 0) (k : List Pair → Result Command ReadFault) → ((pairs : List Pair) → Settles (K pairs) (k pairs)) → (sentences : List (List ℕ))
    → Settles (PairsIn K sentences) (pairs_in sentences >>= k)
pairs_settles K k each [] = each []
pairs_settles K k each ([] ∷ more) = pairs_settles K k each more
pairs_settles K k each ((b ∷ bs) ∷ more) =
    pair_step K k (b ∷ bs) more (pair_in (b ∷ bs)) (pair_read (b ∷ bs)) (λ p. pairs_settles (λ pairs. K (p ∷ pairs)) (λ ps. k (p ∷ ps)) (λ ps. each (p ∷ ps)) more)

pub Pairs-settles : {K : List Pair → Command → Type 0} (k : List Pair → Result Command ReadFault) → ((pairs : List Pair) → Settles (K pairs) (k pairs)) → (rest : List ℕ)
    → Settles (Pairs K rest) (pairs_at rest >>= k)
unfolding pairs_at pairs_of
Pairs-settles {K} k each rest =
    subst (λ (q : Result Command ReadFault). Settles (Pairs K rest) q) (sym (bind_bind (text_at rest) pairs_of k))
    (Text-settles _ (λ text.
    subst (λ (q : Result Command ReadFault). Settles (PairsIn (AtLeastOne K) (between_tabs text)) q) (sym (bind_bind (pairs_in (between_tabs text)) at_least_one k))
    (pairs_settles (AtLeastOne K) (λ ps. at_least_one ps >>= k) (at_least_one-settles k each) (between_tabs text))) rest)

-- Words

words_skip : (gap t : List ℕ) → IsTrue (is_spaces gap) → words_in (gap ++ t) ≡ words_in t
unfolding words_in
words_skip [] t h = refl
words_skip (x ∷ gap) t h = rw (and_first (x == 32) (is_spaces gap) h) (words_skip gap t (and_second (x == 32) (is_spaces gap) h))

pub no_words : (rest : List ℕ) → IsTrue (is_spaces rest) → words_in rest ≡ []
unfolding words_in
no_words [] h = refl
no_words (x ∷ rest) h = rw (and_first (x == 32) (is_spaces rest) h) (no_words rest (and_second (x == 32) (is_spaces rest) h))

words_behind : (r : List ℕ) → EndsWord r → without_empty (tails 32 r) ≡ words_in r
unfolding words_in
words_behind [] e = refl
words_behind (x ∷ r) e = rw (eq-eqb x 32 e) refl

word_first : (b : ℕ) (bs r : List ℕ) → IsTrue (not (has_byte 32 (b ∷ bs))) → EndsWord r → words_in ((b ∷ bs) ++ r) ≡ (b ∷ bs) ∷ words_in r
unfolding words_in
word_first b bs r h e =
    let p = parts_of (b ∷ bs) r h e in
    let cut : between 32 ((b ∷ bs) ++ r) ≡ (b ∷ bs) ∷ tails 32 r =
    between-cons 32 ((b ∷ bs) ++ r) ∙ ap (λ (w : List ℕ). w ∷ tails 32 (from 32 ((b ∷ bs) ++ r))) p.front ∙ ap (λ (t : List ℕ). (b ∷ bs) ∷ tails 32 t) p.back in
    ap without_empty cut ∙ ap (λ (ws : List (List ℕ)). (b ∷ bs) ∷ ws) (words_behind r e)

words_from : (w r : List ℕ) → 0 < length w → IsTrue (not (has_byte 32 w)) → EndsWord r → words_in (w ++ r) ≡ w ∷ words_in r
words_from [] r s h e = absurd (omega arith)
words_from (b ∷ bs) r s h e = word_first b bs r h e

-- the first word, and the words behind it
pub words_next : {rest w r : List ℕ} → FirstWord rest w r → words_in rest ≡ w ∷ words_in r
words_next {rest} {w} {r} f = ap words_in f.whole ∙ words_skip f.gap (w ++ r) f.spaces ∙ words_from w r f.some_byte f.no_space f.ends

pub first : {rest w r : List ℕ} → NextWord rest w r → FirstWord rest w r
first n = record { gap = n.gap; whole = n.whole; spaces = n.spaces; no_space = n.no_space; some_byte = n.some_byte; ends = n.ends }

words_only : (rest : List ℕ) (words : List (List ℕ)) → AreWords rest words → words_in rest ≡ words
words_only rest [] h = no_words rest h
words_only rest (w ∷ words) h = words_next (first h.1) ∙ ap (λ (ws : List (List ℕ)). w ∷ ws) (words_only h.0 words h.2)

shorter : {rest w r : List ℕ} → NextWord rest w r → length r < length rest
shorter {rest} {w} {r} n =
    let whole = ap length n.whole in
    let some = n.some_byte in
    omega (arith, whole, length-append n.gap (w ++ r), length-append w r)

words_by : (rest w r : List ℕ) → EndsWord rest → Parts (without_spaces rest) w r → ((s : List ℕ) → length s < length rest → EndsWord s → AreWords s (words_in s)) → AreWords rest (words_in rest)
words_by rest [] r ends p each =
    let spaces = no_word_left rest (without_spaces rest) r (skipped rest) p in
    subst (λ ws. AreWords rest ws) (sym (no_words rest spaces)) spaces
words_by rest (b ∷ bs) r ends p each =
    let n = next_word_made rest (without_spaces rest) b bs r ends (skipped rest) p in
    subst (λ ws. AreWords rest ws) (sym (words_next (first n))) (r, n, each r (shorter n) n.ends)

words_up_to : (n : ℕ) (rest : List ℕ) → length rest < n → EndsWord rest → AreWords rest (words_in rest)
words_up_to zero rest h e = absurd (omega arith)
words_up_to (suc n) rest h e = words_by rest _ _ e (record { front = refl; back = refl }) (λ s l ends. words_up_to n s (omega arith) ends)

are_words : (rest : List ℕ) → EndsWord rest → AreWords rest (words_in rest)
are_words rest e = words_up_to (suc (length rest)) rest (omega arith) e

-- a tab stands in the rest exactly where it stands in a word
any_front : (b : ℕ) (parts : List (List ℕ)) → list_any (has_byte 9) (with_front b parts) ≡ ((b == 9) || list_any (has_byte 9) parts)
any_front b [] = or-false ((b == 9) || false)
any_front b (x ∷ xs) = or_assoc (b == 9) (has_byte 9 x) (list_any (has_byte 9) xs)

any_cut : (t : Bool) (b : ℕ) (bs : List ℕ) → (b == 32) ≡ t → list_any (has_byte 9) (between 32 bs) ≡ has_byte 9 bs
    → list_any (has_byte 9) (cond t ([] ∷ between 32 bs) (with_front b (between 32 bs))) ≡ ((b == 9) || has_byte 9 bs)
any_cut true b bs is e = let space : b ≡ 32 = eqb-true b 32 is in e ∙ ap (λ (n : ℕ). (n == 9) || has_byte 9 bs) (sym space)
any_cut false b bs is e = any_front b (between 32 bs) ∙ ap (λ (x : Bool). (b == 9) || x) e

any_between : (bs : List ℕ) → list_any (has_byte 9) (between 32 bs) ≡ has_byte 9 bs
any_between [] = refl
any_between (b ∷ bs) = any_cut (b == 32) b bs refl (any_between bs)

any_without_empty : (parts : List (List ℕ)) → list_any (has_byte 9) (without_empty parts) ≡ list_any (has_byte 9) parts
any_without_empty [] = refl
any_without_empty ([] ∷ more) = any_without_empty more
any_without_empty ((b ∷ bs) ∷ more) = ap (λ (x : Bool). has_byte 9 (b ∷ bs) || x) (any_without_empty more)

tab_words : (rest : List ℕ) → list_any (has_byte 9) (words_in rest) ≡ has_byte 9 rest
unfolding words_in
tab_words rest = any_without_empty (between 32 rest) ∙ any_between rest

words_chosen : {K : List (List ℕ) → Command → Type 0} (k : List (List ℕ) → Result Command ReadFault) → ((words : List (List ℕ)) → Settles (K words) (k words)) → (words : List (List ℕ)) (s t : Bool) → s ≡ t
    → Settles (λ c. MatchBool s (IsFault fault.BadByte c) (AtLeastOne K words c)) (cond t (Err fault.BadByte) (at_least_one words) >>= k)
words_chosen k each words true true e = fault_made
words_chosen k each words true false e = absurd (let n : ⊥ = cc in n)
words_chosen k each words false true e = absurd (let n : ⊥ = cc in n)
words_chosen k each words false false e = at_least_one-settles k each words

pub Words-settles : {K : List (List ℕ) → Command → Type 0} (k : List (List ℕ) → Result Command ReadFault) → ((words : List (List ℕ)) → Settles (K words) (k words)) → (rest : List ℕ) → EndsWord rest
    → Settles (Words K rest) (words_at rest >>= k)
unfolding words_at
Words-settles {K} k each rest ends =
    let one = words_chosen k each (words_in rest) (list_any (has_byte 9) (words_in rest)) (has_byte 9 rest) (tab_words rest) in
    record {
      holds = (words_in rest, are_words rest ends, one.holds);
      only = λ c h. one.only c (subst (λ words. MatchBool (list_any (has_byte 9) words) (IsFault fault.BadByte c) (AtLeastOne K words c)) (sym (words_only rest h.0 h.1)) h.2);
    }

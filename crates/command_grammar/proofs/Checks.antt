-- What the readers of lists look at.
use Rattle.std.proofs.Common.{◌≡◌, ℕ, List, [], ◌∷◌, ◌++◌, length, append_assoc, append-nil, refl, sym, ap, subst, ◌∙◌, Bool, true, false, cond, arith}
use Rattle.std.specs.Prelude.{◌==◌, ◌&&◌, ◌||◌, IsTrue, Result, Ok, Err, is_ok, codes}
use Rattle.std.specs.List.{list_all}
use Rattle.std.proofs.lemmas.Bool.{and_parts, and_from, ne_eqb, or_parts}
use Rattle.line_words.specs.Bytes.{is_spaces, has_byte, is_text, is_word, is_sentence}
use Rattle.line_words.specs.Parts.{between, with_front}
use Rattle.line_words.specs.Words.{FirstWord}
use Rattle.line_words.specs.Sentences.{between_tabs}
use Rattle.line_words.specs.Table.{is_among, same_name}
use Rattle.command_grammar.specs.Arguments.{has_flag}
use Rattle.line_words.specs.declared.lists.Pair.{Pair}
use Rattle.command_grammar.specs.declared.command.ReadFault.{ReadFault}
use Rattle.command_grammar.specs.declared.command.ReadFault.TheVariants as fault
use Rattle.command_grammar.specs.declared.command.Command.{Command}
use Rattle.command_grammar.specs.declared.command.Command.TheVariants as command
use Rattle.command_grammar.specs.Owning.{owns_bytes}
use Rattle.command_grammar.specs.Readers.{◌>>=◌, pair_in, needs_memory, is_pair_or_empty, pairs_in, pairs_of, behind_pairs, at_least_one, without_empty, words_in, words_at}
use Rattle.command_grammar.proofs.Slices.{text_back, word_kind}
use Rattle.command_grammar.proofs.Sequences.{PairRead, pair_read, no_words, words_next}

-- Pairs

ok_step : (r : Result Pair ReadFault) (s : Result (List Pair) ReadFault) → is_ok r ≡ true → is_ok s ≡ true → is_ok (r >>= λ p. s >>= λ ps. Ok (p ∷ ps)) ≡ true
ok_step (Ok p) (Ok ps) a b = refl
ok_step (Ok p) (Err f) a b = b
ok_step (Err f) s a b = a

some_length : (b : ℕ) (bs : List ℕ) → (length (b ∷ bs) == 0) ≡ false
some_length b bs = ne_eqb (length (b ∷ bs)) 0 (λ e. omega arith)

all_pairs : (sentences : List (List ℕ)) → list_all is_pair_or_empty sentences ≡ true → is_ok (pairs_in sentences) ≡ true
all_pairs [] h = refl
all_pairs ([] ∷ more) h = all_pairs more h
all_pairs ((b ∷ bs) ∷ more) h =
    let both = and_parts (is_pair_or_empty (b ∷ bs)) (list_all is_pair_or_empty more) h in
    let pair : is_ok (pair_in (b ∷ bs)) ≡ true = rw (some_length b bs) at both.0 in
    ok_step (pair_in (b ∷ bs)) (pairs_in more) pair (all_pairs more both.1)

bad_step : (sentence : List ℕ) (r : Result Pair ReadFault) (s : Result (List Pair) ReadFault) (t : Bool) → PairRead sentence r → (is_ok r && t) ≡ false → (t ≡ false → s ≡ Err fault.BadPair)
    → (r >>= λ p. s >>= λ ps. Ok (p ∷ ps)) ≡ Err fault.BadPair
bad_step sentence (Ok p) s t h e next_bad = ap (λ (x : Result (List Pair) ReadFault). x >>= λ ps. Ok (p ∷ ps)) (next_bad e)
bad_step sentence (Err f) s t h e next_bad = ap Err (sym h.1)

bad_among : (sentences : List (List ℕ)) → list_all is_pair_or_empty sentences ≡ false → pairs_in sentences ≡ Err fault.BadPair
bad_among [] h = absurd (let n : ⊥ = cc in n)
bad_among ([] ∷ more) h = bad_among more h
bad_among ((b ∷ bs) ∷ more) h =
    let either : (is_ok (pair_in (b ∷ bs)) && list_all is_pair_or_empty more) ≡ false = rw (some_length b bs) at h in
    bad_step (b ∷ bs) (pair_in (b ∷ bs)) (pairs_in more) (list_all is_pair_or_empty more) (pair_read (b ∷ bs)) either (λ e. bad_among more e)

pub bad_pairs : (text : List ℕ) → list_all is_pair_or_empty (between_tabs text) ≡ false → pairs_of text ≡ Err fault.BadPair
unfolding pairs_of
bad_pairs text h = rw (bad_among (between_tabs text) h) refl

only_tabs : (text : List ℕ) → list_all (λ b. b == 9) text ≡ true → pairs_in (between_tabs text) ≡ Ok []
only_tabs [] h = refl
only_tabs (b ∷ bs) h =
    let both = and_parts (b == 9) (list_all (λ b. b == 9) bs) h in
    rw both.0 (only_tabs bs both.1)

pub no_pairs : (text : List ℕ) → list_all (λ b. b == 9) text ≡ true → pairs_of text ≡ Err fault.MissingArgument
unfolding pairs_of
no_pairs text h = rw (only_tabs text h) refl

-- a sentence that is not empty leaves a pair or a fault
step_some : (r : Result Pair ReadFault) (s : Result (List Pair) ReadFault) → (r >>= λ p. s >>= λ ps. Ok (p ∷ ps)) ≡ Ok [] → ⊥
step_some (Ok p) (Ok ps) e = let n : ⊥ = cc in n
step_some (Ok p) (Err f) e = let n : ⊥ = cc in n
step_some (Err f) s e = let n : ⊥ = cc in n

front_some : (b : ℕ) (parts : List (List ℕ)) → pairs_in (with_front b parts) ≡ Ok [] → ⊥
front_some b [] e = step_some (pair_in (b ∷ [])) (Ok []) e
front_some b (x ∷ xs) e = step_some (pair_in (b ∷ x)) (pairs_in xs) e

tabs_by : (t : Bool) (b : ℕ) (bs : List ℕ) → (b == 9) ≡ t → (pairs_in (between 9 bs) ≡ Ok [] → list_all (λ b. b == 9) bs ≡ true)
    → pairs_in (cond t ([] ∷ between 9 bs) (with_front b (between 9 bs))) ≡ Ok [] → ((b == 9) && list_all (λ b. b == 9) bs) ≡ true
tabs_by true b bs is h e = and_from (b == 9) (list_all (λ b. b == 9) bs) is (h e)
tabs_by false b bs is h e = absurd (front_some b (between 9 bs) e)

tabs_only : (text : List ℕ) → pairs_in (between_tabs text) ≡ Ok [] → list_all (λ b. b == 9) text ≡ true
tabs_only [] e = refl
tabs_only (b ∷ bs) e = tabs_by (b == 9) b bs refl (tabs_only bs) e

some_of : (r : Result (List Pair) ReadFault) → is_ok r ≡ true → (r ≡ Ok [] → ⊥) → IsTrue (is_ok (r >>= at_least_one))
some_of (Ok []) h none = absurd (none refl)
some_of (Ok (p ∷ ps)) h none = refl
some_of (Err f) h none = h

pub some_pairs : (text : List ℕ) → list_all is_pair_or_empty (between_tabs text) ≡ true → list_all (λ b. b == 9) text ≡ false → IsTrue (is_ok (pairs_of text))
unfolding pairs_of
some_pairs text h k =
    some_of (pairs_in (between_tabs text)) (all_pairs (between_tabs text) h) (λ e. let t = tabs_only text e in let n : ⊥ = cc in n)

pub pairs_need_memory : (r : Result (List Pair) ReadFault) → IsTrue (is_ok r) → IsTrue (needs_memory (r >>= λ pairs. Ok (command.SetScriptTags pairs)))
pairs_need_memory (Ok pairs) h = refl
pairs_need_memory (Err f) h = h

-- Words

pub words_need_memory : (r : Result (List (List ℕ)) ReadFault) → IsTrue (is_ok r) → (maker : List (List ℕ) → Command) → ((words : List (List ℕ)) → IsTrue (owns_bytes (maker words)))
    → IsTrue (needs_memory (r >>= λ words. Ok (maker words)))
words_need_memory (Ok words) h maker owns = owns words
words_need_memory (Err f) h maker owns = h

pub no_words_at : (rest : List ℕ) → IsTrue (is_spaces rest) → has_byte 9 rest ≡ false → words_at rest ≡ Err fault.MissingArgument
unfolding words_at
no_words_at rest h t = rw (t, no_words rest h) refl

pub some_words_at : (rest w r : List ℕ) → FirstWord rest w r → has_byte 9 rest ≡ false → IsTrue (is_ok (words_at rest))
unfolding words_at
some_words_at rest w r f t = rw (t, words_next f) refl

words_are_by : (rest : List ℕ) (words : List (List ℕ)) (t : Bool) → IsTrue (is_ok (cond t (Err fault.BadByte) (at_least_one words))) → (t ≡ false) × ((cond t (Err fault.BadByte) (at_least_one words)) ≡ Ok words)
words_are_by rest words true h = absurd (let n : ⊥ = cc in n)
words_are_by rest [] false h = absurd (let n : ⊥ = cc in n)
words_are_by rest (w ∷ words) false h = (refl, refl)

-- a rest that was checked
pub words_checked : (rest : List ℕ) → IsTrue (is_ok (words_at rest)) → (has_byte 9 rest ≡ false) × (words_at rest ≡ Ok (words_in rest))
unfolding words_at
words_checked rest h = words_are_by rest (words_in rest) (has_byte 9 rest) h

-- one more pair

more_pairs : (p : Pair) (items : List Pair) (r : Result (List Pair) ReadFault) → behind_pairs (items ++ p ∷ []) r ≡ behind_pairs items (r >>= λ ps. Ok (p ∷ ps))
more_pairs p items (Ok ps) = ap Ok (append_assoc items (p ∷ []) ps)
more_pairs p items (Err f) = refl

pairs_cons : (s : List ℕ) (more : List (List ℕ)) (p : Pair) → pair_in s ≡ Ok p → pairs_in (s ∷ more) ≡ (pairs_in more >>= λ ps. Ok (p ∷ ps))
unfolding pair_in
pairs_cons [] more p e = absurd (let n : ⊥ = cc in n)
pairs_cons (b ∷ bs) more p e = rw e refl

pub pair_pushed : (items : List Pair) (sentences more : List (List ℕ)) (s : List ℕ) (p : Pair) → sentences ≡ s ∷ more → pair_in s ≡ Ok p → behind_pairs (items ++ p ∷ []) (pairs_in more) ≡ behind_pairs items (pairs_in sentences)
pair_pushed items sentences more s p is e = more_pairs p items (pairs_in more) ∙ ap (behind_pairs items) (sym (ap pairs_in is ∙ pairs_cons s more p e))

ok_more : (p : Pair) (r : Result (List Pair) ReadFault) → is_ok (r >>= λ ps. Ok (p ∷ ps)) ≡ true → is_ok r ≡ true
ok_more p (Ok ps) h = refl
ok_more p (Err f) h = h

pub pairs_more : (sentences more : List (List ℕ)) (s : List ℕ) (p : Pair) → sentences ≡ s ∷ more → pair_in s ≡ Ok p → IsTrue (is_ok (pairs_in sentences)) → IsTrue (is_ok (pairs_in more))
pairs_more sentences more s p is e h = ok_more p (pairs_in more) (subst (λ r. is_ok r ≡ true) (ap pairs_in is ∙ pairs_cons s more p e) h)

checked_by : (r : Result (List Pair) ReadFault) → IsTrue (is_ok (r >>= at_least_one)) → IsTrue (is_ok r)
checked_by (Ok ps) h = refl
checked_by (Err f) h = h

-- a text that was checked
pub pairs_checked : (text : List ℕ) → IsTrue (is_ok (pairs_of text)) → IsTrue (is_ok (pairs_in (between_tabs text)))
unfolding pairs_of
pairs_checked text h = checked_by (pairs_in (between_tabs text)) h

done_by : (items : List Pair) → IsTrue (is_ok (at_least_one items)) → at_least_one items ≡ Ok items
done_by [] h = absurd (let n : ⊥ = cc in n)
done_by (p ∷ ps) h = refl

pub pairs_done : (text : List ℕ) (items : List Pair) → behind_pairs items (Ok []) ≡ pairs_in (between_tabs text) → IsTrue (is_ok (pairs_of text)) → pairs_of text ≡ Ok items
unfolding pairs_of
pairs_done text items e h =
    let read : pairs_in (between_tabs text) ≡ Ok items = sym e ∙ ap Ok (append-nil items) in
    let at_least : IsTrue (is_ok (at_least_one items)) = subst (λ r. IsTrue (is_ok (r >>= at_least_one))) read h in
    ap (λ (r : Result (List Pair) ReadFault). r >>= at_least_one) read ∙ done_by items at_least

-- one more word

pub word_pushed : (items : List (List ℕ)) (left w more : List ℕ) → FirstWord left w more → (items ++ w ∷ []) ++ words_in more ≡ items ++ words_in left
word_pushed items left w more f = append_assoc items (w ∷ []) (words_in more) ∙ ap (λ (ws : List (List ℕ)). items ++ ws) (sym (words_next f))

no_tab_back : (xs ys : List ℕ) → has_byte 9 (xs ++ ys) ≡ false → has_byte 9 ys ≡ false
no_tab_back [] ys h = h
no_tab_back (x ∷ xs) ys h = no_tab_back xs ys (or_parts (x == 9) (has_byte 9 (xs ++ ys)) h).1

no_tab_front : (xs ys : List ℕ) → has_byte 9 (xs ++ ys) ≡ false → has_byte 9 xs ≡ false
no_tab_front [] ys h = refl
no_tab_front (x ∷ xs) ys h = let both = or_parts (x == 9) (has_byte 9 (xs ++ ys)) h in rw both.0 (no_tab_front xs ys both.1)

-- a list that is left to walk: a text without tabs
pub record IsLeft (left : List ℕ) : Type 0 where
  pub text : IsTrue (is_text left)
  pub no_tab : has_byte 9 left ≡ false

pub left_behind : (left w more : List ℕ) → FirstWord left w more → IsLeft left → IsLeft more
left_behind left w more f h = record {
  text = text_back w more (text_back f.gap (w ++ more) (subst (λ s. IsTrue (is_text s)) f.whole h.text));
  no_tab = no_tab_back w more (no_tab_back f.gap (w ++ more) (subst (λ s. has_byte 9 s ≡ false) f.whole h.no_tab));
}

pub left_word : (left w more : List ℕ) → FirstWord left w more → IsLeft left → IsTrue (is_word w)
left_word left w more f h =
    word_kind left w more h.text f (no_tab_front w more (no_tab_back f.gap (w ++ more) (subst (λ s. has_byte 9 s ≡ false) f.whole h.no_tab)))

pub words_done : (rest left : List ℕ) (items : List (List ℕ)) → items ++ words_in left ≡ words_in rest → IsTrue (is_spaces left) → IsTrue (is_ok (words_at rest)) → words_at rest ≡ Ok items
words_done rest left items e s h =
    (words_checked rest h).1 ∙ ap Ok (sym (sym (append-nil items) ∙ ap (λ (ws : List (List ℕ)). items ++ ws) (sym (no_words left s)) ∙ e))

pub words_begun : (rest : List ℕ) → IsTrue (is_text rest) → IsTrue (is_ok (words_at rest)) → IsLeft rest
words_begun rest h k = record { text = h; no_tab = (words_checked rest k).0 }

pub behind_none : (r : Result (List Pair) ReadFault) → behind_pairs [] r ≡ r
behind_none (Ok ps) = refl
behind_none (Err f) = refl

pub sentences_more : (sentences more : List (List ℕ)) (s : List ℕ) → sentences ≡ s ∷ more → IsTrue (list_all is_sentence sentences) → IsTrue (list_all is_sentence more)
sentences_more sentences more s is h = (and_parts (is_sentence s) (list_all is_sentence more) (subst (λ x. IsTrue (list_all is_sentence x)) is h)).1

-- flags, with and without the empty parts between their spaces
flags_kept : (parts : List (List ℕ)) → is_among (codes "b") (without_empty parts) ≡ is_among (codes "b") parts
flags_kept [] = refl
flags_kept ([] ∷ more) = flags_kept more
flags_kept ((b ∷ bs) ∷ more) = ap (λ t. same_name (codes "b") (b ∷ bs) || t) (flags_kept more)

pub flags_among : (flags : List ℕ) → is_among (codes "b") (words_in flags) ≡ has_flag flags
unfolding words_in
flags_among flags = flags_kept (between 32 flags)

-- The slices of a line that the readers take, and what kind of bytes they have.
use Rattle.std.proofs.Common.{◌≡◌, ℕ, ◌<◌, List, [], ◌∷◌, ◌++◌, length, refl, ap, subst, ◌∙◌, Bool, true, false, cond, arith}
use Rattle.std.specs.Prelude.{◌==◌, not, nat_le, IsTrue, Ok, Err}
use Rattle.std.specs.List.{list_all}
use Rattle.std.proofs.lemmas.Bool.{and_parts, and_from, not-true, le-leb}
use Rattle.line_words.specs.Bytes.{is_spaces, has_byte, is_text, is_text_byte, is_word, is_word_byte, is_sentence, is_sentence_byte}
use Rattle.line_words.specs.Sentences.{between_tabs}
use Rattle.line_words.specs.Parts.{before, from, between, with_front}
use Rattle.line_words.specs.Words.{FirstWord}
use Rattle.command_grammar.specs.declared.command.ReadFault.TheVariants as fault
use Rattle.command_grammar.specs.Readers.{without_spaces, checked_word, word_at}
use Rattle.command_grammar.proofs.Cuts.{first_word_is, spaces_skipped, nor_first, nor_second}

pub word_missing : (rest : List ℕ) → IsTrue (is_spaces rest) → word_at rest ≡ Err fault.MissingArgument
unfolding word_at
word_missing rest h = rw (spaces_skipped rest h) refl

checked_is : (w r : List ℕ) (t : Bool) → 0 < length w → has_byte 9 w ≡ t → checked_word w r ≡ cond t (Err fault.BadByte) (Ok (w, r))
checked_is [] r t h is = absurd (omega arith)
checked_is (b ∷ bs) r t h is = rw is refl

pub word_read : (rest w r : List ℕ) (t : Bool) → FirstWord rest w r → has_byte 9 w ≡ t → word_at rest ≡ cond t (Err fault.BadByte) (Ok (w, r))
unfolding word_at
word_read rest w r t f is =
    let p = first_word_is f in
    ap (λ (v : List ℕ). checked_word v (from 32 (without_spaces rest))) p.front ∙ ap (λ (s : List ℕ). checked_word w s) p.back ∙ checked_is w r t f.some_byte is

-- Both parts of a text are texts.
pub text_front : (xs ys : List ℕ) → IsTrue (is_text (xs ++ ys)) → IsTrue (is_text xs)
text_front [] ys h = refl
text_front (x ∷ xs) ys h = let both = and_parts (is_text_byte x) (is_text (xs ++ ys)) h in and_from (is_text_byte x) (is_text xs) both.0 (text_front xs ys both.1)

pub text_back : (xs ys : List ℕ) → IsTrue (is_text (xs ++ ys)) → IsTrue (is_text ys)
text_back [] ys h = h
text_back (x ∷ xs) ys h = let both = and_parts (is_text_byte x) (is_text (xs ++ ys)) h in text_back xs ys both.1

-- What stands behind has the bytes of the whole.
all_from_by : (test : ℕ → Bool) (stop b : ℕ) (bs : List ℕ) (t : Bool) → IsTrue (list_all test (b ∷ bs)) → IsTrue (list_all test (from stop bs)) → IsTrue (list_all test (cond t (b ∷ bs) (from stop bs)))
all_from_by test stop b bs true h k = h
all_from_by test stop b bs false h k = k

all_from : (test : ℕ → Bool) (stop : ℕ) (bs : List ℕ) → IsTrue (list_all test bs) → IsTrue (list_all test (from stop bs))
all_from test stop [] h = h
all_from test stop (b ∷ bs) h = all_from_by test stop b bs (b == stop) h (all_from test stop bs (and_parts (test b) (list_all test bs) h).1)

pub text_behind : (stop : ℕ) (text : List ℕ) → IsTrue (is_text text) → IsTrue (is_text (from stop text))
text_behind = all_from is_text_byte

-- What stands before the first tab of a text is a sentence.
front_by : (b : ℕ) (bs : List ℕ) (t : Bool) → (b == 9) ≡ t → IsTrue (is_text_byte b) → IsTrue (is_sentence (before 9 bs)) → IsTrue (is_sentence (cond t [] (b ∷ before 9 bs)))
front_by b bs true is h k = refl
front_by b bs false is h k = and_from (is_sentence_byte b) (is_sentence (before 9 bs)) (and_from (not (b == 9)) (is_text_byte b) (ap not is) h) k

pub sentence_front : (text : List ℕ) → IsTrue (is_text text) → IsTrue (is_sentence (before 9 text))
sentence_front [] h = refl
sentence_front (b ∷ bs) h = let both = and_parts (is_text_byte b) (is_text bs) h in front_by b bs (b == 9) refl both.0 (sentence_front bs both.1)

pub sentence_behind : (sentence : List ℕ) → IsTrue (is_sentence sentence) → IsTrue (is_sentence (from 61 sentence))
sentence_behind = all_from is_sentence_byte 61

-- What has no space and no tab in a text is a word.
word_bytes : (w : List ℕ) → IsTrue (is_text w) → IsTrue (not (has_byte 32 w)) → has_byte 9 w ≡ false → IsTrue (list_all is_word_byte w)
word_bytes [] h s t = refl
word_bytes (x ∷ w) h s t =
    let both = and_parts (is_text_byte x) (is_text w) h in
    let tabs : IsTrue (not (has_byte 9 (x ∷ w))) = ap not t in
    rw (nor_first (x == 32) (has_byte 32 w) s, nor_first (x == 9) (has_byte 9 w) tabs, both.0)
    (word_bytes w both.1 (nor_second (x == 32) (has_byte 32 w) s) (not-true (has_byte 9 w) (nor_second (x == 9) (has_byte 9 w) tabs)))

pub word_kind : (rest w r : List ℕ) → IsTrue (is_text rest) → FirstWord rest w r → has_byte 9 w ≡ false → IsTrue (is_word w)
word_kind rest w r h f t =
    let whole : IsTrue (is_text (f.gap ++ (w ++ r))) = subst (λ s. IsTrue (is_text s)) f.whole h in
    and_from (nat_le 1 (length w)) (list_all is_word_byte w) (le-leb 1 (length w) (let s = f.some_byte in omega arith))
    (word_bytes w (text_front w r (text_back f.gap (w ++ r) whole)) f.no_space t)

-- The sentences of a text are sentences.
front_kind : (b : ℕ) (parts : List (List ℕ)) → IsTrue (is_sentence_byte b) → IsTrue (list_all is_sentence parts) → IsTrue (list_all is_sentence (with_front b parts))
front_kind b [] h k = rw h refl
front_kind b (x ∷ xs) h k =
    let both = and_parts (is_sentence x) (list_all is_sentence xs) k in
    and_from (is_sentence (b ∷ x)) (list_all is_sentence xs) (and_from (is_sentence_byte b) (is_sentence x) h both.0) both.1

cut_kind : (t : Bool) (b : ℕ) (bs : List ℕ) → (b == 9) ≡ t → IsTrue (is_text_byte b) → IsTrue (list_all is_sentence (between 9 bs)) → IsTrue (list_all is_sentence (cond t ([] ∷ between 9 bs) (with_front b (between 9 bs))))
cut_kind true b bs is h k = k
cut_kind false b bs is h k = front_kind b (between 9 bs) (and_from (not (b == 9)) (is_text_byte b) (ap not is) h) k

pub sentence_kinds : (text : List ℕ) → IsTrue (is_text text) → IsTrue (list_all is_sentence (between_tabs text))
sentence_kinds [] h = refl
sentence_kinds (b ∷ bs) h =
    let both = and_parts (is_text_byte b) (is_text bs) h in
    cut_kind (b == 9) b bs refl both.0 (sentence_kinds bs both.1)

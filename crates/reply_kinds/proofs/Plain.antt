-- No byte of a line is a CR or an LF.
use Rattle.std.proofs.Common.{◌≡◌, ℕ, ◌^◌, ◌<◌, Bool, true, false, cond, List, [], ◌∷◌, ◌++◌, length, Option, Some, None, refl, arith}
use Rattle.std.specs.Prelude.{not, ◌&&◌, ◌==◌, nat_le, decimal}
use Rattle.std.specs.Fmt.{signed_decimal}
use Rattle.std.specs.List.{list_all}
use Rattle.std.proofs.lemmas.Bool.{and_parts, and_from, leb-true}
use Rattle.std.proofs.lemmas.Fmt.{digits_decimal}
use Rattle.line_words.specs.Bytes.{is_word, is_key, is_name, is_sentence, is_text, is_word_byte, is_key_byte, is_name_byte, is_sentence_byte, is_text_byte}
use Rattle.line_words.specs.declared.lists.Pair.{Pair}
use Rattle.reply_kinds.specs.declared.Reply.{Reply}
use Rattle.reply_kinds.specs.Kinds.{Kind, Word, Name, Number, Wide, Flag, OptionalWord, Words, Names, Sentence, NextSentence, Text, Pairs, Value, Values, fits, printed, all_fit, all_printed, words_text, pairs_text, pair_text, optional_text}
use Rattle.line_words.specs.Kinds.{is_pair, is_some_word}
use Rattle.reply_kinds.specs.Replies.{word_of, kinds_of, command_of, values_of, Fits, body, id_text, line_text, IsId}
use Rattle.reply_kinds.proofs.Bytes.{all_append, all_more, word_name}
use Rattle.reply_kinds.proofs.Decimals.{own, digits_words, signed_words}
use Rattle.reply_kinds.proofs.Table.{is_kind, is_row, leads, plain_word, rows}

sentence_text : (b : ℕ) → is_sentence_byte b ≡ true → is_text_byte b ≡ true
sentence_text b h = (and_parts (not (b == 9)) (is_text_byte b) h).1

word_text : (b : ℕ) → is_word_byte b ≡ true → is_text_byte b ≡ true
word_text b h = sentence_text b (and_parts (not (b == 32)) (is_sentence_byte b) h).1

key_text : (b : ℕ) → is_key_byte b ≡ true → is_text_byte b ≡ true
key_text b h = word_text b (and_parts (not (b == 61)) (is_word_byte b) h).1

pub plain_words : (w : List ℕ) → list_all is_word_byte w ≡ true → is_text w ≡ true
plain_words w h = all_more is_word_byte is_text_byte word_text w h

pub a_word : (w : List ℕ) → is_word w ≡ true → is_text w ≡ true
a_word w h = plain_words w (and_parts (nat_le 1 (length w)) (list_all is_word_byte w) h).1

pub a_name : (w : List ℕ) → is_name w ≡ true → is_text w ≡ true
a_name w h = all_more is_name_byte is_text_byte (λ b is. word_text b (word_name b is)) w (and_parts (nat_le 1 (length w) && nat_le (length w) 20) (list_all is_name_byte w) h).1

pub a_sentence : (s : List ℕ) → is_sentence s ≡ true → is_text s ≡ true
a_sentence s h = all_more is_sentence_byte is_text_byte sentence_text s h

a_pair : (p : Pair) → is_pair p ≡ true → is_text (pair_text p) ≡ true
a_pair p h =
    let parts = and_parts (is_key p.key) (is_sentence p.value) h in
    let key = and_parts (nat_le 1 (length p.key)) (list_all is_key_byte p.key) parts.0 in
    all_append is_text_byte p.key (61 ∷ p.value) (all_more is_key_byte is_text_byte key_text p.key key.1) (a_sentence p.value parts.1)

pub several : (fit : List ℕ → Bool) → ((w : List ℕ) → fit w ≡ true → is_text w ≡ true) → (ws : List (List ℕ)) → list_all fit ws ≡ true → is_text (words_text ws) ≡ true
several fit plain [] h = refl
several fit plain (w ∷ ws) h =
    let parts = and_parts (fit w) (list_all fit ws) h in
    all_append is_text_byte w (words_text ws) (plain w parts.0) (several fit plain ws parts.1)

pub pairs_plain : (separator : ℕ) (ps : List Pair) → is_text_byte separator ≡ true → list_all is_pair ps ≡ true → is_text (pairs_text separator ps) ≡ true
pairs_plain separator [] m h = refl
pairs_plain separator (p ∷ ps) m h =
    let parts = and_parts (is_pair p) (list_all is_pair ps) h in
    and_from (is_text_byte separator) (is_text (pair_text p ++ pairs_text 9 ps)) m
    (all_append is_text_byte (pair_text p) (pairs_text 9 ps) (a_pair p parts.0) (pairs_plain 9 ps refl parts.1))

pub flag_plain : (b : Bool) → is_text (cond b 49 48 ∷ []) ≡ true
flag_plain true = refl
flag_plain false = refl

pub optional_plain : (o : Option (List ℕ)) → is_some_word o ≡ true → is_text (optional_text o) ≡ true
optional_plain None h = refl
optional_plain (Some w) h = a_word w h

pub decimal_plain : (n : ℕ) → n < 2 ^ 64 → is_text (decimal n) ≡ true
decimal_plain n lt = plain_words (decimal n) (digits_words (decimal n) (digits_decimal own n lt))

-- what a kind prints
printed_plain : (k : Kind) (x : Value k) → is_kind k ≡ true → fits k x ≡ true → is_text (printed k x) ≡ true
printed_plain Word x kind fit = a_word x fit
printed_plain Name x kind fit = a_name x fit
printed_plain (Number low high) x kind fit =
    let top = leb-true high 4294967295 kind in
    let below = leb-true x high (and_parts (nat_le low x) (nat_le x high) fit).1 in
    decimal_plain x (omega arith)
printed_plain Wide x kind fit = plain_words (signed_decimal x) (signed_words x fit)
printed_plain Flag x kind fit = flag_plain x
printed_plain OptionalWord x kind fit = optional_plain x fit
printed_plain Words x kind fit = several is_word a_word x (and_parts (list_all is_word x) (nat_le 1 (length x)) fit).0
printed_plain Names x kind fit = several is_name a_name x (and_parts (list_all is_name x) (nat_le 1 (length x)) (and_parts (list_all is_name x && nat_le 1 (length x)) (nat_le (length x) 32) fit).0).0
printed_plain Sentence x kind fit = a_sentence x fit
printed_plain NextSentence x kind fit = a_sentence x fit
printed_plain Text x kind fit = fit
printed_plain Pairs x kind fit = pairs_plain 32 x refl (and_parts (list_all is_pair x) (nat_le 1 (length x)) fit).0

row_plain : (ks : List Kind) (xs : Values ks) → is_row ks ≡ true → all_fit ks xs ≡ true → is_text (all_printed ks xs) ≡ true
row_plain [] xs row fit = refl
row_plain (k ∷ ks) xs row fit =
    let p = and_parts (is_kind k) (leads k ks && is_row ks) row in
    let q = and_parts (leads k ks) (is_row ks) p.1 in
    let f = and_parts (fits k xs.0) (all_fit ks xs.1) fit in
    all_append is_text_byte (printed k xs.0) (all_printed ks xs.1) (printed_plain k xs.0 p.0 f.0) (row_plain ks xs.1 q.1 f.1)

body_plain : (r : Reply) → Fits r → is_text (body r) ≡ true
body_plain r fit =
    let c = command_of r in
    all_append is_text_byte (word_of c) (all_printed (kinds_of c) (values_of r)) (plain_words (word_of c) (plain_word c)) (row_plain (kinds_of c) (values_of r) (rows c) fit)

pub line_plain : (id : Option ℕ) (r : Reply) → IsId id → Fits r → is_text (line_text id r) ≡ true
line_plain None r small fit = body_plain r fit
line_plain (Some id) r small fit =
    all_append is_text_byte (id_text (Some id)) (body r) (all_append is_text_byte (decimal id) (32 ∷ []) (decimal_plain id (omega arith)) refl) (body_plain r fit)

-- How long a printed line can be: at most 31 bytes and what its arguments take.
use Rattle.std.proofs.Common.{◌≡◌, ℕ, ◌≤◌, ◌+◌, ◌*◌, List, [], ◌∷◌, ◌++◌, refl, true, length, arith}
use Rattle.std.specs.Prelude.{ℤ, pos, negsuc, Option, Some, None, nat_le, ◌&&◌, decimal}
use Rattle.std.specs.Fmt.{signed_decimal}
use Rattle.std.specs.List.{list_all}
use Rattle.std.proofs.lemmas.Bool.{and_parts, leb-true}
use Rattle.std.proofs.lemmas.List.{length-append}
use Rattle.std.proofs.lemmas.Fmt.{length-decimal-le, length_signed_le}
use Rattle.line_words.specs.Bytes.{is_name, is_name_byte}
use Rattle.line_words.specs.Kinds.{is_wide}
use Rattle.reply_kinds.specs.declared.Reply.{Reply}
use Rattle.reply_kinds.specs.declared.command_word.CommandWord.{CommandWord}
use Rattle.reply_kinds.specs.declared.command_word.CommandWord.TheVariants as command
use Rattle.reply_kinds.specs.Kinds.{Kind, Word, Name, Number, Wide, Flag, OptionalWord, Words, Names, Sentence, NextSentence, Text, Pairs, Value, Values, fits, words_text, pairs_text, optional_text, printed, all_fit, all_printed}
use Rattle.reply_kinds.specs.Replies.{word_of, kinds_of, command_of, values_of, Fits, IsId, id_text, line_text}
use Rattle.reply_kinds.proofs.Table.{is_kind, leads, is_row, rows}

-- what an argument of a kind takes at most, with what stands before it
abbrev pub room : (k : Kind) → Value k → ℕ
room Word w = length w + 1
room Name n = 21
room (Number low high) n = 11
room Wide z = 12
room Flag b = 2
room OptionalWord o = length (optional_text o)
room Words ws = length (words_text ws)
room Names ns = 672
room Sentence s = length s + 1
room NextSentence s = length s + 1
room Text t = length t + 1
room Pairs ps = length (pairs_text 32 ps)

abbrev pub all_room : (ks : List Kind) → Values ks → ℕ
all_room [] xs = 0
all_room (k ∷ ks) xs = room k xs.0 + all_room ks xs.1

name_room : (n : List ℕ) → is_name n ≡ true → length n ≤ 20
name_room n e =
    let sized = and_parts (nat_le 1 (length n) && nat_le (length n) 20) (list_all is_name_byte n) e in
    leb-true (length n) 20 (and_parts (nat_le 1 (length n)) (nat_le (length n) 20) sized.0).1

names_room : (ns : List (List ℕ)) → list_all is_name ns ≡ true → length (words_text ns) ≤ 21 * length ns
names_room [] e = omega arith
names_room (n ∷ ns) e =
    let p = and_parts (is_name n) (list_all is_name ns) e in
    let one = name_room n p.0 in
    let rest = names_room ns p.1 in
    omega (arith, length-append n (words_text ns))

-- numbers have at most ten digits
number_room : (low high n : ℕ) → nat_le high 4294967295 ≡ true → (nat_le low n && nat_le n high) ≡ true → length (decimal n) ≤ 10
number_room low high n small fit =
    let top = leb-true high 4294967295 small in
    let below = leb-true n high (and_parts (nat_le low n) (nat_le n high) fit).1 in
    length-decimal-le 10 n (omega arith) (omega arith) (omega arith)

wide_room : (z : ℤ) → is_wide z ≡ true → length (signed_decimal z) ≤ 11
wide_room (pos n) e =
    let top = leb-true n 4294967295 e in
    let ten = length-decimal-le 10 n (omega arith) (omega arith) (omega arith) in
    omega arith
wide_room (negsuc n) e = let top = leb-true n 2147483647 e in length_signed_le 10 (negsuc n) (omega arith) (omega arith)

printed_room : (k : Kind) (x : Value k) → is_kind k ≡ true → fits k x ≡ true → length (printed k x) ≤ room k x
printed_room Word w kind fit = omega arith
printed_room Name n kind fit = let most = name_room n fit in omega arith
printed_room (Number low high) n kind fit = let most = number_room low high n kind fit in omega arith
printed_room Wide z kind fit = let most = wide_room z fit in omega arith
printed_room Flag b kind fit = omega arith
printed_room OptionalWord o kind fit = omega arith
printed_room Words ws kind fit = omega arith
printed_room Names ns kind fit =
    let counted = and_parts (list_all is_name ns && nat_le 1 (length ns)) (nat_le (length ns) 32) fit in
    let all = names_room ns (and_parts (list_all is_name ns) (nat_le 1 (length ns)) counted.0).0 in
    let most = leb-true (length ns) 32 counted.1 in
    omega arith
printed_room Sentence s kind fit = omega arith
printed_room NextSentence s kind fit = omega arith
printed_room Text t kind fit = omega arith
printed_room Pairs ps kind fit = omega arith

all_in : (ks : List Kind) (xs : Values ks) → is_row ks ≡ true → all_fit ks xs ≡ true → length (all_printed ks xs) ≤ all_room ks xs
all_in [] xs row fit = omega arith
all_in (k ∷ ks) xs row fit =
    let first = and_parts (is_kind k) (leads k ks && is_row ks) row in
    let behind = and_parts (leads k ks) (is_row ks) first.1 in
    let each = and_parts (fits k xs.0) (all_fit ks xs.1) fit in
    let one = printed_room k xs.0 first.0 each.0 in
    let rest = all_in ks xs.1 behind.1 each.1 in
    omega (arith, length-append (printed k xs.0) (all_printed ks xs.1))

-- one line for each command word
word_room : (c : CommandWord) → nat_le (length (word_of c)) 19 ≡ true
word_room command.TasServer = refl
word_room c = refl

id_room : (id : Option ℕ) → IsId id → length (id_text id) ≤ 12
id_room None h = omega arith
id_room (Some id) h =
    let ten = length-decimal-le 10 id (omega arith) (omega arith) (omega arith) in
    omega (arith, length-append (decimal id) (32 ∷ []))

pub line_room : (id : Option ℕ) (r : Reply) → IsId id → Fits r → length (line_text id r) ≤ 31 + all_room (kinds_of (command_of r)) (values_of r)
line_room id r h fit =
    let a = id_room id h in
    let b = leb-true (length (word_of (command_of r))) 19 (word_room (command_of r)) in
    let d = all_in (kinds_of (command_of r)) (values_of r) (rows (command_of r)) fit in
    let whole = length-append (id_text id) (word_of (command_of r) ++ all_printed (kinds_of (command_of r)) (values_of r)) in
    let named = length-append (word_of (command_of r)) (all_printed (kinds_of (command_of r)) (values_of r)) in
    omega (arith, whole, named)

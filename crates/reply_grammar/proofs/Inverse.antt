-- Each kind, and a row of them.
use Rattle.std.proofs.Common.{◌≡◌, ℕ, zero, suc, Bool, true, false, cond, List, [], ◌∷◌, ◌++◌, length, Option, Some, None, refl, sym, ap, subst, ◌∙◌, append_assoc, arith}
use Rattle.std.specs.Prelude.{◌&&◌, ◌==◌, nat_le, decimal}
use Rattle.std.specs.List.{list_all}
use Rattle.std.proofs.lemmas.Bool.{and_parts, and_from, eqb-true, leb-true}
use Rattle.std.proofs.lemmas.Fmt.{decimal_digit}
use Rattle.std.proofs.lemmas.List.{append-nil}
use Rattle.std.proofs.lemmas.Option.{cond_some, same_Some}
use Rattle.line_words.specs.Bytes.{is_word, is_name, is_sentence, is_text, is_word_byte, is_name_byte, is_sentence_byte}
use Rattle.line_words.specs.declared.lists.Pair.{Pair}
use Rattle.line_words.specs.Parts.{Ends}
use Rattle.reply_kinds.specs.Kinds.{Kind, Word, Name, Number, Wide, Flag, OptionalWord, Words, Names, Sentence, NextSentence, Text, Pairs, Value, Values, fits, printed, all_fit, all_printed, words_text, pairs_text, pair_text, optional_text}
use Rattle.line_words.specs.Kinds.{is_pair, is_some_word}
use Rattle.reply_kinds.proofs.Table.{close_of, open_of, is_kind, goes_on, leads, is_row}
use Rattle.reply_fields.specs.Fields.{◌>>=◌, piece_at, many, if_is, pair_in, some, counted, word_at, name_at, sentence_at, text_at, optional_at, number_at, flag_at, flag_of, words_at, names_at, pairs_at}
use Rattle.reply_grammar.specs.Reading.{field, fields}
use Rattle.reply_fields.proofs.Pieces.{bind_some, piece_again, tested_again, tested_takes}
use Rattle.reply_grammar.proofs.NumberFields.{number_again, number_takes, wide_again, wide_takes}
use Rattle.reply_grammar.proofs.Several.{words_text-separated, pairs_text-separated, many_again, many_takes, word_prints, name_prints, pair_prints}

-- what may follow a kind follows
abbrev pub Follows : Option ℕ → List ℕ → Type 0
Follows (Some stop) rest = Ends stop rest
Follows None rest = rest ≡ []

-- each kind

word_again : (w rest : List ℕ) → is_word w ≡ true → Ends 32 rest → word_at (32 ∷ (w ++ rest)) ≡ Some (w, rest)
unfolding word_at
word_again w rest fit ends =
    let p = and_parts (nat_le 1 (length w)) (list_all is_word_byte w) fit in
    tested_again is_word (piece_at 32 32 (32 ∷ (w ++ rest))) w rest (piece_again is_word_byte 32 32 w rest refl p.1 ends) fit

word_takes : (bytes : List ℕ) (x : List ℕ × List ℕ) → word_at bytes ≡ Some x → (bytes ≡ 32 ∷ (x.0 ++ x.1)) × (is_word x.0 ≡ true)
unfolding word_at
word_takes bytes x e = tested_takes is_word 32 32 bytes x e

name_again : (w rest : List ℕ) → is_name w ≡ true → Ends 32 rest → name_at (32 ∷ (w ++ rest)) ≡ Some (w, rest)
unfolding name_at
name_again w rest fit ends =
    tested_again is_name (piece_at 32 32 (32 ∷ (w ++ rest))) w rest (piece_again is_name_byte 32 32 w rest refl (name_prints.bytes w fit) ends) fit

name_takes : (bytes : List ℕ) (x : List ℕ × List ℕ) → name_at bytes ≡ Some x → (bytes ≡ 32 ∷ (x.0 ++ x.1)) × (is_name x.0 ≡ true)
unfolding name_at
name_takes bytes x e = tested_takes is_name 32 32 bytes x e

sentence_again : (separator : ℕ) (w rest : List ℕ) → is_sentence w ≡ true → Ends 9 rest → sentence_at separator (separator ∷ (w ++ rest)) ≡ Some (w, rest)
unfolding sentence_at
sentence_again separator w rest fit ends =
    tested_again is_sentence (piece_at separator 9 (separator ∷ (w ++ rest))) w rest (piece_again is_sentence_byte separator 9 w rest refl fit ends) fit

sentence_takes : (separator : ℕ) (bytes : List ℕ) (x : List ℕ × List ℕ) → sentence_at separator bytes ≡ Some x → (bytes ≡ separator ∷ (x.0 ++ x.1)) × (is_sentence x.0 ≡ true)
unfolding sentence_at
sentence_takes separator bytes x e = tested_takes is_sentence separator 9 bytes x e

text_again : (t : List ℕ) → is_text t ≡ true → text_at (32 ∷ t) ≡ Some (t, [])
unfolding text_at
text_again t fit = rw fit refl

text_takes : (bytes : List ℕ) (x : List ℕ × List ℕ) → text_at bytes ≡ Some x → (bytes ≡ 32 ∷ (x.0 ++ x.1)) × (is_text x.0 ≡ true)
unfolding text_at
text_takes [] x e = absurd cc
text_takes (b ∷ bs) x e =
    let g = cond_some (b == 32 && is_text bs) (bs, []) x e in
    let p = and_parts (b == 32) (is_text bs) g.0 in
    let head : b ≡ 32 = eqb-true b 32 p.0 in
    subst (λ (q : List ℕ × List ℕ). (b ∷ bs ≡ 32 ∷ (q.0 ++ q.1)) × (is_text q.0 ≡ true)) g.1 (rw head (ap (λ (r : List ℕ). 32 ∷ r) (sym (append-nil bs))), p.1)

optional_again : (o : Option (List ℕ)) → is_some_word o ≡ true → optional_at (optional_text o) ≡ Some (o, [])
unfolding optional_at
optional_again None fit = refl
optional_again (Some w) fit =
    let e : word_at (32 ∷ w) ≡ Some (w, []) = ap (λ (r : List ℕ). word_at (32 ∷ r)) (sym (append-nil w)) ∙ word_again w [] fit tt in
    rw e refl

optional_takes : (bytes : List ℕ) (x : Option (List ℕ) × List ℕ) → optional_at bytes ≡ Some x → (bytes ≡ optional_text x.0 ++ x.1) × (is_some_word x.0 ≡ true)
unfolding optional_at
optional_takes [] x e = subst (λ (q : Option (List ℕ) × List ℕ). ([] ≡ optional_text q.0 ++ q.1) × (is_some_word q.0 ≡ true)) (same_Some (None, []) x e) (refl, refl)
optional_takes (b ∷ bs) x e =
    let p = bind_some (word_at (b ∷ bs)) (λ p. Some (Some p.0, p.1)) x e in
    subst (λ (q : Option (List ℕ) × List ℕ). (b ∷ bs ≡ optional_text q.0 ++ q.1) × (is_some_word q.0 ≡ true)) (same_Some (Some p.0.0, p.0.1) x p.2) (word_takes (b ∷ bs) p.0 p.1)

flag_text : Bool → ℕ
flag_text b = cond b 49 48

flag_again : (b : Bool) (rest : List ℕ) → Ends 32 rest → flag_at (32 ∷ (cond b 49 48 ∷ rest)) ≡ Some (b, rest)
unfolding flag_at
flag_again true rest ends =
    let e : number_at 0 1 (32 ∷ 49 ∷ rest) ≡ Some (1, rest) = ap (λ (d : List ℕ). number_at 0 1 (32 ∷ (d ++ rest))) (sym (decimal_digit 1 (omega arith))) ∙ number_again 0 1 1 rest (omega arith) refl ends in
    rw e refl
flag_again false rest ends =
    let e : number_at 0 1 (32 ∷ 48 ∷ rest) ≡ Some (0, rest) = ap (λ (d : List ℕ). number_at 0 1 (32 ∷ (d ++ rest))) (sym (decimal_digit 0 (omega arith))) ∙ number_again 0 1 0 rest (omega arith) refl ends in
    rw e refl

flag_is : (n : ℕ) → (nat_le 0 n && nat_le n 1) ≡ true → decimal n ≡ cond (n == 1) 49 48 ∷ []
flag_is zero h = decimal_digit 0 (omega arith)
flag_is (suc zero) h = decimal_digit 1 (omega arith)
flag_is (suc (suc n)) h = absurd (let l = leb-true (suc (suc n)) 1 (and_parts (nat_le 0 (suc (suc n))) (nat_le (suc (suc n)) 1) h).1 in omega arith)

flag_takes : (bytes : List ℕ) (x : Bool × List ℕ) → flag_at bytes ≡ Some x → bytes ≡ 32 ∷ (cond x.0 49 48 ∷ x.1)
unfolding flag_at
flag_takes bytes x e =
    let p = bind_some (number_at 0 1 bytes) (λ p. Some (flag_of p.0, p.1)) x e in
    let t = number_takes 0 1 bytes p.0 p.1 in
    subst (λ (q : Bool × List ℕ). bytes ≡ 32 ∷ (cond q.0 49 48 ∷ q.1)) (same_Some (flag_of p.0.0, p.0.1) x p.2) (t.0 ∙ ap (λ (d : List ℕ). 32 ∷ (d ++ p.0.1)) (flag_is p.0.0 t.1))

words_again : (ws : List (List ℕ)) → (list_all is_word ws && nat_le 1 (length ws)) ≡ true → words_at (words_text ws) ≡ Some (ws, [])
unfolding words_at
words_again ws fit =
    let p = and_parts (list_all is_word ws) (nat_le 1 (length ws)) fit in
    rw (words_text-separated ws, many_again (if_is is_word) (λ w. w) is_word is_word_byte 32 refl word_prints 32 ws p.0, p.1) refl

words_take : (bytes : List ℕ) (x : List (List ℕ) × List ℕ) → words_at bytes ≡ Some x → (bytes ≡ words_text x.0 ++ x.1) × ((list_all is_word x.0 && nat_le 1 (length x.0)) ≡ true)
unfolding words_at
words_take bytes x e =
    let p = bind_some (many (if_is is_word) 32 32 bytes) some x e in
    let g = cond_some (nat_le 1 (length p.0)) (p.0, []) x p.2 in
    let t = many_takes (if_is is_word) (λ w. w) is_word is_word_byte 32 word_prints 32 bytes p.0 p.1 in
    subst (λ (q : List (List ℕ) × List ℕ). (bytes ≡ words_text q.0 ++ q.1) × ((list_all is_word q.0 && nat_le 1 (length q.0)) ≡ true)) g.1
    (t.0 ∙ sym (words_text-separated p.0) ∙ sym (append-nil (words_text p.0)), and_from (list_all is_word p.0) (nat_le 1 (length p.0)) t.1 g.0)

names_again : (ws : List (List ℕ)) → (list_all is_name ws && nat_le 1 (length ws) && nat_le (length ws) 32) ≡ true → names_at (words_text ws) ≡ Some (ws, [])
unfolding names_at
names_again ws fit =
    let q = and_parts (list_all is_name ws && nat_le 1 (length ws)) (nat_le (length ws) 32) fit in
    let p = and_parts (list_all is_name ws) (nat_le 1 (length ws)) q.0 in
    rw (words_text-separated ws, many_again (if_is is_name) (λ w. w) is_name is_name_byte 32 refl name_prints 32 ws p.0, p.1, q.1) refl

names_take : (bytes : List ℕ) (x : List (List ℕ) × List ℕ) → names_at bytes ≡ Some x → (bytes ≡ words_text x.0 ++ x.1) × ((list_all is_name x.0 && nat_le 1 (length x.0) && nat_le (length x.0) 32) ≡ true)
unfolding names_at
names_take bytes x e =
    let p = bind_some (many (if_is is_name) 32 32 bytes) (counted 32) x e in
    let g = cond_some (nat_le 1 (length p.0) && nat_le (length p.0) 32) (p.0, []) x p.2 in
    let c = and_parts (nat_le 1 (length p.0)) (nat_le (length p.0) 32) g.0 in
    let t = many_takes (if_is is_name) (λ w. w) is_name is_name_byte 32 name_prints 32 bytes p.0 p.1 in
    subst (λ (q : List (List ℕ) × List ℕ). (bytes ≡ words_text q.0 ++ q.1) × ((list_all is_name q.0 && nat_le 1 (length q.0) && nat_le (length q.0) 32) ≡ true)) g.1
    (t.0 ∙ sym (words_text-separated p.0) ∙ sym (append-nil (words_text p.0)), and_from (list_all is_name p.0 && nat_le 1 (length p.0)) (nat_le (length p.0) 32) (and_from (list_all is_name p.0) (nat_le 1 (length p.0)) t.1 c.0) c.1)

pairs_again : (ps : List Pair) → (list_all is_pair ps && nat_le 1 (length ps)) ≡ true → pairs_at (pairs_text 32 ps) ≡ Some (ps, [])
unfolding pairs_at
pairs_again ps fit =
    let p = and_parts (list_all is_pair ps) (nat_le 1 (length ps)) fit in
    rw (pairs_text-separated 32 ps, many_again pair_in pair_text is_pair is_sentence_byte 9 refl pair_prints 32 ps p.0, p.1) refl

pairs_take : (bytes : List ℕ) (x : List Pair × List ℕ) → pairs_at bytes ≡ Some x → (bytes ≡ pairs_text 32 x.0 ++ x.1) × ((list_all is_pair x.0 && nat_le 1 (length x.0)) ≡ true)
unfolding pairs_at
pairs_take bytes x e =
    let p = bind_some (many pair_in 32 9 bytes) some x e in
    let g = cond_some (nat_le 1 (length p.0)) (p.0, []) x p.2 in
    let t = many_takes pair_in pair_text is_pair is_sentence_byte 9 pair_prints 32 bytes p.0 p.1 in
    subst (λ (q : List Pair × List ℕ). (bytes ≡ pairs_text 32 q.0 ++ q.1) × ((list_all is_pair q.0 && nat_le 1 (length q.0)) ≡ true)) g.1
    (t.0 ∙ sym (pairs_text-separated 32 p.0) ∙ sym (append-nil (pairs_text 32 p.0)), and_from (list_all is_pair p.0) (nat_le 1 (length p.0)) t.1 g.0)

-- any kind

whole_rest : {A : Type 0} (at : List ℕ → Option (A × List ℕ)) (text rest : List ℕ) (x : A) → rest ≡ [] → at text ≡ Some (x, []) → at (text ++ rest) ≡ Some (x, rest)
whole_rest {A} at text rest x none e =
    subst (λ (r : List ℕ). at (text ++ r) ≡ Some (x, r)) (sym none) (ap at (append-nil text) ∙ e)

pub field_again : (k : Kind) (x : Value k) (rest : List ℕ) → is_kind k ≡ true → fits k x ≡ true → Follows (close_of k) rest → field k (printed k x ++ rest) ≡ Some (x, rest)
field_again Word x rest kind fit ends = word_again x rest fit ends
field_again Name x rest kind fit ends = name_again x rest fit ends
field_again (Number low high) x rest kind fit ends = number_again low high x rest (leb-true high 4294967295 kind) fit ends
field_again Wide x rest kind fit ends = wide_again x rest fit ends
field_again Flag x rest kind fit ends = flag_again x rest ends
field_again OptionalWord x rest kind fit ends = whole_rest optional_at (optional_text x) rest x ends (optional_again x fit)
field_again Words x rest kind fit ends = whole_rest words_at (words_text x) rest x ends (words_again x fit)
field_again Names x rest kind fit ends = whole_rest names_at (words_text x) rest x ends (names_again x fit)
field_again Sentence x rest kind fit ends = sentence_again 32 x rest fit ends
field_again NextSentence x rest kind fit ends = sentence_again 9 x rest fit ends
field_again Text x rest kind fit ends = whole_rest text_at (32 ∷ x) rest x ends (text_again x fit)
field_again Pairs x rest kind fit ends = whole_rest pairs_at (pairs_text 32 x) rest x ends (pairs_again x fit)

pub field_takes : (k : Kind) (bytes : List ℕ) (x : Value k × List ℕ) → field k bytes ≡ Some x → (bytes ≡ printed k x.0 ++ x.1) × (fits k x.0 ≡ true)
field_takes Word bytes x e = word_takes bytes x e
field_takes Name bytes x e = name_takes bytes x e
field_takes (Number low high) bytes x e = number_takes low high bytes x e
field_takes Wide bytes x e = wide_takes bytes x e
field_takes Flag bytes x e = (flag_takes bytes x e, refl)
field_takes OptionalWord bytes x e = optional_takes bytes x e
field_takes Words bytes x e = words_take bytes x e
field_takes Names bytes x e = names_take bytes x e
field_takes Sentence bytes x e = sentence_takes 32 bytes x e
field_takes NextSentence bytes x e = sentence_takes 9 bytes x e
field_takes Text bytes x e = text_takes bytes x e
field_takes Pairs bytes x e = pairs_take bytes x e

-- a row

opens_optional : (o : Option (List ℕ)) (rest : List ℕ) → Ends 32 rest → Ends 32 (optional_text o ++ rest)
opens_optional None rest e = e
opens_optional (Some w) rest e = refl

opens_words : (ws : List (List ℕ)) (rest : List ℕ) → Ends 32 rest → Ends 32 (words_text ws ++ rest)
opens_words [] rest e = e
opens_words (w ∷ ws) rest e = refl

opens_pairs : (ps : List Pair) (rest : List ℕ) → Ends 32 rest → Ends 32 (pairs_text 32 ps ++ rest)
opens_pairs [] rest e = e
opens_pairs (p ∷ ps) rest e = refl

no_more : (k : Kind) (ks : List Kind) (xs : Values ks) → close_of k ≡ None → leads k ks ≡ true → all_printed ks xs ≡ []
no_more k [] xs close lead = refl
no_more k (after ∷ ks) xs close lead = absurd (let never : false ≡ true = ap (λ (o : Option ℕ). goes_on o after) (sym close) ∙ lead in let n : ⊥ = cc in n)

ends_nil : (rest : List ℕ) → rest ≡ [] → Ends 32 rest
ends_nil rest e = subst (λ (r : List ℕ). Ends 32 r) (sym e) tt

pub opens : (k : Kind) (x : Value k) (ks : List Kind) (xs : Values ks) → leads k ks ≡ true → Ends (open_of k) (printed k x ++ all_printed ks xs)
opens Word x ks xs lead = refl
opens Name x ks xs lead = refl
opens (Number low high) x ks xs lead = refl
opens Wide x ks xs lead = refl
opens Flag x ks xs lead = refl
opens OptionalWord x ks xs lead = opens_optional x (all_printed ks xs) (ends_nil (all_printed ks xs) (no_more OptionalWord ks xs refl lead))
opens Words x ks xs lead = opens_words x (all_printed ks xs) (ends_nil (all_printed ks xs) (no_more Words ks xs refl lead))
opens Names x ks xs lead = opens_words x (all_printed ks xs) (ends_nil (all_printed ks xs) (no_more Names ks xs refl lead))
opens Sentence x ks xs lead = refl
opens NextSentence x ks xs lead = refl
opens Text x ks xs lead = refl
opens Pairs x ks xs lead = opens_pairs x (all_printed ks xs) (ends_nil (all_printed ks xs) (no_more Pairs ks xs refl lead))

follows_by : (o : Option ℕ) (after : Kind) (rest : List ℕ) → goes_on o after ≡ true → Ends (open_of after) rest → Follows o rest
follows_by None after rest h e = absurd cc
follows_by (Some stop) after rest h e = subst (λ (s : ℕ). Ends s rest) (eqb-true (open_of after) stop h) e

follows_nil : (o : Option ℕ) → Follows o []
follows_nil None = refl
follows_nil (Some stop) = tt

pub follows : (k : Kind) (ks : List Kind) (xs : Values ks) → leads k ks ≡ true → is_row ks ≡ true → Follows (close_of k) (all_printed ks xs)
follows k [] xs lead row = follows_nil (close_of k)
follows k (after ∷ ks) xs lead row =
    let p = and_parts (is_kind after) (leads after ks && is_row ks) row in
    let q = and_parts (leads after ks) (is_row ks) p.1 in
    follows_by (close_of k) after (all_printed (after ∷ ks) xs) lead (opens after xs.0 ks xs.1 q.0)

bound : {A B : Type 0} (r : Option (A × List ℕ)) (then : List ℕ → Option (B × List ℕ)) (x : A) (text : List ℕ) (xs : B) → r ≡ Some (x, text) → then text ≡ Some (xs, [])
    → ◌>>=◌ {B = (A × B) × List ℕ} r (λ a. ◌>>=◌ {B = (A × B) × List ℕ} (then a.1) (λ b. Some ((a.0, b.0), b.1))) ≡ Some ((x, xs), [])
bound r then x text xs p q = rw (p, q) refl

pub fields_again : (ks : List Kind) (xs : Values ks) → is_row ks ≡ true → all_fit ks xs ≡ true → fields ks (all_printed ks xs) ≡ Some (xs, [])
fields_again [] xs row fit = refl
fields_again (k ∷ ks) xs row fit =
    let p = and_parts (is_kind k) (leads k ks && is_row ks) row in
    let q = and_parts (leads k ks) (is_row ks) p.1 in
    let f = and_parts (fits k xs.0) (all_fit ks xs.1) fit in
    let first = field_again k xs.0 (all_printed ks xs.1) p.0 f.0 (follows k ks xs.1 q.0 q.1) in
    let rest = fields_again ks xs.1 q.1 f.1 in
    bound (field k (printed k xs.0 ++ all_printed ks xs.1)) (fields ks) xs.0 (all_printed ks xs.1) xs.1 first rest

pub fields_take : (ks : List Kind) (bytes : List ℕ) (x : Values ks × List ℕ) → fields ks bytes ≡ Some x → (bytes ≡ all_printed ks x.0 ++ x.1) × (all_fit ks x.0 ≡ true)
fields_take [] bytes x e = (ap (λ (p : Unit {0} × List ℕ). p.1) (same_Some (tt, bytes) x e), refl)
fields_take (k ∷ ks) bytes x e =
    let a = bind_some (field k bytes) (λ a. fields ks a.1 >>= λ xs. Some ((a.0, xs.0), xs.1)) x e in
    let b = bind_some (fields ks a.0.1) (λ xs. Some ((a.0.0, xs.0), xs.1)) x a.2 in
    let first = field_takes k bytes a.0 a.1 in
    let second = fields_take ks a.0.1 b.0 b.1 in
    let made : Values (k ∷ ks) × List ℕ = ((a.0.0, b.0.0), b.0.1) in
    subst (λ (q : Values (k ∷ ks) × List ℕ). (bytes ≡ all_printed (k ∷ ks) q.0 ++ q.1) × (all_fit (k ∷ ks) q.0 ≡ true)) (same_Some made x b.2)
    (first.0 ∙ ap (λ (r : List ℕ). printed k a.0.0 ++ r) second.0 ∙ sym (append_assoc (printed k a.0.0) (all_printed ks b.0.0) b.0.1), and_from (fits k a.0.0) (all_fit ks b.0.0) first.1 second.1)

-- Several arguments up to the end.
use Rattle.std.proofs.Common.{◌≡◌, ℕ, Bool, true, false, cond, List, [], ◌∷◌, ◌++◌, length, Option, Some, None, refl, sym, ap, subst, ◌∙◌}
use Rattle.std.specs.Prelude.{◌&&◌, ◌==◌, nat_le}
use Rattle.std.specs.List.{list_all}
use Rattle.std.proofs.lemmas.Bool.{and_parts, and_from, eqb-true, eq-eqb}
use Rattle.std.proofs.lemmas.Option.{cond_some, same_Some}
use Rattle.line_words.specs.Bytes.{is_word, is_key, is_name, is_sentence, is_word_byte, is_key_byte, is_name_byte, is_sentence_byte}
use Rattle.line_words.specs.declared.lists.Pair.{Pair}
use Rattle.line_words.specs.Parts.{Ends, before, between, from, with_front}
use Rattle.line_words.proofs.Splitting.{before-append, before-from, from-append}
use Rattle.line_words.proofs.Splitting.{between-cons, from_ends}
use Rattle.reply_kinds.specs.Kinds.{words_text, pairs_text, pair_text}
use Rattle.line_words.specs.Kinds.{is_pair}
use Rattle.reply_kinds.proofs.Bytes.{pair_sentence}
use Rattle.reply_fields.specs.Fields.{◌>>=◌, all_of, many, if_is, pair_of, pair_in}
use Rattle.reply_fields.proofs.Pieces.{bind_some}

-- a byte before each
abbrev pub separated : {A : Type 0} → (A → List ℕ) → ℕ → ℕ → List A → List ℕ
separated text separator next [] = []
separated text separator next (x ∷ xs) = separator ∷ (text x ++ separated text next next xs)

pub words_text-separated : (ws : List (List ℕ)) → words_text ws ≡ separated (λ w. w) 32 32 ws
words_text-separated [] = refl
words_text-separated (w ∷ ws) = ap (λ (r : List ℕ). 32 ∷ (w ++ r)) (words_text-separated ws)

pub pairs_text-separated : (separator : ℕ) (ps : List Pair) → pairs_text separator ps ≡ separated pair_text separator 9 ps
pairs_text-separated separator [] = refl
pairs_text-separated separator (p ∷ ps) = ap (λ (r : List ℕ). separator ∷ (pair_text p ++ r)) (pairs_text-separated 9 ps)

-- a way to read one, and to print it
pub record Prints {A : Type 0} (one : List ℕ → Option A) (text : A → List ℕ) (fit : A → Bool) (test : ℕ → Bool) : Type 0 where
  pub again : (x : A) → fit x ≡ true → one (text x) ≡ Some x
  pub takes : (s : List ℕ) (x : A) → one s ≡ Some x → (s ≡ text x) × (fit x ≡ true)
  pub bytes : (x : A) → fit x ≡ true → list_all test (text x) ≡ true

ends_separated : {A : Type 0} (text : A → List ℕ) (stop : ℕ) (xs : List A) → Ends stop (separated text stop stop xs)
ends_separated text stop [] = tt
ends_separated text stop (x ∷ xs) = refl

module _ {A : Type 0} (one : List ℕ → Option A) (text : A → List ℕ) (fit : A → Bool) (test : ℕ → Bool) (stop : ℕ) (no_stop : test stop ≡ false) (prints : Prints one text fit test) where
  parts_again : (x : A) (xs : List A) → list_all fit (x ∷ xs) ≡ true → all_of one (between stop (text x ++ separated text stop stop xs)) ≡ Some (x ∷ xs)
  parts_again x [] fits =
      let p = and_parts (fit x) true fits in
      let b = prints.bytes x p.0 in
      rw (between-cons stop (text x ++ []), before-append test stop (text x) [] no_stop b tt, from-append test stop (text x) [] no_stop b tt, prints.again x p.0) refl
  parts_again x (y ∷ ys) fits =
      let p = and_parts (fit x) (list_all fit (y ∷ ys)) fits in
      let b = prints.bytes x p.0 in
      let rest : List ℕ = separated text stop stop (y ∷ ys) in
      rw (between-cons stop (text x ++ rest), before-append test stop (text x) rest no_stop b refl, from-append test stop (text x) rest no_stop b refl, prints.again x p.0, parts_again y ys p.1) refl

  pub many_again : (separator : ℕ) (xs : List A) → list_all fit xs ≡ true → many one separator stop (separated text separator stop xs) ≡ Some xs
  unfolding many
  many_again separator [] fits = refl
  many_again separator (x ∷ xs) fits = rw (eq-eqb separator separator refl) (parts_again x xs fits)

both : (separator : ℕ) (s a r t : List ℕ) → s ≡ a → r ≡ t → separator ∷ (s ++ r) ≡ separator ∷ (a ++ t)
both separator s a r t p q = cc

given : {A : Type 0} (b : Bool) (x : Option A) (y : A) → cond b x None ≡ Some y → (b ≡ true) × (x ≡ Some y)
given true x y e = (refl, e)
given false x y e = absurd cc

-- the parts, joined again
abbrev joined : ℕ → List (List ℕ) → List ℕ
joined stop [] = []
joined stop (s ∷ ss) = s ++ separated (λ w. w) stop stop ss

joined-with_front : (stop b : ℕ) (ss : List (List ℕ)) → joined stop (with_front b ss) ≡ b ∷ joined stop ss
joined-with_front stop b [] = refl
joined-with_front stop b (s ∷ ss) = refl

-- there is one at least
abbrev HasParts : List (List ℕ) → Type 0
HasParts [] = ⊥
HasParts (s ∷ ss) = Unit {0}

has_front : (b : ℕ) (ss : List (List ℕ)) → HasParts (with_front b ss)
has_front b [] = tt
has_front b (s ∷ ss) = tt

has_parts_at : (t : Bool) (stop b : ℕ) (bs : List ℕ) → HasParts (cond t ([] ∷ between stop bs) (with_front b (between stop bs)))
has_parts_at true stop b bs = tt
has_parts_at false stop b bs = has_front b (between stop bs)

has_parts : (stop : ℕ) (bs : List ℕ) → HasParts (between stop bs)
has_parts stop [] = tt
has_parts stop (b ∷ bs) = has_parts_at (b == stop) stop b bs

joined-nil : (stop : ℕ) (ss : List (List ℕ)) → HasParts ss → joined stop ([] ∷ ss) ≡ stop ∷ joined stop ss
joined-nil stop [] h = absurd h
joined-nil stop (s ∷ ss) h = refl

joined-between_at : (t : Bool) (stop b : ℕ) (bs : List ℕ) → (b == stop) ≡ t → joined stop (between stop bs) ≡ bs → joined stop (cond t ([] ∷ between stop bs) (with_front b (between stop bs))) ≡ b ∷ bs
joined-between_at true stop b bs is e =
    let head : b ≡ stop = eqb-true b stop is in
    joined-nil stop (between stop bs) (has_parts stop bs) ∙ rw (e, head) refl
joined-between_at false stop b bs is e = joined-with_front stop b (between stop bs) ∙ ap (λ (r : List ℕ). b ∷ r) e

pub joined-between : (stop : ℕ) (bs : List ℕ) → joined stop (between stop bs) ≡ bs
joined-between stop [] = refl
joined-between stop (b ∷ bs) = joined-between_at (b == stop) stop b bs refl (joined-between stop bs)

module _ {A : Type 0} (one : List ℕ → Option A) (text : A → List ℕ) (fit : A → Bool) (test : ℕ → Bool) (stop : ℕ) (prints : Prints one text fit test) where
  parts_take : (separator : ℕ) (ss : List (List ℕ)) (xs : List A) → all_of one ss ≡ Some xs → (separated (λ s. s) separator stop ss ≡ separated text separator stop xs) × (list_all fit xs ≡ true)
  parts_take separator [] xs e = subst (λ (ys : List A). ([] ≡ separated text separator stop ys) × (list_all fit ys ≡ true)) (same_Some [] xs e) (refl, refl)
  parts_take separator (s ∷ ss) xs e =
      let x = bind_some (one s) (λ x. all_of one ss >>= λ xs. Some (x ∷ xs)) xs e in
      let ys = bind_some (all_of one ss) (λ xs. Some (x.0 ∷ xs)) xs x.2 in
      let first = prints.takes s x.0 x.1 in
      let rest = parts_take stop ss ys.0 ys.1 in
      subst (λ (zs : List A). (separated (λ s. s) separator stop (s ∷ ss) ≡ separated text separator stop zs) × (list_all fit zs ≡ true)) (same_Some (x.0 ∷ ys.0) xs ys.2)
      (both separator s (text x.0) (separated (λ s. s) stop stop ss) (separated text stop stop ys.0) first.0 rest.0, and_from (fit x.0) (list_all fit ys.0) first.1 rest.1)

  first_separator : (separator : ℕ) (ss : List (List ℕ)) (xs : List A) → HasParts ss → all_of one ss ≡ Some xs → (separator ∷ joined stop ss ≡ separated text separator stop xs) × (list_all fit xs ≡ true)
  first_separator separator [] xs h e = absurd h
  first_separator separator (s ∷ ss) xs h e = parts_take separator (s ∷ ss) xs e

  pub many_takes : (separator : ℕ) (bytes : List ℕ) (xs : List A) → many one separator stop bytes ≡ Some xs → (bytes ≡ separated text separator stop xs) × (list_all fit xs ≡ true)
  unfolding many
  many_takes separator [] xs e = subst (λ (ys : List A). ([] ≡ separated text separator stop ys) × (list_all fit ys ≡ true)) (same_Some [] xs e) (refl, refl)
  many_takes separator (b ∷ bs) xs e =
      let g = given (b == separator) (all_of one (between stop bs)) xs e in
      let head : b ≡ separator = eqb-true b separator g.0 in
      let found = first_separator separator (between stop bs) xs (has_parts stop bs) g.1 in
      (rw head (ap (λ (r : List ℕ). separator ∷ r) (sym (joined-between stop bs)) ∙ found.0), found.1)

-- the three lists

is_again : (test : List ℕ → Bool) (w : List ℕ) → test w ≡ true → if_is test w ≡ Some w
is_again test w h = rw h refl

is_takes : (test : List ℕ → Bool) (s w : List ℕ) → if_is test s ≡ Some w → (s ≡ w) × (test w ≡ true)
is_takes test s w e =
    let g = cond_some (test s) s w e in
    (g.1, subst (λ (x : List ℕ). test x ≡ true) g.1 g.0)

pub word_prints : Prints (if_is is_word) (λ w. w) is_word is_word_byte
word_prints = record {
  again = is_again is_word;
  takes = is_takes is_word;
  bytes = λ w h. (and_parts (nat_le 1 (length w)) (list_all is_word_byte w) h).1;
}

pub name_prints : Prints (if_is is_name) (λ w. w) is_name is_name_byte
name_prints = record {
  again = is_again is_name;
  takes = is_takes is_name;
  bytes = λ w h. (and_parts (nat_le 1 (length w) && nat_le (length w) 20) (list_all is_name_byte w) h).1;
}

pair_again : (p : Pair) → is_pair p ≡ true → pair_in (pair_text p) ≡ Some p
unfolding pair_in
pair_again p h =
    let parts = and_parts (is_key p.key) (is_sentence p.value) h in
    let key = and_parts (nat_le 1 (length p.key)) (list_all is_key_byte p.key) parts.0 in
    rw (before-append is_key_byte 61 p.key (61 ∷ p.value) refl key.1 refl, from-append is_key_byte 61 p.key (61 ∷ p.value) refl key.1 refl, h) refl

pair_of_takes : (key l : List ℕ) (p : Pair) → Ends 61 l → pair_of key l ≡ Some p → (key ++ l ≡ pair_text p) × (is_pair p ≡ true)
pair_of_takes key [] p ends e = absurd cc
pair_of_takes key (b ∷ value) p ends e =
    let q : Pair = record { key = key; value = value } in
    let g = cond_some (is_key key && is_sentence value) q p e in
    subst (λ (p : Pair). (key ++ b ∷ value ≡ pair_text p) × (is_pair p ≡ true)) g.1 (rw ends refl, g.0)

pair_takes : (s : List ℕ) (p : Pair) → pair_in s ≡ Some p → (s ≡ pair_text p) × (is_pair p ≡ true)
unfolding pair_in
pair_takes s p e =
    let t = pair_of_takes (before 61 s) (from 61 s) p (from_ends 61 s) e in
    (before-from 61 s ∙ t.0, t.1)

pub pair_prints : Prints pair_in pair_text is_pair is_sentence_byte
pair_prints = record {
  again = pair_again;
  takes = pair_takes;
  bytes = pair_sentence;
}

-- Arguments that are written one behind the other.
use Rattle.std.proofs.Common.{◌≡◌, ◌++◌, ◌+◌, ◌<◌, ◌≤◌, ◌∙◌, ℕ, List, [], ◌∷◌, length, refl, sym, ap, subst, append_assoc, map, drop, get_or, arith}
use Rattle.std.proofs.lemmas.List.{append-nil, drop_more, drop_all}
use Rattle.std.specs.Prelude.{Bool, true, false, ◌||◌, ◌==◌, Result, Ok, Err}
use Rattle.line_words.specs.Bytes.{is_key, is_sentence, is_word}
use Rattle.line_words.specs.declared.lists.Pair.{Pair}
use Rattle.command_grammar.specs.Table as kind
use Rattle.command_grammar.specs.Table.{Kind}
use Rattle.reply_kinds.specs.Kinds.{words_text, pairs_text}
use Rattle.request_printer.specs.Writing.{separator_behind}
use Rattle.lobby_lines.specs.declared.fields.FieldRow.{FieldRow}
use Rattle.lobby_lines.specs.declared.error.RequestError.{RequestError}
use Rattle.lobby_lines.specs.declared.error.RequestError.TheVariants as error
use Rattle.lobby_lines.specs.declared.request_table.RequestKind.{RequestKind}
use Rattle.lobby_lines.specs.Requests.{◌>>=◌, all_pairs, all_words, kind_of, listed, text_of, unless_skipped}
use Rattle.lobby_lines.specs.Writing.{Part, Blames, Put, PutAll, pair_part, pairs_put, part, parts, words_put}

-- what is left of all is to be written behind what stands
pub record Going (all rest : Result (List ℕ) RequestError) (old now : List ℕ) : Type 0 where
  pub done : List ℕ
  pub put : now ≡ old ++ done
  pub same : all ≡ (rest >>= λ t. Ok (done ++ t))

pub starts : (all : Result (List ℕ) RequestError) (old : List ℕ) → Going all all old old
starts all old = record { done = []; put = sym (append-nil old); same = by all }
  where
    by : (all : Result (List ℕ) RequestError) → all ≡ (all >>= λ t. Ok ([] ++ t))
    by (Ok t) = refl
    by (Err e) = refl

pub goes : (all rest next : Result (List ℕ) RequestError) (w old now new : List ℕ) → Going all rest old now
    → rest ≡ (next >>= λ t. Ok (w ++ t)) → new ≡ now ++ w → Going all next old new
goes all rest next w old now new g is put = record {
  done = g.done ++ w;
  put = put ∙ ap (λ (n : List ℕ). n ++ w) g.put ∙ append_assoc old g.done w;
  same = g.same ∙ ap (λ r. r >>= λ t. Ok (g.done ++ t)) is ∙ by next;
}
  where
    by : (next : Result (List ℕ) RequestError)
        → ((next >>= λ t. Ok (w ++ t)) >>= λ t. Ok (g.done ++ t)) ≡ (next >>= λ t. Ok ((g.done ++ w) ++ t))
    by (Ok t) = ap Ok (sym (append_assoc g.done w t))
    by (Err e) = refl

pub blame : (e : RequestError) (all : Result (List ℕ) RequestError) → all ≡ Err e → Blames e all
blame error.Memory all is = tt
blame e all is = is

pub stops : (e : RequestError) (all rest : Result (List ℕ) RequestError) (old now : List ℕ) → Going all rest old now → rest ≡ Err e → Blames e all
stops e all rest old now g is = blame e all (g.same ∙ ap (λ r. r >>= λ t. Ok (g.done ++ t)) is)

-- the same where what the rest begins with is to blame
pub stops_at : {A : Type 0} (e : RequestError) (all : Result (List ℕ) RequestError) (o : Result A RequestError) (f : A → Result (List ℕ) RequestError)
    (old now : List ℕ) → Going all (o >>= f) old now → Blames e o → Blames e all
stops_at error.Memory all o f old now g is = tt
stops_at e all o f old now g is = stops e all (o >>= f) old now g (ap (λ r. r >>= f) is)

pub ends : (all rest : Result (List ℕ) RequestError) (old now : List ℕ) → Going all rest old now → rest ≡ Ok [] → PutAll all old now
ends all rest old now g is =
    let whole : all ≡ Ok g.done = g.same ∙ ap (λ r. r >>= λ t. Ok (g.done ++ t)) is ∙ ap Ok (append-nil g.done) in
    subst (λ o. PutAll o old now) (sym whole) g.put

-- Words

pub words_next : (text : List ℕ) (f : FieldRow) (fs : List FieldRow)
    → words_put text (f ∷ fs) ≡ (text_of is_word text f >>= λ w. words_put text fs >>= λ t. Ok ((32 ∷ w) ++ t))
words_next text f fs = by (text_of is_word text f) (all_words text fs)
  where
    words : Result (List (List ℕ)) RequestError → Result (List ℕ) RequestError
    words os = os >>= λ ws. Ok (words_text ws)

    by : (o : Result (List ℕ) RequestError) (os : Result (List (List ℕ)) RequestError)
        → words (o >>= λ w. os >>= λ ws. Ok (w ∷ ws)) ≡ (o >>= λ w. words os >>= λ t. Ok ((32 ∷ w) ++ t))
    by (Err e) os = refl
    by (Ok w) (Err e) = refl
    by (Ok w) (Ok ws) = refl

-- Pairs

pairs_next : (separator : ℕ) (text : List ℕ) (f : FieldRow) (fs : List FieldRow)
    → pairs_put separator text (f ∷ fs) ≡ (pair_part separator text (f ∷ fs) >>= λ p. pairs_put 9 text p.behind >>= λ t. Ok (p.text ++ t))
pairs_next separator text f [] = refl
pairs_next separator text f (g ∷ fs) = by (text_of is_key text f) (text_of is_sentence text g) (all_pairs text fs)
  where
    pairs : ℕ → Result (List Pair) RequestError → Result (List ℕ) RequestError
    pairs m os = os >>= λ ps. Ok (pairs_text m ps)

    pair : List ℕ → List ℕ → Pair
    pair key value = record { key = key; value = value }

    one : List ℕ → List ℕ → Part
    one key value = record { text = separator ∷ (key ++ 61 ∷ value); absent = false; behind = fs }

    rest : Part → Result (List ℕ) RequestError
    rest p = pairs_put 9 text p.behind >>= λ t. Ok (p.text ++ t)

    last : (key value : List ℕ) (os : Result (List Pair) RequestError)
        → pairs separator (os >>= λ ps. Ok (pair key value ∷ ps)) ≡ (pairs 9 os >>= λ t. Ok ((separator ∷ (key ++ 61 ∷ value)) ++ t))
    last key value (Err e) = refl
    last key value (Ok ps) = refl

    by : (o p : Result (List ℕ) RequestError) (os : Result (List Pair) RequestError)
        → pairs separator (o >>= λ key. p >>= λ value. all_pairs text fs >>= λ ps. Ok (pair key value ∷ ps))
        ≡ ((o >>= λ key. p >>= λ value. Ok (one key value)) >>= rest)
    by (Err e) p os = refl
    by (Ok key) (Err e) os = refl
    by (Ok key) (Ok value) os = last key value (all_pairs text fs)

pub pairs_goes : (all : Result (List ℕ) RequestError) (separator : ℕ) (text : List ℕ) (fs behind : List FieldRow) (old now new : List ℕ)
    → Going all (pairs_put separator text fs) old now → Put (pair_part separator text fs) behind false now new → Going all (pairs_put 9 text behind) old new
pairs_goes all separator text [] behind old now new g put = absurd put
pairs_goes all separator text (f ∷ fs) behind old now new g put =
    by (pair_part separator text (f ∷ fs)) (subst (λ r. Going all r old now) (pairs_next separator text f fs) g) put
  where
    by : (o : Result Part RequestError) → Going all (o >>= λ p. pairs_put 9 text p.behind >>= λ t. Ok (p.text ++ t)) old now
        → Put o behind false now new → Going all (pairs_put 9 text behind) old new
    by (Err e) g put = absurd put
    by (Ok p) g put =
        subst (λ b. Going all (pairs_put 9 text b) old new) (sym put.0) (goes all _ (pairs_put 9 text p.behind) p.text old now new g refl put.2)

pub pairs_stop : (e : RequestError) (all : Result (List ℕ) RequestError) (separator : ℕ) (text : List ℕ) (fs : List FieldRow) (old now : List ℕ)
    → Going all (pairs_put separator text fs) old now → 0 < length fs → Blames e (pair_part separator text fs) → Blames e all
pairs_stop e all separator text [] old now g some blamed = absurd (omega arith)
pairs_stop e all separator text (f ∷ fs) old now g some blamed =
    stops_at e all (pair_part separator text (f ∷ fs)) (λ p. pairs_put 9 text p.behind >>= λ t. Ok (p.text ++ t)) old now
    (subst (λ r. Going all r old now) (pairs_next separator text f fs) g) blamed

pub pair_shorter : (separator : ℕ) (text : List ℕ) (fs behind : List FieldRow) (now new : List ℕ) → Put (pair_part separator text fs) behind false now new
    → length behind < length fs
pair_shorter separator text [] behind now new put = absurd put
pair_shorter separator text (f ∷ []) behind now new put = absurd put
pair_shorter separator text (f ∷ g ∷ fs) behind now new put = by (text_of is_key text f) (text_of is_sentence text g) put
  where
    one : List ℕ → List ℕ → Part
    one key value = record { text = separator ∷ (key ++ 61 ∷ value); absent = false; behind = fs }

    by : (o p : Result (List ℕ) RequestError) → Put (o >>= λ key. p >>= λ value. Ok (one key value)) behind false now new
        → length behind < length (f ∷ g ∷ fs)
    by (Err e) p put = absurd put
    by (Ok key) (Err e) put = absurd put
    by (Ok key) (Ok value) put = let same = ap length put.0 in omega arith

-- a list that has something in it

pub words_part : (text : List ℕ) (fs : List FieldRow) (old new : List ℕ) → (length fs == 0) ≡ false → PutAll (words_put text fs) old new
    → Put (part 32 text kind.Words fs) [] false old new
words_part text [] old new some put = absurd (let no : ⊥ = cc in no)
words_part text (f ∷ fs) old new some put = by (text_of is_word text f) (all_words text fs) put
  where
    words : Result (List ℕ) RequestError → Result (List (List ℕ)) RequestError → Result (List (List ℕ)) RequestError
    words o os = o >>= λ w. os >>= λ ws. Ok (w ∷ ws)

    whole : List (List ℕ) × List FieldRow → Part
    whole x = record { text = words_text x.0; absent = false; behind = x.1 }

    by : (o : Result (List ℕ) RequestError) (os : Result (List (List ℕ)) RequestError) → PutAll (words o os >>= λ ws. Ok (words_text ws)) old new
        → Put ((words o os >>= listed) >>= λ x. Ok (whole x)) [] false old new
    by (Err e) os put = absurd put
    by (Ok w) (Err e) put = absurd put
    by (Ok w) (Ok ws) put = (refl, refl, put)

pub pairs_part : (text : List ℕ) (fs : List FieldRow) (old new : List ℕ) → (length fs == 0) ≡ false → PutAll (pairs_put 32 text fs) old new
    → Put (part 32 text kind.Pairs fs) [] false old new
pairs_part text [] old new some put = absurd (let no : ⊥ = cc in no)
pairs_part text (f ∷ []) old new some put = absurd put
pairs_part text (f ∷ g ∷ fs) old new some put = by (text_of is_key text f) (text_of is_sentence text g) (all_pairs text fs) put
  where
    pair : List ℕ → List ℕ → Pair
    pair key value = record { key = key; value = value }

    pairs : Result (List ℕ) RequestError → Result (List ℕ) RequestError → Result (List Pair) RequestError → Result (List Pair) RequestError
    pairs o p os = o >>= λ key. p >>= λ value. os >>= λ ps. Ok (pair key value ∷ ps)

    whole : List Pair × List FieldRow → Part
    whole x = record { text = pairs_text 32 x.0; absent = false; behind = x.1 }

    by : (o p : Result (List ℕ) RequestError) (os : Result (List Pair) RequestError) → PutAll (pairs o p os >>= λ ps. Ok (pairs_text 32 ps)) old new
        → Put ((pairs o p os >>= listed) >>= λ x. Ok (whole x)) [] false old new
    by (Err e) p os put = absurd put
    by (Ok key) (Err e) os put = absurd put
    by (Ok key) (Ok value) (Err e) put = absurd put
    by (Ok key) (Ok value) (Ok ps) put = (refl, refl, put)

-- All

unskipped : {A : Type 0} (m a n : Bool) (v : Result A RequestError) → unless_skipped m a (Ok (m || a)) ≡ Ok n → (unless_skipped m a v ≡ v) × (n ≡ (m || a))
unskipped true true n v is = (refl, (let same : true ≡ n = cc in sym same))
unskipped true false n v is = absurd (let no : ⊥ = cc in no)
unskipped false true n v is = (refl, (let same : true ≡ n = cc in sym same))
unskipped false false n v is = (refl, (let same : false ≡ n = cc in sym same))

skipped_so : {A : Type 0} (m a : Bool) (e : RequestError) (v : Result A RequestError) → unless_skipped m a (Ok (m || a)) ≡ Err e → unless_skipped m a v ≡ Err e
skipped_so true true e v is = absurd (let no : ⊥ = cc in no)
skipped_so true false e v is = (let same : error.Skipped ≡ e = cc in ap Err same)
skipped_so false true e v is = absurd (let no : ⊥ = cc in no)
skipped_so false false e v is = absurd (let no : ⊥ = cc in no)

module _ (all : Result (List ℕ) RequestError) (m absent n : Bool) (separator : ℕ) (text : List ℕ) (k : Kind) (ks : List Kind) (fs behind : List FieldRow)
    (old now new : List ℕ) where
  pub parts_next : Going all (parts m separator text (k ∷ ks) fs) old now → Put (part separator text k fs) behind absent now new
      → unless_skipped m absent (Ok (m || absent)) ≡ Ok n → Going all (parts n (separator_behind k separator) text ks behind) old new
  parts_next g put is = by (part separator text k fs) g put
    where
      by : (o : Result Part RequestError)
          → Going all (o >>= λ p. unless_skipped m p.absent (parts (m || p.absent) (separator_behind k separator) text ks p.behind >>= λ t. Ok (p.text ++ t))) old now
          → Put o behind absent now new → Going all (parts n (separator_behind k separator) text ks behind) old new
      by (Err e) g put = absurd put
      by (Ok p) g put =
          let is_p = subst (λ a. unless_skipped m a (Ok (m || a)) ≡ Ok n) put.1 is in
          let u = unskipped m p.absent n (parts (m || p.absent) (separator_behind k separator) text ks p.behind >>= λ t. Ok (p.text ++ t)) is_p in
          subst (λ b. Going all (parts n (separator_behind k separator) text ks b) old new) (sym put.0)
          (subst (λ b. Going all (parts b (separator_behind k separator) text ks p.behind) old new) (sym u.1)
          (goes all _ (parts (m || p.absent) (separator_behind k separator) text ks p.behind) p.text old now new g u.0 put.2))

  pub parts_skipped : (e : RequestError) → Going all (parts m separator text (k ∷ ks) fs) old now → Put (part separator text k fs) behind absent now new
      → unless_skipped m absent (Ok (m || absent)) ≡ Err e → Blames e all
  parts_skipped e g put is = by (part separator text k fs) g put
    where
      by : (o : Result Part RequestError)
          → Going all (o >>= λ p. unless_skipped m p.absent (parts (m || p.absent) (separator_behind k separator) text ks p.behind >>= λ t. Ok (p.text ++ t))) old now
          → Put o behind absent now new → Blames e all
      by (Err f) g put = absurd put
      by (Ok p) g put =
          let is_p = subst (λ a. unless_skipped m a (Ok (m || a)) ≡ Err e) put.1 is in
          stops e all _ old now g
          (skipped_so m p.absent e (parts (m || p.absent) (separator_behind k separator) text ks p.behind >>= λ t. Ok (p.text ++ t)) is_p)

-- the next kind that a loop takes
pub next_kind : (all : Result (List ℕ) RequestError) (m : Bool) (separator : ℕ) (text : List ℕ) (kinds : List RequestKind) (i : ℕ) (d : RequestKind)
    (fs : List FieldRow) (old now : List ℕ) → i < length kinds → Going all (parts m separator text (map kind_of (drop i kinds)) fs) old now
    → Going all (parts m separator text (kind_of (get_or kinds i d) ∷ map kind_of (drop (i + 1) kinds)) fs) old now
next_kind all m separator text kinds i d fs old now within g =
    subst (λ ks. Going all (parts m separator text (map kind_of ks) fs) old now) (drop_more kinds i d within) g

pub no_kind : (kinds : List RequestKind) (i : ℕ) → length kinds ≤ i → map kind_of (drop i kinds) ≡ []
no_kind kinds i past = ap (map kind_of) (drop_all i kinds past)

-- What is written stays in front.
use Rattle.std.proofs.Common.{◌≡◌, ℕ, ◌+◌, ◌<◌, ◌≤◌, List, [], ◌∷◌, ◌++◌, length, take, refl, ap, get_or, drop, suc, sym, ◌∙◌, arith, length-append, vec_capacity, Vec, Result, Ok, Err, OnErr}
use Rattle.std.proofs.Math.Seq.{drop-cons}
use Rattle.line_words.specs.declared.lists.Pair.{Pair}
use Rattle.reply_kinds.specs.Kinds.{words_text, pair_text, pairs_text}
use Rattle.reply_printer.specs.Fronts.{Keeps}

pub front_more : (a t front : List ℕ) → take (length front) a ≡ front → take (length front) (a ++ t) ≡ front
front_more a t [] p = refl
front_more [] t (x ∷ front) p = absurd cc
front_more (y ∷ a) t (x ∷ front) p =
    let heads : y ≡ x = cc in
    let rest : take (length front) a ≡ front = cc in
    let more : take (length front) (a ++ t) ≡ front = front_more a t front rest in cc

pub front_all : (a : List ℕ) → take (length a) a ≡ a
front_all [] = refl
front_all (x ∷ a) = ap (λ (r : List ℕ). x ∷ r) (front_all a)

-- a loop has written the whole but the rest
pub record Putting {Z : Type 0} (old new : Vec ℕ Z) (rest whole : List ℕ) : Type 0 where
  pub text : new.items ++ rest ≡ old.items ++ whole
  pub kept : Keeps old.items new.items
  pub room : vec_capacity old ≤ vec_capacity new

-- what lacks room for a part lacks it for the whole
pub lacks_whole : (old new piece behind whole : List ℕ) (room least : ℕ) → new ++ (piece ++ behind) ≡ old ++ whole
    → least ≤ room → room < length new + length piece → least < length old + length whole
lacks_whole old new piece behind whole room least e more lacks =
    omega (arith, ap length e, length-append new (piece ++ behind), length-append piece behind, length-append old whole)

-- a word, or a pair, of a list
pub word_lacks : (old new : List ℕ) (words : List (List ℕ)) (i : ℕ) (w : List ℕ) (room least : ℕ)
    → new ++ words_text (drop i words) ≡ old ++ words_text words → i < length words → w ≡ get_or words i w
    → least ≤ room → room < length new + length (32 ∷ w) → least < length old + length (words_text words)
word_lacks old new words i w room least e low is more lacks =
    let cons : w ∷ drop (suc i) words ≡ drop i words = ap (λ x. x ∷ drop (suc i) words) is ∙ sym (drop-cons words i w low) in
    lacks_whole old new (32 ∷ w) (words_text (drop (suc i) words)) (words_text words) room least
    (ap (λ ws. new ++ words_text ws) cons ∙ e) more lacks

pub pair_lacks : (old new : List ℕ) (separator : ℕ) (pairs : List Pair) (i : ℕ) (p : Pair) (room least : ℕ)
    → new ++ pairs_text separator (drop i pairs) ≡ old ++ pairs_text 32 pairs → i < length pairs → p ≡ get_or pairs i p
    → least ≤ room → room < length new + length (separator ∷ pair_text p)
    → least < length old + length (pairs_text 32 pairs)
pair_lacks old new separator pairs i p room least e low is more lacks =
    let cons : p ∷ drop (suc i) pairs ≡ drop i pairs = ap (λ x. x ∷ drop (suc i) pairs) is ∙ sym (drop-cons pairs i p low) in
    lacks_whole old new (separator ∷ pair_text p) (pairs_text 9 (drop (suc i) pairs)) (pairs_text 32 pairs) room least
    (ap (λ ps. new ++ pairs_text separator ps) cons ∙ e) more lacks

-- said of a refusal, whichever
pub on_refusal : {T E P : Type 0} (r : Result T E) → P → OnErr r P
on_refusal (Ok x) p = tt
on_refusal (Err e) p = p

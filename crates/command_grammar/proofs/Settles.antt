-- A form names one command, the one that reading gives: a lemma for each kind of argument.
use Rattle.std.proofs.Common.{◌≡◌, ℕ, List, [], ◌∷◌, length, refl, sym, ap, subst, ◌∙◌, Bool, true, false, cond, inl, inr, arith}
use Rattle.std.specs.Prelude.{ℤ, pos, negsuc, ◌≤ℤ◌, ◌⊎◌, ◌==◌, IsTrue, MatchBool, Option, Some, None, Result, Ok, Err}
use Rattle.std.proofs.lemmas.Int.{ints}
use Rattle.line_words.specs.Bytes.{is_spaces, has_byte, is_name}
use Rattle.line_words.specs.Numbers.{IsNumeral}
use Rattle.line_words.specs.Parts.{before}
use Rattle.line_words.specs.Words.{EndsWord, NextWord}
use Rattle.command_grammar.specs.declared.command.ReadFault.{ReadFault}
use Rattle.command_grammar.specs.declared.command.ReadFault.TheVariants as fault
use Rattle.command_grammar.specs.declared.command.Command.{Command}
use Rattle.command_grammar.specs.declared.command.Command.TheVariants as command
use Rattle.command_grammar.specs.Arguments.{IsFault, Word, OptionalWord, Name, Number, Natural, Wide, Flag}
use Rattle.command_grammar.specs.Readers.{without_spaces, command_of, ◌>>=◌, checked_word, word_at, if_there, optional_at, if_name, name_at, number_in, number_at, natural_of, natural_at, wide_at, flag_at}
use Rattle.command_grammar.proofs.Numerals.{NumberRead, number_read, one_numeral}
use Rattle.command_grammar.proofs.Cuts.{Parts, next_word_is, next_word_made, no_word_left, skipped, spaces_skipped}

-- P holds of the command that was read, and of no other
pub record Settles (P : Command → Type 0) (read : Result Command ReadFault) : Type 0 where
  pub holds : P (command_of read)
  pub only : (c : Command) → P c → c ≡ command_of read

pub made : {x : Command} → Settles (λ c. c ≡ x) (Ok x)
made = record { holds = refl; only = λ c h. h }

pub fault_made : {f : ReadFault} → Settles (IsFault f) (Err f)
fault_made = record { holds = refl; only = λ c h. h }

-- Words

word_checked : (K : List ℕ → List ℕ → Command → Type 0) (k : List ℕ × List ℕ → Result Command ReadFault) (w r : List ℕ) (t : Bool) → Settles (K w r) (k (w, r))
    → Settles (λ c. MatchBool t (IsFault fault.BadByte c) (K w r c)) ((cond t (Err fault.BadByte) (Ok (w, r))) >>= k)
word_checked K k w r true one = fault_made
word_checked K k w r false one = one

same_parts : {bs w v r s : List ℕ} → Parts bs w r → Parts bs v s → (w ≡ v) × (r ≡ s)
same_parts p q = (sym p.front ∙ q.front, sym p.back ∙ q.back)

moved : {w v r s : List ℕ} (M : List ℕ → List ℕ → Type 0) → (v ≡ w) × (s ≡ r) → M v s → M w r
moved {w} {v} {r} {s} M e h = subst (λ t. M w t) e.1 (subst (λ u. M u s) e.0 h)

no_next_word : {rest v r s : List ℕ} → Parts (without_spaces rest) [] r → NextWord rest v s → ⊥
no_next_word p n = let e = ap length (same_parts p (next_word_is n)).0 in let some = n.some_byte in omega arith

no_spaces : (rest : List ℕ) {bs r : List ℕ} {b : ℕ} → Parts (without_spaces rest) (b ∷ bs) r → IsTrue (is_spaces rest) → ⊥
no_spaces rest {bs} {r} {b} p h = let e : [] ≡ b ∷ bs = ap (before 32) (sym (spaces_skipped rest h)) ∙ p.front in let n : ⊥ = cc in n

word_settles : (K : List ℕ → List ℕ → Command → Type 0) (k : List ℕ × List ℕ → Result Command ReadFault)
    → ((w r : List ℕ) → EndsWord r → Settles (K w r) (k (w, r))) → (rest w r : List ℕ) → EndsWord rest → Parts (without_spaces rest) w r
    → Settles (Word K rest) (checked_word w r >>= k)
word_settles K k each rest [] r ends p = record {
  holds = inl (no_word_left rest (without_spaces rest) r (skipped rest) p, refl);
  only = λ c h. elim h [ inl x ↦ x.1 | inr x ↦ absurd (no_next_word p x.2) ];
}
word_settles K k each rest (b ∷ bs) r ends p =
    let n = next_word_made rest (without_spaces rest) b bs r ends (skipped rest) p in
    let one = word_checked K k (b ∷ bs) r (has_byte 9 (b ∷ bs)) (each (b ∷ bs) r n.ends) in
    record {
      holds = inr (b ∷ bs, r, n, one.holds);
      only = λ c h. elim h [ inl x ↦ absurd (no_spaces rest p x.0) | inr x ↦ one.only c (moved (λ v s. MatchBool (has_byte 9 v) (IsFault fault.BadByte c) (K v s c)) (same_parts (next_word_is x.2) p) x.3) ];
    }

pub Word-settles : {K : List ℕ → List ℕ → Command → Type 0} (k : List ℕ × List ℕ → Result Command ReadFault)
    → ((w r : List ℕ) → EndsWord r → Settles (K w r) (k (w, r))) → (rest : List ℕ) → EndsWord rest
    → Settles (Word K rest) (word_at rest >>= k)
unfolding word_at
Word-settles {K} k each rest ends = word_settles K k each rest _ _ ends (record { front = refl; back = refl })

-- no word is no fault
optional_checked : (K : Option (List ℕ) → List ℕ → Command → Type 0) (k : Option (List ℕ) × List ℕ → Result Command ReadFault) (w r : List ℕ) (t : Bool) → Settles (K (Some w) r) (k (Some w, r))
    → Settles (λ c. MatchBool t (IsFault fault.BadByte c) (K (Some w) r c)) (if_there (cond t (Err fault.BadByte) (Ok (w, r))) >>= k)
optional_checked K k w r true one = fault_made
optional_checked K k w r false one = one

optional_settles : (K : Option (List ℕ) → List ℕ → Command → Type 0) (k : Option (List ℕ) × List ℕ → Result Command ReadFault)
    → ((o : Option (List ℕ)) (r : List ℕ) → EndsWord r → Settles (K o r) (k (o, r))) → (rest w r : List ℕ) → EndsWord rest → Parts (without_spaces rest) w r
    → Settles (OptionalWord K rest) (if_there (checked_word w r) >>= k)
optional_settles K k each rest [] r ends p =
    let one = each None [] tt in
    record {
      holds = inl (no_word_left rest (without_spaces rest) r (skipped rest) p, one.holds);
      only = λ c h. elim h [ inl x ↦ one.only c x.1 | inr x ↦ absurd (no_next_word p x.2) ];
    }
optional_settles K k each rest (b ∷ bs) r ends p =
    let n = next_word_made rest (without_spaces rest) b bs r ends (skipped rest) p in
    let one = optional_checked K k (b ∷ bs) r (has_byte 9 (b ∷ bs)) (each (Some (b ∷ bs)) r n.ends) in
    record {
      holds = inr (b ∷ bs, r, n, one.holds);
      only = λ c h. elim h [ inl x ↦ absurd (no_spaces rest p x.0) | inr x ↦ one.only c (moved (λ v s. MatchBool (has_byte 9 v) (IsFault fault.BadByte c) (K (Some v) s c)) (same_parts (next_word_is x.2) p) x.3) ];
    }

pub Optional-settles : {K : Option (List ℕ) → List ℕ → Command → Type 0} (k : Option (List ℕ) × List ℕ → Result Command ReadFault)
    → ((o : Option (List ℕ)) (r : List ℕ) → EndsWord r → Settles (K o r) (k (o, r))) → (rest : List ℕ) → EndsWord rest
    → Settles (OptionalWord K rest) (optional_at rest >>= k)
unfolding optional_at word_at
Optional-settles {K} k each rest ends = optional_settles K k each rest _ _ ends (record { front = refl; back = refl })

-- a reading in two steps
pub bind_bind : {A B C : Type 0} (r : Result A ReadFault) (f : A → Result B ReadFault) (g : B → Result C ReadFault) → ((r >>= f) >>= g) ≡ (r >>= λ x. f x >>= g)
bind_bind (Ok x) f g = refl
bind_bind (Err e) f g = refl

pub Name-settles : {K : List ℕ → List ℕ → Command → Type 0} (k : List ℕ × List ℕ → Result Command ReadFault)
    → ((w r : List ℕ) → EndsWord r → Settles (K w r) (k (w, r))) → (rest : List ℕ) → EndsWord rest
    → Settles (Name K rest) (name_at rest >>= k)
unfolding name_at
Name-settles {K} k each rest ends =
    subst (λ (q : Result Command ReadFault). Settles (Name K rest) q) (sym (bind_bind (word_at rest) if_name k))
    (Word-settles _ (λ w r e. named w r (is_name w) (each w r e)) rest ends)
  where
    named : (w r : List ℕ) (t : Bool) → Settles (K w r) (k (w, r)) → Settles (λ c. MatchBool t (K w r c) (IsFault fault.BadName c)) ((cond t (Ok (w, r)) (Err fault.BadName)) >>= k)
    named w r true one = one
    named w r false one = fault_made

number_settles : (low high : ℤ) (K : ℤ → List ℕ → Command → Type 0) (k : ℤ × List ℕ → Result Command ReadFault) (w r : List ℕ) (read : Result ℤ ReadFault) → NumberRead low high w read
    → ((z : ℤ) → low ≤ℤ z → Settles (K z r) (k (z, r)))
    → Settles (λ c. ((z : ℤ) × IsNumeral w z × (low ≤ℤ z) × (z ≤ℤ high) × K z r c) ⊎ (((z : ℤ) → IsNumeral w z → low ≤ℤ z → z ≤ℤ high → ⊥) × IsFault fault.BadNumber c))
    ((read >>= λ z. Ok (z, r)) >>= k)
number_settles low high K k w r (Ok z) n each = record {
  holds = inl (z, n.0, n.1, n.2, (each z n.1).holds);
  only = λ c h. elim h [
    | inl x ↦ (each z n.1).only c (let e : x.0 ≡ z = one_numeral w x.0 z x.1 n.0 in subst (λ y. K y r c) e x.4)
    | inr x ↦ absurd (x.0 z n.0 n.1 n.2)
  ];
}
number_settles low high K k w r (Err f) n each = record {
  holds = inr (n.0, ap command.Unread (sym n.1));
  only = λ c h. elim h [ inl x ↦ absurd (n.0 x.0 x.1 x.2 x.3) | inr x ↦ x.1 ∙ ap command.Unread n.1 ];
}

pub Number-settles : (low high : ℤ) {K : ℤ → List ℕ → Command → Type 0} (k : ℤ × List ℕ → Result Command ReadFault)
    → ((z : ℤ) → low ≤ℤ z → (r : List ℕ) → EndsWord r → Settles (K z r) (k (z, r))) → (rest : List ℕ) → EndsWord rest
    → Settles (Number low high K rest) (number_at low high rest >>= k)
unfolding number_at
Number-settles low high {K} k each rest ends =
    let after : List ℕ × List ℕ → Result (ℤ × List ℕ) ReadFault = λ word. number_in low high word.0 >>= λ z. Ok (z, word.1) in
    subst (λ (q : Result Command ReadFault). Settles (Number low high K rest) q) (sym (bind_bind (word_at rest) after k))
    (Word-settles _ (λ w r e. number_settles low high K k w r (number_in low high w) (number_read low high w) (λ z l. each z l r e)) rest ends)

pub Natural-settles : {high : ℕ} {K : ℕ → List ℕ → Command → Type 0} (k : ℕ × List ℕ → Result Command ReadFault)
    → ((n : ℕ) (r : List ℕ) → EndsWord r → Settles (K n r) (k (n, r))) → (rest : List ℕ) → EndsWord rest
    → Settles (Natural high K rest) (natural_at high rest >>= k)
unfolding natural_at
Natural-settles {high} {K} k each rest ends =
    let after : ℤ × List ℕ → Result (ℕ × List ℕ) ReadFault = λ number. Ok (natural_of number.0, number.1) in
    subst (λ (q : Result Command ReadFault). Settles (Natural high K rest) q) (sym (bind_bind (number_at (pos 0) (pos high) rest) after k))
    (Number-settles (pos 0) (pos high) _ (λ z l r e. whole z l r (each (natural_of z) r e)) rest ends)
  where
    whole : (z : ℤ) → pos 0 ≤ℤ z → (r : List ℕ) → Settles (K (natural_of z) r) (k (natural_of z, r)) → Settles (λ c. (n : ℕ) × (z ≡ pos n) × K n r c) (k (natural_of z, r))
    whole (pos n) l r one = record {
      holds = (n, refl, one.holds);
      only = λ c h. one.only c (let e : h.0 ≡ n = (let f = h.1 in cc) in subst (λ m. K m r c) e h.2);
    }
    whole (negsuc n) l r one = absurd (omega (arith, ints))

pub Wide-settles : {K : ℤ → List ℕ → Command → Type 0} (k : ℤ × List ℕ → Result Command ReadFault)
    → ((z : ℤ) (r : List ℕ) → EndsWord r → Settles (K z r) (k (z, r))) → (rest : List ℕ) → EndsWord rest
    → Settles (Wide K rest) (wide_at rest >>= k)
unfolding wide_at
Wide-settles {K} k each rest ends = Number-settles _ _ k (λ z l r e. each z r e) rest ends

pub Flag-settles : {K : Bool → List ℕ → Command → Type 0} (k : Bool × List ℕ → Result Command ReadFault)
    → ((b : Bool) (r : List ℕ) → EndsWord r → Settles (K b r) (k (b, r))) → (rest : List ℕ) → EndsWord rest
    → Settles (Flag K rest) (flag_at rest >>= k)
unfolding flag_at
Flag-settles {K} k each rest ends =
    let after : ℕ × List ℕ → Result (Bool × List ℕ) ReadFault = λ number. Ok (number.0 == 1, number.1) in
    subst (λ (q : Result Command ReadFault). Settles (Flag K rest) q) (sym (bind_bind (natural_at 1 rest) after k))
    (Natural-settles _ (λ n r e. each (n == 1) r e) rest ends)

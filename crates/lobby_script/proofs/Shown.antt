-- The lines of what was put, one after another.
use Rattle.std.proofs.Common.{◌≡◌, ℕ, false, cond, nat_eq, List, [], ◌∷◌, ◌++◌, decimal, Option, refl, sym, ap, ◌∙◌, subst, append_assoc, append-nil}
use Rattle.std.specs.Prelude.{flat_map}
use Rattle.std.specs.Io.KnownBytes.{Appends}
use Rattle.std.proofs.KnownBytes.{Appends-trans}
use Rattle.line_framer.specs.Frames.{Parts, parts, with_byte, lines_in}
use Rattle.line_words.specs.Bytes.{has_byte}
use Rattle.proxy_line.specs.Words.{PartedAt}
use Rattle.std.proofs.lemmas.Bool.{or_parts}
use Rattle.lobby_script.specs.Acts.{labelled}

byte_before : (b : ℕ) (p : Parts) (line : List ℕ) (lines : List (List ℕ)) → p.0 ≡ line ∷ lines → (with_byte b p).0 ≡ (b ∷ line) ∷ lines
byte_before b ([], rest) line lines e = absurd cc
byte_before b (p ∷ ps, rest) line lines e = let first : p ≡ line = cc in let others : ps ≡ lines = cc in ap (λ x. (b ∷ x) ∷ ps) first ∙ ap (λ xs. (b ∷ line) ∷ xs) others

byte_alone : (b : ℕ) (p : Parts) → p.0 ≡ [] → (with_byte b p).0 ≡ []
byte_alone b ([], rest) e = refl
byte_alone b (p ∷ ps, rest) e = absurd cc

first_line : (line behind : List ℕ) → has_byte 10 line ≡ false → lines_in (line ++ 10 ∷ behind) ≡ line ∷ lines_in behind
first_line [] behind h = refl
first_line (x ∷ xs) behind h =
    ap (λ b. (cond b ([] ∷ (parts (xs ++ 10 ∷ behind)).0, (parts (xs ++ 10 ∷ behind)).1) (with_byte x (parts (xs ++ 10 ∷ behind)))).0) (or_parts (nat_eq x 10) _ h).0
    ∙ byte_before x (parts (xs ++ 10 ∷ behind)) xs (lines_in behind) (first_line xs behind (or_parts (nat_eq x 10) _ h).1)

no_line : (bytes : List ℕ) → has_byte 10 bytes ≡ false → lines_in bytes ≡ []
no_line [] h = refl
no_line (x ∷ xs) h =
    ap (λ b. (cond b ([] ∷ (parts xs).0, (parts xs).1) (with_byte x (parts xs))).0) (or_parts (nat_eq x 10) _ h).0 ∙ byte_alone x (parts xs) (no_line xs (or_parts (nat_eq x 10) _ h).1)

pub none_labelled : (label : ℕ) (bytes : List ℕ) → has_byte 10 bytes ≡ false → labelled label bytes ≡ []
none_labelled label bytes h = ap (flat_map (λ line. decimal label ++ 62 ∷ 32 ∷ (line ++ 10 ∷ []))) (no_line bytes h)

pub line_labelled : (label : ℕ) (bytes line behind : List ℕ) → PartedAt 10 bytes line behind → labelled label bytes ≡ (decimal label ++ 62 ∷ 32 ∷ (line ++ 10 ∷ [])) ++ labelled label behind
line_labelled label bytes line behind at = ap (flat_map (λ line. decimal label ++ 62 ∷ 32 ∷ (line ++ 10 ∷ []))) (ap lines_in at.whole ∙ first_line line behind at.first)

-- one line more is written
pub written_more : (a b c : Option (List ℕ)) (done here all rest behind : List ℕ) → Appends a b done → Appends b c here → all ≡ done ++ rest → rest ≡ here ++ behind → Appends a c (done ++ here) × (all ≡ (done ++ here) ++ behind)
written_more a b c done here all rest behind p q e f = (Appends-trans a b c done here p q, e ∙ ap (λ l. done ++ l) f ∙ sym (append_assoc done here behind))

pub written_all : (a b : Option (List ℕ)) (done all rest : List ℕ) → Appends a b done → all ≡ done ++ rest → rest ≡ [] → Appends a b all
written_all a b done all rest p e none = subst (Appends a b) (sym (e ∙ ap (λ l. done ++ l) none ∙ append-nil done)) p

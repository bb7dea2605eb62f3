-- The first line of a script.
use Rattle.std.proofs.Common.{◌≡◌, ℕ, false, cond, nat_eq, List, [], ◌∷◌, ◌++◌, refl, ap, ◌∙◌}
use Rattle.std.specs.Prelude.{Option, Some}
use Rattle.std.specs.List.{onto_first}
use Rattle.std.specs.Borrow.{Bor}
use Rattle.line_words.specs.Bytes.{has_byte}
use Rattle.proxy_line.specs.Words.{PartedAt}
use Rattle.lobby_script.specs.Lines.{lines_of, lines_left}
use Rattle.std.proofs.lemmas.Bool.{or_parts}

of_front : (line behind : List ℕ) → has_byte 10 line ≡ false → lines_of (line ++ 10 ∷ behind) ≡ line ∷ lines_of behind
of_front [] behind h = refl
of_front (x ∷ xs) behind h =
    ap (λ b. cond b ([] ∷ lines_of (xs ++ 10 ∷ behind)) (onto_first x (lines_of (xs ++ 10 ∷ behind)))) (or_parts (nat_eq x 10) _ h).0 ∙ ap (onto_first x) (of_front xs behind (or_parts (nat_eq x 10) _ h).1)

of_last : (text : List ℕ) → has_byte 10 text ≡ false → lines_of text ≡ text ∷ []
of_last [] h = refl
of_last (x ∷ xs) h = ap (λ b. cond b ([] ∷ lines_of xs) (onto_first x (lines_of xs))) (or_parts (nat_eq x 10) _ h).0 ∙ ap (onto_first x) (of_last xs (or_parts (nat_eq x 10) _ h).1)

-- what is left, where a line feed is there and where none is
pub left_with_line : (rest : Option (Bor (List ℕ))) (text : Bor (List ℕ)) (line behind : List ℕ) → rest ≡ Some text → PartedAt 10 text.now line behind → lines_left rest ≡ line ∷ lines_of behind
left_with_line rest text line behind is at = ap lines_left is ∙ ap lines_of at.whole ∙ of_front line behind at.first

pub left_without_line : (rest : Option (Bor (List ℕ))) (text : Bor (List ℕ)) → rest ≡ Some text → has_byte 10 text.now ≡ false → lines_left rest ≡ text.now ∷ []
left_without_line rest text is h = ap lines_left is ∙ of_last text.now h

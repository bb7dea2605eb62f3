-- Names that are printed in two parts.
use Rattle.std.proofs.Common.{◌≡◌, ◌∙◌, ℕ, ◌+◌, ◌<◌, ◌≤◌, List, [], ◌∷◌, ◌++◌, length, Option, Some, None, refl, sym, ap, arith}
use Rattle.std.proofs.Common.{append_assoc, length-append}
use Rattle.std.specs.Prelude.{option_to_list}
use Rattle.std.proofs.lemmas.List.{append-nil}
use Rattle.reply_kinds.specs.Keeping.{with_last}
use Rattle.reply_kinds.specs.Kinds.{words_text}

words_text-append : (a b : List (List ℕ)) → words_text (a ++ b) ≡ words_text a ++ words_text b
words_text-append [] b = refl
words_text-append (w ∷ a) b =
    ap (λ (t : List ℕ). 32 ∷ t) (ap (λ (t : List ℕ). w ++ t) (words_text-append a b) ∙ sym (append_assoc w (words_text a) (words_text b)))

pub put_parted : (out : List ℕ) (ns : List (List ℕ)) (last : Option (List ℕ)) (whole : List (List ℕ))
    → with_last ns last ≡ whole → (out ++ words_text ns) ++ words_text (option_to_list last) ≡ out ++ words_text whole
put_parted out ns None whole e = append-nil (out ++ words_text ns) ∙ ap (λ (ws : List (List ℕ)). out ++ words_text ws) e
put_parted out ns (Some n) whole e =
    append_assoc out (words_text ns) (words_text (n ∷ []))
    ∙ ap (λ (t : List ℕ). out ++ t) (sym (words_text-append ns (n ∷ [])))
    ∙ ap (λ (ws : List (List ℕ)). out ++ words_text ws) e

-- what lacks room for a part of the names lacks it for all
pub first_lack : (out : List ℕ) (ns : List (List ℕ)) (last : Option (List ℕ)) (whole : List (List ℕ)) (least : ℕ)
    → with_last ns last ≡ whole → least < length out + length (words_text ns) → least < length out + length (words_text whole)
first_lack out ns last whole least e lacks =
    let last_text = words_text (option_to_list last) in
    omega (
      arith,
      ap length (put_parted out ns last whole e),
      length-append (out ++ words_text ns) last_text,
      length-append out (words_text ns),
      length-append out (words_text whole),
    )

pub last_lacks : (out mid : List ℕ) (ns : List (List ℕ)) (last : Option (List ℕ)) (whole : List (List ℕ)) (room least : ℕ)
    → with_last ns last ≡ whole → mid ≡ out ++ words_text ns → least ≤ room
    → room < length mid + length (words_text (option_to_list last)) → least < length out + length (words_text whole)
last_lacks out mid ns last whole room least e put more lacks =
    let last_text = words_text (option_to_list last) in
    omega (
      arith,
      ap length (put_parted out ns last whole e),
      ap length put,
      length-append (out ++ words_text ns) last_text,
      length-append out (words_text whole),
    )

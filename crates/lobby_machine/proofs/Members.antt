-- Who is in a channel, 32 names a line.
use Rattle.std.proofs.Common.{◌≡◌, ℕ, zero, suc, ◌+◌, ◌-◌, ◌<◌, ◌≤◌, List, [], ◌∷◌, ◌++◌, length, take, drop, map, refl, sym, ap, subst, ◌∙◌, append_assoc, append-nil, length-append, arith}
use Rattle.std.proofs.lemmas.List.{take-append-drop, take_all, length-take-le, length-drop}
use Rattle.reply_kinds.specs.declared.Reply.TheVariants as reply
use Rattle.lobby_model.specs.State.{State}
use Rattle.lobby_model.specs.Outcome.{tell, user}
use Rattle.lobby_model.specs.Channels.{pieces_from, name_lines}
use Rattle.lobby_post.specs.Posted.{Posted, Told}
use Rattle.lobby_post.proofs.Telling.{told_then, told_as_one}

-- what is told from here on, added to what was told, is all
abbrev pub Continues : State → List ℕ → List ℕ → Posted → Posted → List (List ℕ) → List (List ℕ) → Type 0
Continues s channel me old now all rest = (new : Posted) → Told s now new (tell (user me) (name_lines channel (rest ++ me ∷ [])) ∷ [])
    → Told s old new (tell (user me) (name_lines channel (all ++ me ∷ [])) ∷ [])

suc-is : (a b : ℕ) → suc a ≡ suc b → a ≡ b
suc-is a b e = omega (arith, e)

-- a piece that is filled
filled : (room : ℕ) (begun xs ys : List (List ℕ)) → length xs ≡ room → pieces_from room begun (xs ++ ys) ≡ pieces_from zero (begun ++ xs) ys
filled zero begun [] ys is = ap (λ b. pieces_from zero b ys) (sym (append-nil begun))
filled zero begun (x ∷ xs) ys is = absurd (omega (arith, is))
filled (suc room) begun [] ys is = absurd (omega (arith, is))
filled (suc room) begun (x ∷ xs) ys is =
    filled room (begun ++ x ∷ []) xs ys (suc-is _ _ is) ∙ ap (λ b. pieces_from zero b ys) (append_assoc begun (x ∷ []) xs)

-- one that is not
short : (room : ℕ) (begun xs : List (List ℕ)) → length xs ≤ room → pieces_from room begun xs ≡ (begun ++ xs) ∷ []
short room begun [] h = ap (λ b. b ∷ []) (sym (append-nil begun))
short zero begun (x ∷ xs) h = absurd (omega (arith, h))
short (suc room) begun (x ∷ xs) h = short room (begun ++ x ∷ []) xs (omega (arith, h)) ∙ ap (λ b. b ∷ []) (append_assoc begun (x ∷ []) xs)

begins : (xs ds : List (List ℕ)) (me : List ℕ) → pieces_from zero xs (ds ++ me ∷ []) ≡ xs ∷ pieces_from 32 [] (ds ++ me ∷ [])
begins xs [] me = refl
begins xs (d ∷ ds) me = refl

module _ (channel me : List ℕ) (rest : List (List ℕ)) where
  full_piece : 32 ≤ length rest → name_lines channel (rest ++ me ∷ [])
      ≡ (reply.Clients channel (take 32 rest) ∷ []) ++ name_lines channel (drop 32 rest ++ me ∷ [])
  full_piece enough =
      ap (λ ps. map (λ piece. reply.Clients channel piece) ps)
      (ap (λ r. pieces_from 32 [] (r ++ me ∷ [])) (sym (take-append-drop 32 rest))
      ∙ ap (pieces_from 32 []) (append_assoc (take 32 rest) (drop 32 rest) (me ∷ []))
      ∙ filled 32 [] (take 32 rest) (drop 32 rest ++ me ∷ []) (length-take-le 32 rest enough)
      ∙ begins (take 32 rest) (drop 32 rest) me)

  last_piece : length rest < 32 → name_lines channel (rest ++ me ∷ []) ≡ reply.Clients channel (rest ++ me ∷ []) ∷ []
  last_piece few =
      let long : length (rest ++ me ∷ []) ≡ length rest + 1 = length-append rest (me ∷ []) in
      ap (λ ps. map (λ piece. reply.Clients channel piece) ps) (short 32 [] (rest ++ me ∷ []) (omega (arith, few, long)))

  module _ (s : State) (old now : Posted) (all : List (List ℕ)) (before : Continues s channel me old now all rest) where
    pub piece_told : (next : Posted) → 32 ≤ length rest → Told s now next (tell (user me) (reply.Clients channel (take 32 rest) ∷ []) ∷ [])
        → Continues s channel me old next all (drop 32 rest)
    piece_told next enough told = λ new more.
        before new (subst (λ ls. Told s now new (tell (user me) ls ∷ [])) (sym (full_piece enough))
        (told_as_one s now new (user me) _ _ (told_then s now next new _ _ told more)))

    -- as slices show it
    pub piece_sliced : (next : Posted) → 32 ≤ length rest → Told s now next (tell (user me) (reply.Clients channel (take 32 rest) ∷ []) ∷ [])
        → Continues s channel me old next all (take (length rest - 32) (drop 32 rest))
    piece_sliced next enough told =
        let long : length (drop 32 rest) ≡ length rest - 32 = length-drop 32 rest in
        subst (λ r. Continues s channel me old next all r) (sym (take_all (length rest - 32) (drop 32 rest) (omega (arith, long))))
        (piece_told next enough told)

    pub last_told : (new : Posted) → length rest < 32 → Told s now new (tell (user me) (reply.Clients channel (rest ++ me ∷ []) ∷ []) ∷ [])
        → Told s old new (tell (user me) (name_lines channel (all ++ me ∷ [])) ∷ [])
    last_told new few told = before new (subst (λ ls. Told s now new (tell (user me) ls ∷ [])) (sym (last_piece few)) told)

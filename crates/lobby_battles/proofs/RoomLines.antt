-- What is told of what members of a battle share, piece by piece.
use Rattle.std.proofs.Common.{append-nil, Bor, ◌≡◌, ℕ, ◌+◌, ◌<◌, List, [], ◌∷◌, ◌++◌, map, length, take, get_or, refl, sym, ap, ◌∙◌, Bool, true, false, not, arith}
use Rattle.std.specs.Prelude.{Option, Some, None, flat_map, if◌then◌else◌}
use Rattle.std.specs.Map.Iter.{deref_pair}
use Rattle.std.proofs.lemmas.List.{map-append, take_more, length-take-le, get_or_default}
use Rattle.std.proofs.lemmas.Grind.{flat_map-append}
use Rattle.std.proofs.lemmas.List.Elements.{filter-append}
use Rattle.std.specs.Cmp.{eq_by_cmp_equiv}
use Rattle.reply_kinds.specs.declared.Reply.{Reply}
use Rattle.reply_kinds.specs.declared.opened_battle.OpenedBattle.{OpenedBattle}
use Rattle.reply_kinds.specs.declared.Reply.TheVariants as reply
use Rattle.line_words.specs.Table.{ByNumber, all_but, same_name}
use Rattle.line_words.proofs.Tables.{name_cmp_total}
use Rattle.battle_room.specs.Places.{numbered}
use Rattle.room_lists.specs.Room.{Rect}
use Rattle.lobby_model.specs.State.{Battle, Info}
use Rattle.lobby_model.specs.Battles.{rect_line, opened_line, updated_line, battle_lines}
use Rattle.lobby_post.specs.Posted.{Posted, with_own}
use Rattle.lobby_post.proofs.Telling.{with_own_more}
use Rattle.lobby_model.specs.Opened.{info_of}
use Rattle.lobby_battles.specs.BurstParts.{guest_lines}

-- lines put behind others
module _ (put : Posted → List Reply → Posted) (put_more : (p : Posted) (xs ys : List Reply) → put (put p xs) ys ≡ put p (xs ++ ys)) where
  pub put_then : (a b c : Posted) (xs ys : List Reply) → b ≡ put a xs → c ≡ put b ys → c ≡ put a (xs ++ ys)
  put_then a b c xs ys first second = second ∙ ap (λ p. put p ys) first ∙ put_more a xs ys

  -- one more of some things
  module _ {A : Type 0} (lines : List A → List Reply) (split : (xs ys : List A) → lines (xs ++ ys) ≡ lines xs ++ lines ys) where
    pub put_one_more : (start now next : Posted) (xs : List A) (i : ℕ) (x : A) → i < length xs → x ≡ get_or xs i x
        → now ≡ put start (lines (take i xs)) → next ≡ put now (lines (x ∷ [])) → next ≡ put start (lines (take (i + 1) xs))
    put_one_more start now next xs i x within is before more =
        put_then start now next (lines (take i xs)) (lines (x ∷ [])) before more
        ∙ ap (put start) (sym (split (take i xs) (x ∷ [])) ∙ ap (λ y. lines (take i xs ++ y ∷ [])) is ∙ ap lines (sym (take_more xs i x within)))

  -- each in one line
  pub put_one_line : {A : Type 0} (line : A → Reply) (start now next : Posted) (xs : List A) (i : ℕ) (x : A) → i < length xs → x ≡ get_or xs i x
      → now ≡ put start (map line (take i xs)) → next ≡ put now (line x ∷ []) → next ≡ put start (map line (take (i + 1) xs))
  put_one_line line = put_one_more (map line) (map-append line)

-- one more of some things told
module _ {A : Type 0} (lines : List A → List Reply) (split : (xs ys : List A) → lines (xs ++ ys) ≡ lines xs ++ lines ys) where
  pub told_one_more : (start now next : Posted) (xs : List A) (i : ℕ) (x : A) → i < length xs → x ≡ get_or xs i x
      → now ≡ with_own start (lines (take i xs)) → next ≡ with_own now (lines (x ∷ [])) → next ≡ with_own start (lines (take (i + 1) xs))
  told_one_more = put_one_more with_own with_own_more lines split

-- each in one line
pub told_one_line : {A : Type 0} (line : A → Reply) (start now next : Posted) (xs : List A) (i : ℕ) (x : A) → i < length xs → x ≡ get_or xs i x
    → now ≡ with_own start (map line (take i xs)) → next ≡ with_own now (line x ∷ []) → next ≡ with_own start (map line (take (i + 1) xs))
told_one_line line = told_one_more (map line) (map-append line)

-- the members but one, each in one line
module _ (line : List ℕ → Reply) (founder : List ℕ) where
  abbrev pub guests_told : List (List ℕ) → List Reply
  guests_told names = map line (all_but founder names)

  guests_split : (xs ys : List (List ℕ)) → guests_told (xs ++ ys) ≡ guests_told xs ++ guests_told ys
  guests_split xs ys =
      ap (map line) (filter-append (λ n. not (same_name founder n)) xs ys) ∙ map-append line (all_but founder xs) (all_but founder ys)

  one_guest : (name : List ℕ) (is_founder : Bool) → is_founder ≡ same_name name founder → guests_told (name ∷ []) ≡ (if not is_founder then line name ∷ [] else [])
  one_guest name is_founder is =
      let other_way : same_name founder name ≡ is_founder = (eq_by_cmp_equiv name_cmp_total).symm founder name ∙ sym is in
      ap (λ b. map line (if not b then name ∷ [] else [])) other_way
      ∙ elim is_founder as (λ b. map line (if not b then name ∷ [] else []) ≡ (if not b then line name ∷ [] else [])) [ true ↦ refl | false ↦ refl ]

  pub guest_told : (start now next : Posted) (names : List (List ℕ)) (i : ℕ) (name : List ℕ) (is_founder : Bool) → i < length names → name ≡ get_or names i name
      → is_founder ≡ same_name name founder
      → now ≡ with_own start (guests_told (take i names)) → next ≡ with_own now (if not is_founder then line name ∷ [] else [])
      → next ≡ with_own start (guests_told (take (i + 1) names))
  guest_told start now next names i name is_founder within is founder_is before more =
      told_one_more guests_told guests_split start now next names i name within is before (more ∙ ap (with_own now) (sym (one_guest name is_founder founder_is)))

-- what stands in one place more
module _ {X : Type 0} where
  abbrev pub placed : ℕ → Option X → ByNumber X
  placed n None = []
  placed n (Some x) = (n, x) ∷ []

  last_placed : (places : List (Option X)) (n k : ℕ) (o : Option X) → k ≡ n + length places → numbered n (places ++ o ∷ []) ≡ numbered n places ++ placed k o
  last_placed [] n k o at = elim o as (λ o. numbered n (o ∷ []) ≡ placed k o) [ None ↦ refl | Some x ↦ (let same : n ≡ k = omega arith in ap (λ m. (m, x) ∷ []) same) ]
  last_placed (None ∷ places) n k o at = last_placed places (n + 1) k o (omega arith)
  last_placed (Some x ∷ places) n k o at = ap (λ es. (n, x) ∷ es) (last_placed places (n + 1) k o (omega arith))

  pub place_more : (places : List (Option X)) (n i k : ℕ) (d : Option X) → k ≡ n + i → i < length places
      → numbered n (take (i + 1) places) ≡ numbered n (take i places) ++ placed k (get_or places i d)
  place_more places n i k d at within =
      let long : length (take i places) ≡ i = length-take-le i places (omega arith) in
      ap (numbered n) (take_more places i d within) ∙ last_placed (take i places) n k (get_or places i d) (omega arith)

-- a place, however it is read
pub same_place : {X : Type 0} (xs : List X) (i j : ℕ) (d e x : X) → i < length xs → j ≡ i → get_or xs j e ≡ x → get_or xs i d ≡ x
same_place xs i j d e x within at is = get_or_default xs i d e within ∙ ap (λ k. get_or xs k e) (sym at) ∙ is

abbrev pub rects_told : List (Option Rect) → List Reply
rects_told places = map (λ (e : ℕ × Rect). rect_line e.0 e.1) (numbered 0 places)

pub rect_told : (put : Posted → List Reply → Posted) → ((p : Posted) (xs ys : List Reply) → put (put p xs) ys ≡ put p (xs ++ ys))
    → (start now next : Posted) (places : List (Option Rect)) (i : ℕ) (d : Option Rect) → i < length places
    → now ≡ put start (rects_told (take i places))
    → next ≡ put now (map (λ (e : ℕ × Rect). rect_line e.0 e.1) (placed i (get_or places i d)))
    → next ≡ put start (rects_told (take (i + 1) places))
rect_told put put_more start now next places i d within before more =
    let f : ℕ × Rect → Reply = λ e. rect_line e.0 e.1 in
    put_then put put_more start now next (rects_told (take i places)) (map f (placed i (get_or places i d))) before more
    ∙ ap (put start) (sym (map-append f (numbered 0 (take i places)) (placed i (get_or places i d)))
    ∙ ap (map f) (sym (place_more places 0 i i d (omega arith) within)))

-- a battle
pub battle_told : (start a b c : Posted) (n : ℕ) (battle : Battle) (opened : OpenedBattle) (spectators : ℕ) (locked : Bool)
    → a ≡ with_own start (reply.BattleOpened n opened ∷ []) → b ≡ with_own a (reply.UpdateBattleInfo n spectators locked opened.map_hash opened.map ∷ [])
    → c ≡ with_own b (guest_lines n battle) → info_of opened spectators locked ≡ battle.info → c ≡ with_own start (battle_lines n battle)
battle_told start a b c n battle opened spectators locked first second third same =
    let info : Info = info_of opened spectators locked in
    third
    ∙ ap (λ p. with_own p (guest_lines n battle)) (second ∙ ap (λ p. with_own p (updated_line n info ∷ [])) first
    ∙ with_own_more start (opened_line n info ∷ []) (updated_line n info ∷ []))
    ∙ with_own_more start (opened_line n info ∷ updated_line n info ∷ []) (guest_lines n battle)
    ∙ ap (λ (f : Info). with_own start (opened_line n f ∷ updated_line n f ∷ guest_lines n battle)) same

abbrev pub battles_told : List (Bor ℕ × Bor Battle) → List Reply
battles_told lent = flat_map (λ (e : ℕ × Battle). battle_lines e.0 e.1) (map deref_pair lent)

pub battles_more : (start now next : Posted) (lent : List (Bor ℕ × Bor Battle)) (e : Bor ℕ × Bor Battle) → now ≡ with_own start (battles_told lent)
    → next ≡ with_own now (battle_lines e.0.now e.1.now) → next ≡ with_own start (battles_told (lent ++ e ∷ []))
battles_more start now next lent e before more =
    let f : ℕ × Battle → List Reply = λ e. battle_lines e.0 e.1 in
    more ∙ ap (λ p. with_own p (battle_lines e.0.now e.1.now)) before ∙ with_own_more start (battles_told lent) (battle_lines e.0.now e.1.now)
    ∙ ap (with_own start) (sym (ap (flat_map f) (map-append deref_pair lent (e ∷ [])) ∙ flat_map-append f (map deref_pair lent) (deref_pair e ∷ [])
    ∙ ap (λ ls. battles_told lent ++ ls) (append-nil (battle_lines e.0.now e.1.now))))

-- Users told in the order of names, and a newcomer among them.
use Rattle.std.proofs.Common.{◌≡◌, ◌∙◌, ◌++◌, List, [], ◌∷◌, map, ℕ, Bool, true, false, ap, sym, refl, append_assoc, append-nil, Bor}
use Rattle.std.proofs.lemmas.List.{map-append}
use Rattle.std.specs.Prelude.{if◌then◌else◌}
use Rattle.std.specs.declared.cmp.Ordering.{Ordering}
use Rattle.std.specs.declared.cmp.Ordering.TheVariants.{Less, Equal, Greater}
use Rattle.std.specs.Ordering.{is_le, is_ne}
use Rattle.std.specs.Map.Iter.{deref_pair}
use Rattle.std.specs.FinMap.Entries.{by_order}
use Rattle.reply_kinds.specs.declared.Reply.{Reply}
use Rattle.line_words.specs.Table.{ByName, put_name, name_cmp}
use Rattle.lobby_model.specs.State.{User}
use Rattle.line_words.proofs.Tables.{name_cmp_same}
use Rattle.lobby_post.specs.Posted.{Posted, with_own}
use Rattle.lobby_post.proofs.Telling.{with_own_more}
use Rattle.lobby_battles.specs.declared.burst_parts.Part.{Part}
use Rattle.lobby_battles.specs.declared.online_users.OnlineUser.{OnlineUser}
use Rattle.lobby_battles.specs.OnlineUsers.{plain_user, users_of}
use Rattle.lobby_battles.specs.BurstParts.{part_of, parts_of}

-- a user as a map's iterator lends it, and some
abbrev user_lent : Bor (List ℕ) × Bor OnlineUser → List ℕ × User
user_lent e = (e.0.now, plain_user e.1.now)

abbrev pub users_lent : List (Bor (List ℕ) × Bor OnlineUser) → ByName User
users_lent lent = map user_lent lent

map_of_map : (lent : List (Bor (List ℕ) × Bor OnlineUser)) → users_lent lent ≡ users_of (map deref_pair lent)
map_of_map [] = refl
map_of_map (e ∷ es) = ap (λ us. user_lent e ∷ us) (map_of_map es)

module _ (part : Part) (name : List ℕ) (user : User) where
  -- what is yet to be told, and with it the newcomer that was not
  abbrev pub left : Bool → ByName User → ByName User
  left is_told users = if is_told then users else put_name users name user

  -- the newcomer's order where it was not told
  abbrev pub order_at : Bool → List ℕ → Ordering
  order_at is_told other = if is_told then Greater else name_cmp name other

  -- what is told of the newcomer, and of the other
  abbrev pub first_told : Bool → List Reply
  first_told now = if now then part_of part name user else []

  abbrev pub other_told : Bool → List ℕ × User → List Reply
  other_told now e = if now then part_of part e.0 e.1 else []

  abbrev pub told_at : Ordering → List ℕ × User → List Reply
  told_at order e = first_told (is_le order) ++ other_told (is_ne order) e

  by_turn : (e : List ℕ × User) (order : Ordering) (users : ByName User) → (order ≡ Equal → name ≡ e.0)
      → parts_of part (by_order order ((name, user) ∷ e ∷ users) ((e.0, user) ∷ users) (e ∷ put_name users name user))
      ≡ told_at order e ++ parts_of part (left (is_le order) users)
  by_turn e Less users same = sym (append_assoc (part_of part name user) _ _)
  by_turn e Equal users same = (λ i. part_of part (sym (same refl) i) user ++ parts_of part users)
      ∙ ap (λ t. t ++ parts_of part users) (sym (append-nil (part_of part name user)))
  by_turn e Greater users same = refl

  turn : (is_told : Bool) (e : List ℕ × User) (order : Ordering) (users : ByName User) → order ≡ order_at is_told e.0
      → parts_of part (left is_told (e ∷ users)) ≡ told_at order e ++ parts_of part (left (if is_le order then true else is_told) users)
  turn true e order users is = ap (λ o. told_at o e ++ parts_of part (left (if is_le o then true else true) users)) (sym is)
  turn false e order users is =
      ap (λ o. parts_of part (by_order o ((name, user) ∷ e ∷ users) ((e.0, user) ∷ users) (e ∷ put_name users name user))) (sym is)
      ∙ by_turn e order users (λ tie. name_cmp_same name e.0 (sym is ∙ tie))
      ∙ elim (is_le order) as (λ b. told_at order e ++ parts_of part (left b users)
      ≡ told_at order e ++ parts_of part (left (if b then true else false) users)) [ true ↦ refl | false ↦ refl ]

  -- from what was told when it began, and what is told now, to all that is told
  abbrev pub Tells : Posted → Posted → ByName User → Bool → Type 0
  Tells start now users is_told = (rest : ByName User)
      → with_own start (parts_of part (put_name (users ++ rest) name user)) ≡ with_own now (parts_of part (left is_told rest))

  pub tells_next : (start now : Posted) (lent : List (Bor (List ℕ) × Bor OnlineUser)) (is_told : Bool) (e : Bor (List ℕ) × Bor OnlineUser) (order : Ordering)
      (one more : Posted) (is_told_now : Bool)
      → Tells start now (users_lent lent) is_told → order ≡ order_at is_told e.0.now
      → one ≡ with_own now (first_told (is_le order)) → is_told_now ≡ (if is_le order then true else is_told)
      → more ≡ with_own one (other_told (is_ne order) (e.0.now, plain_user e.1.now)) → Tells start more (users_lent (lent ++ e ∷ [])) is_told_now
  tells_next start now lent is_told e order one more is_told_now tells is first after second = λ rest.
      let all : more ≡ with_own now (told_at order (user_lent e)) = second ∙ ap (λ p. with_own p (other_told (is_ne order) (user_lent e))) first
      ∙ with_own_more now (first_told (is_le order)) (other_told (is_ne order) (user_lent e)) in
      ap (λ us. with_own start (parts_of part (put_name us name user))) (ap (λ us. us ++ rest) (map-append user_lent lent (e ∷ []))
      ∙ append_assoc (users_lent lent) (user_lent e ∷ []) rest)
      ∙ tells (user_lent e ∷ rest)
      ∙ ap (with_own now) (turn is_told (user_lent e) order rest is)
      ∙ sym (with_own_more now (told_at order (user_lent e)) _)
      ∙ (λ i. with_own (sym all i) (parts_of part (left (sym after i) rest)))

  pub tells_all : (start now more : Posted) (lent : List (Bor (List ℕ) × Bor OnlineUser)) (online : ByName OnlineUser) (is_told : Bool)
      → Tells start now (users_lent lent) is_told
      → map deref_pair lent ≡ online → more ≡ with_own now (if is_told then [] else part_of part name user)
      → more ≡ with_own start (parts_of part (put_name (users_of online) name user))
  tells_all start now more lent online is_told tells all last =
      last
      ∙ ap (with_own now) (elim is_told as (λ b. (if b then [] else part_of part name user)
      ≡ parts_of part (left b [])) [ true ↦ refl | false ↦ sym (append-nil _) ])
      ∙ sym (tells [])
      ∙ ap (λ us. with_own start (parts_of part (put_name us name user))) (append-nil _ ∙ map_of_map lent ∙ ap users_of all)

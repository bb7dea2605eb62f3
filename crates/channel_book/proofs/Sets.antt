-- The sets of an index, each found by its user.
use Rattle.std.proofs.Common.{◌≡◌, ℕ, List, [], refl, ap, sym, ◌∙◌, true, false, cond, nat_eq}
use Rattle.std.specs.Prelude.{Option, Some, None}
use Rattle.std.specs.Cmp.Lexicographic.{pointwise, texts_ties}
use Rattle.std.specs.BTreeMap.{is_at}
use Rattle.std.specs.BTreeSet.{BTreeSet}
use Rattle.std.specs.Set.{remove_key}
use Rattle.std.specs.Map.{lookup}
use Rattle.line_words.specs.Table.{ByName, name_cmp, same_name}
use Rattle.line_words.proofs.Tables.{same_name_is}
use Rattle.channel_book.specs.Places.{Places, listed, places_of, without_place}

-- with other channels of one user
abbrev pub with_own : List ℕ → List (List ℕ) → Places → Places
with_own name own places user = cond (same_name name user) own (places user)

-- one user's set is another one, or there is none of it any more
pub written : (name : List ℕ) (old new : ByName (BTreeSet (List ℕ))) (found : Option (BTreeSet (List ℕ))) (own : List (List ℕ))
    → ((user : List ℕ) → lookup (pointwise nat_eq user) new ≡ cond (pointwise nat_eq name user) found (lookup (pointwise nat_eq user) old)) → listed found ≡ own
    → places_of new ≡ with_own name own (places_of old)
written name old new found own updates is = λ i user. each user i
  where
    each : (user : List ℕ) → places_of new user ≡ with_own name own (places_of old) user
    each user =
        ap listed (updates user)
        ∙ elim (pointwise nat_eq name user) as (λ b. listed (cond b found (lookup (pointwise nat_eq user) old)) ≡ cond b own (places_of old user)) [ true ↦ is | false ↦ refl ]
        ∙ ap (λ b. cond b own (places_of old user)) (texts_ties name user)

pub written_again : (name : List ℕ) (places : Places) (first own : List (List ℕ)) → with_own name own (with_own name first places) ≡ with_own name own places
written_again name places first own = λ i user. each user i
  where
    each : (user : List ℕ) → with_own name own (with_own name first places) user ≡ with_own name own places user
    each user = elim (same_name name user) as (λ b. cond b own (cond b first (places user)) ≡ cond b own (places user)) [ true ↦ refl | false ↦ refl ]

-- nothing is taken from one who has none
pub none_to_take : (channel name : List ℕ) (places : Places) → places name ≡ [] → places ≡ without_place channel name places
none_to_take channel name places none = λ i user. each user i
  where
    each : (user : List ℕ) → places user ≡ without_place channel name places user
    each user =
        elim (same_name name user) as (λ b. same_name name user ≡ b → places user ≡ cond b (remove_key (is_at (name_cmp channel)) (places name)) (places user)) [
          | true ↦ λ t. ap places (sym (same_name_is name user t)) ∙ none ∙ sym (ap (remove_key (is_at (name_cmp channel))) none)
          | false ↦ λ t. refl
        ] refl

pub no_names : (found : Option (BTreeSet (List ℕ))) → ((names : BTreeSet (List ℕ)) → found ≡ Some names → ⊥) → [] ≡ listed found
no_names None none = refl
no_names (Some names) none = absurd (none names refl)

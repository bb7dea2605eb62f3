-- What happens to battles and users keeps those who ask to join battles sound.
use Rattle.std.proofs.Common.{◌≡◌, ℕ, List, [], ◌∷◌, ◌++◌, refl, sym, ap, subst, ◌∙◌, Bool, true, false, inl, inr}
use Rattle.std.specs.Prelude.{◌⊎◌, ◌||◌, Option, Some, IsSome, map, find, if◌then◌else◌}
use Rattle.std.specs.List.{IsDistinct}
use Rattle.std.specs.Ordering.{nat_cmp}
use Rattle.std.specs.Cmp.{nat_cmp_total}
use Rattle.std.specs.FinMap.{nat_cmp-IsAntisymmetric}
use Rattle.std.proofs.lemmas.List.{map-append}
use Rattle.std.proofs.lemmas.Option.{same_Some}
use Rattle.line_words.specs.Table.{ByName, ByNumber, at_name, at_number, put_number, without_number, change_number, same_name, same_number, is_among, all_but}
use Rattle.room_lists.specs.Room.{Room, Asker, has_member, has_asker, asker_names, asker_of, with_asker, without_asker}
use Rattle.lobby_model.specs.State.{User, Battle}
use Rattle.lobby_model.specs.Sound.{SoundAskers}
use Rattle.line_words.proofs.Tables.{same_name_itself}
use Rattle.line_words.proofs.Once.{contradiction}
use Rattle.lobby_model.proofs.Finding.{of_changed, of_put, of_without}
use Rattle.lobby_model.proofs.Named.{names_but}

-- in no battle
abbrev pub IsNowhere : ByNumber Battle → List ℕ → Type 0
IsNowhere battles name = (id : ℕ) (battle : Battle) → at_number battles id ≡ Some battle → has_member name battle.room ≡ false

-- asks to join none
abbrev pub AsksNowhere : ByNumber Battle → List ℕ → Type 0
AsksNowhere battles name = (id : ℕ) (battle : Battle) → at_number battles id ≡ Some battle → has_asker name battle.room ≡ false

-- asks at no battle but perhaps this one
abbrev pub AsksNotElsewhere : ByNumber Battle → ℕ → List ℕ → Type 0
AsksNotElsewhere battles id name =
    (q : ℕ) (x : Battle) → same_number id q ≡ false → at_number battles q ≡ Some x → has_asker name x.room ≡ false

-- a user who is in no battle, and asks to join none
pub record IsFree (users : ByName User) (battles : ByNumber Battle) (name : List ℕ) : Type 0 where
  pub nowhere : IsNowhere battles name
  pub asks_nowhere : AsksNowhere battles name
  pub known : IsSome (at_name users name)

or_true : (b : Bool) → (b || true) ≡ true
or_true true = refl
or_true false = refl

-- one who is found asks
pub found_asks : (name : List ℕ) (battle : Battle) (asker : Asker) → asker_of name battle.room ≡ Some asker → has_asker asker.name battle.room ≡ true
found_asks name battle asker is = among battle.room.askers is
  where
    among : (askers : List Asker) → find (λ a. same_name name a.name) askers ≡ Some asker → is_among asker.name (map (λ a. a.name) askers) ≡ true
    among [] e = absurd (cc)
    among (a ∷ askers) e =
        elim (same_name name a.name) as (λ b. (if b then Some a else find (λ a. same_name name a.name) askers) ≡ Some asker
        → (same_name asker.name a.name || is_among asker.name (map (λ a. a.name) askers)) ≡ true) [
          | true ↦ λ s. ap (λ (x : Asker). same_name x.name a.name || is_among x.name (map (λ a. a.name) askers)) (sym (same_Some a asker s))
              ∙ ap (λ b. b || is_among a.name (map (λ a. a.name) askers)) (same_name_itself a.name)
          | false ↦ λ s. ap (λ b. same_name asker.name a.name || b) (among askers s) ∙ or_true (same_name asker.name a.name)
        ] e

-- the names of those who ask
pub asks_with : (name : List ℕ) (script_password : Option (List ℕ)) (room : Room)
    → asker_names (with_asker name script_password room) ≡ asker_names room ++ name ∷ []
asks_with name script_password room = map-append (λ (a : Asker). a.name) room.askers _

pub asks_without : (name : List ℕ) (room : Room) → asker_names (without_asker name room) ≡ all_but name (asker_names room)
asks_without name room = names_but (λ a. a.name) name room.askers

module _ (users : ByName User) (battles : ByNumber Battle) (sound : SoundAskers users battles) where
  -- one battle changes: who asks there asked before or is free, and who is a member was one or asks no more
  module _ (id : ℕ) (f : Battle → Battle) (battle : Battle) (there : at_number battles id ≡ Some battle)
      (once : IsDistinct same_name (asker_names (f battle).room))
      (asks : (name : List ℕ) → has_asker name (f battle).room ≡ true → (has_asker name battle.room ≡ true) ⊎ IsFree users battles name)
      (enters : (name : List ℕ) → has_member name (f battle).room ≡ true
      → (has_member name battle.room ≡ true) ⊎ ((has_asker name (f battle).room ≡ false) × AsksNotElsewhere battles id name)) where
    now : (q : ℕ) (x : Battle) → at_number (change_number battles id f) q ≡ Some x
        → ((id ≡ q) × (f battle ≡ x)) ⊎ ((same_number id q ≡ false) × (at_number battles q ≡ Some x))
    now q x found = of_changed nat_cmp nat_cmp-IsAntisymmetric id f battles battle there q x found

    -- here: what is said of the changed battle
    here : (P : Battle → Type 0) (x : Battle) → f battle ≡ x → P x → P (f battle)
    here P x is h = subst P (sym is) h

    apart_here : (name : List ℕ) → has_asker name (f battle).room ≡ true → has_member name (f battle).room ≡ true → ⊥
    apart_here name a m = elim (enters name m) [
      | inl before ↦ elim (asks name a) [
        | inl asked ↦ sound.outside name id id battle battle there there asked before
        | inr free ↦ contradiction (has_member name battle.room) before (free.nowhere id battle there)
      ]
      | inr gone ↦ contradiction (has_asker name (f battle).room) a gone.0
    ]

    asks_here : (name : List ℕ) (j : ℕ) (y : Battle) → at_number battles j ≡ Some y → has_asker name (f battle).room ≡ true
        → has_member name y.room ≡ true → ⊥
    asks_here name j y at_j a m = elim (asks name a) [
      | inl asked ↦ sound.outside name id j battle y there at_j asked m
      | inr free ↦ contradiction (has_member name y.room) m (free.nowhere j y at_j)
    ]

    member_here : (name : List ℕ) (i : ℕ) (x : Battle) → same_number id i ≡ false → at_number battles i ≡ Some x → has_asker name x.room ≡ true
        → has_member name (f battle).room ≡ true → ⊥
    member_here name i x apart at_i a m = elim (enters name m) [
      | inl before ↦ sound.outside name i id x battle at_i there a before
      | inr gone ↦ contradiction (has_asker name x.room) a (gone.1 i x apart at_i)
    ]

    one_here : (name : List ℕ) (j : ℕ) (y : Battle) → at_number battles j ≡ Some y → has_asker name (f battle).room ≡ true
        → has_asker name y.room ≡ true → id ≡ j
    one_here name j y at_j a b = elim (asks name a) [
      | inl asked ↦ sound.one name id j battle y there at_j asked b
      | inr free ↦ contradiction (has_asker name y.room) b (free.asks_nowhere j y at_j)
    ]

    user_here : (name : List ℕ) → has_asker name (f battle).room ≡ true → IsSome (at_name users name)
    user_here name a = elim (asks name a) [ inl asked ↦ sound.are_users id battle name there asked | inr free ↦ free.known ]

    pub changed_askers : SoundAskers users (change_number battles id f)
    changed_askers = record {
      once = λ q x found. elim (now q x found) [
        | inl is ↦ subst (λ b. IsDistinct same_name (asker_names b.room)) is.1 once
        | inr was ↦ sound.once q x was.1
      ];
      are_users = λ q x name found a. elim (now q x found) [
        | inl is ↦ user_here name (here (λ b. has_asker name b.room ≡ true) x is.1 a)
        | inr was ↦ sound.are_users q x name was.1 a
      ];
      outside = λ name i j x y at_i at_j a m. elim (now i x at_i) [
        | inl i_is ↦
            let mine = here (λ b. has_asker name b.room ≡ true) x i_is.1 a in
            elim (now j y at_j) [
              | inl j_is ↦ apart_here name mine (here (λ b. has_member name b.room ≡ true) y j_is.1 m)
              | inr was ↦ asks_here name j y was.1 mine m
            ]
        | inr i_was ↦ elim (now j y at_j) [
          | inl j_is ↦ member_here name i x i_was.0 i_was.1 a (here (λ b. has_member name b.room ≡ true) y j_is.1 m)
          | inr was ↦ sound.outside name i j x y i_was.1 was.1 a m
        ]
      ];
      one = λ name i j x y at_i at_j a b. elim (now i x at_i) [
        | inl i_is ↦ elim (now j y at_j) [
          | inl j_is ↦ sym i_is.0 ∙ j_is.0
          | inr was ↦ sym i_is.0 ∙ one_here name j y was.1 (here (λ b. has_asker name b.room ≡ true) x i_is.1 a) b
        ]
        | inr i_was ↦ elim (now j y at_j) [
          | inl j_is ↦ sym (one_here name i x i_was.1 (here (λ b. has_asker name b.room ≡ true) y j_is.1 b) a) ∙ j_is.0
          | inr was ↦ sound.one name i j x y i_was.1 was.1 a b
        ]
      ];
    }

  -- a new battle at which nobody asks, of those who ask at none
  module _ (id : ℕ) (battle : Battle) (none : battle.room.askers ≡ [])
      (new : (name : List ℕ) → has_member name battle.room ≡ true → AsksNowhere battles name) where
    put : (q : ℕ) (x : Battle) → at_number (put_number battles id battle) q ≡ Some x → ((q ≡ id) × (battle ≡ x)) ⊎ (at_number battles q ≡ Some x)
    put q x found = of_put nat_cmp nat_cmp_total nat_cmp-IsAntisymmetric battles id battle q x found

    nobody : {A : Type 0} → (name : List ℕ) (x : Battle) → battle ≡ x → has_asker name x.room ≡ true → A
    nobody name x is a =
        contradiction (has_asker name x.room) a (ap (λ b. has_asker name b.room) (sym is) ∙ ap (λ askers. is_among name (map (λ (a : Asker). a.name) askers)) none)

    pub opened_askers : SoundAskers users (put_number battles id battle)
    unfolding IsDistinct
    opened_askers = record {
      once = λ q x found. elim (put q x found) [
        | inl is ↦ subst (λ b. IsDistinct same_name (asker_names b.room)) is.1
            (subst (λ askers. IsDistinct same_name (map (λ (a : Asker). a.name) askers)) (sym none) tt)
        | inr was ↦ sound.once q x was
      ];
      are_users = λ q x name found a. elim (put q x found) [ inl is ↦ nobody name x is.1 a | inr was ↦ sound.are_users q x name was a ];
      outside = λ name i j x y at_i at_j a m. elim (put i x at_i) [
        | inl is ↦ nobody name x is.1 a
        | inr i_was ↦ elim (put j y at_j) [
          | inl is ↦ contradiction (has_asker name x.room) a (new name (ap (λ b. has_member name b.room) is.1 ∙ m) i x i_was)
          | inr was ↦ sound.outside name i j x y i_was was a m
        ]
      ];
      one = λ name i j x y at_i at_j a b. elim (put i x at_i) [
        | inl is ↦ nobody name x is.1 a
        | inr i_was ↦ elim (put j y at_j) [ inl is ↦ nobody name y is.1 b | inr was ↦ sound.one name i j x y i_was was a b ]
      ];
    }

  pub closed_askers : (id : ℕ) → SoundAskers users (without_number battles id)
  closed_askers id = record {
    once = λ q x found. sound.once q x (was q x found);
    are_users = λ q x name found a. sound.are_users q x name (was q x found) a;
    outside = λ name i j x y at_i at_j a m. sound.outside name i j x y (was i x at_i) (was j y at_j) a m;
    one = λ name i j x y at_i at_j a b. sound.one name i j x y (was i x at_i) (was j y at_j) a b;
  }
    where
      was : (q : ℕ) (x : Battle) → at_number (without_number battles id) q ≡ Some x → at_number battles q ≡ Some x
      was q x found = (of_without nat_cmp nat_cmp_total battles id q x found).1

  -- users come, change and go, but not those who ask
  pub askers_of_users : (new : ByName User)
      → ((id : ℕ) (battle : Battle) (name : List ℕ) → at_number battles id ≡ Some battle → has_asker name battle.room ≡ true
      → IsSome (at_name new name)) → SoundAskers new battles
  askers_of_users new stay = record { once = sound.once; are_users = stay; outside = sound.outside; one = sound.one }

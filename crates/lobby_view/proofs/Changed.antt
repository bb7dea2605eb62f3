-- A change of one battle's room, as each user observes it.
use Rattle.std.proofs.Common.{◌≡◌, ℕ, List, [], ◌∷◌, refl, ap, ◌∙◌, Bool, true, false}
use Rattle.std.specs.Prelude.{Option, Some, None, find, if◌then◌else◌}
use Rattle.std.specs.Ordering.{nat_cmp}
use Rattle.line_words.specs.Table.{ByNumber, change_number, map_values, same_number, is_among}
use Rattle.room_lists.specs.Room.{Room, has_member, member_names}
use Rattle.lobby_model.specs.State.{State, Battle, battle_of}
use Rattle.lobby_model.specs.Battles.{change_room}
use Rattle.lobby_view.specs.View.{Listed, OwnRoom, change_members, in_room_of}
use Rattle.lobby_view.specs.Observe.{observe, shared, listed, own_room}
use Rattle.lobby_view.proofs.Basics.{owned}
use Rattle.lobby_view.proofs.OwnBattle.{is_of}
use Rattle.lobby_view.proofs.Ordered.{values_changed}

abbrev pub roomed : (Room → Room) → Battle → Battle
roomed f battle = record battle { room = f battle.room }

abbrev pub roomed_at : ℕ → (Room → Room) → Option (ℕ × Battle) → Option (ℕ × Battle)
roomed_at id f None = None
roomed_at id f (Some own) = Some (own.0, if same_number id own.0 then roomed f own.1 else own.1)

abbrev pub all_listed : ByNumber Battle → ByNumber Listed
all_listed battles = map_values (λ id battle. listed battle) battles

-- the first battle of which one is a member
abbrev pub own_in : List ℕ → ByNumber Battle → Option (ℕ × Battle)
own_in u battles = find (λ e. has_member u e.1.room) battles

-- f changes the names of the members as g does
module _ (id : ℕ) (f : Room → Room) (g : List (List ℕ) → List (List ℕ)) (names : (room : Room) → member_names (f room) ≡ g (member_names room)) where
  pub listed_changed : (m : ByNumber Battle) → all_listed (change_number m id (roomed f)) ≡ change_number (all_listed m) id (change_members g)
  listed_changed m =
      values_changed nat_cmp listed (roomed f) (change_members g)
      (λ battle. ap (λ members. record { info = battle.info; members = members }) (names battle.room)) m id

  -- and u stays in or out
  module _ (u : List ℕ) (same : (names : List (List ℕ)) → is_among u (g names) ≡ is_among u names) where
    still : (b : Bool) (battle : Battle) → has_member u (if b then roomed f battle else battle).room ≡ has_member u battle.room
    still true battle = ap (is_among u) (names battle.room) ∙ same (member_names battle.room)
    still false battle = refl

    own_changed : (m : ByNumber Battle) → own_in u (change_number m id (roomed f)) ≡ roomed_at id f (own_in u m)
    own_changed [] = refl
    own_changed (e ∷ m) =
        let later = own_in u (change_number m id (roomed f)) in
        let here = if same_number id e.0 then roomed f e.1 else e.1 in
        ap (λ b. if b then Some (e.0, here) else later) (still (same_number id e.0) e.1)
        ∙ elim (has_member u e.1.room) as (λ b. (if b then Some (e.0, here) else later) ≡ roomed_at id f (if b then Some e else own_in u m)) [
          | true ↦ refl
          | false ↦ own_changed m
        ]

    -- and what members share changes as by h
    module _ (h : Room → Room) (shares : (room : Room) → shared (f room) ≡ h (shared room)) where
      own_room_changed : (o : Option (ℕ × Battle)) → own_room (roomed_at id f o) ≡ in_room_of id h (own_room o)
      own_room_changed None = refl
      own_room_changed (Some own) =
          elim (same_number id own.0) as
          (λ b. Some (owned own.0 (shared (if b then roomed f own.1 else own.1).room))
          ≡ (if b then Some (owned own.0 (h (shared own.1.room))) else Some (owned own.0 (shared own.1.room)))) [
            | true ↦ ap (λ room. Some (owned own.0 room)) (shares own.1.room)
            | false ↦ refl
          ]

      -- to u it is as if its view were changed so
      pub room_changed : (s : State) → observe (change_room s id f) u
          ≡ record (observe s u) { battles = change_number (observe s u).battles id (change_members g); own = in_room_of id h (observe s u).own }
      room_changed s = λ i. record (observe s u) {
        battles = listed_changed s.battles i;
        own = (ap own_room (own_changed s.battles) ∙ own_room_changed (battle_of s u)) i;
      }

-- of a battle that is not one's own nothing changes in one's room
pub not_own : (id : ℕ) (f : Room → Room) (o : Option (ℕ × Battle)) → is_of id o ≡ false → in_room_of id f (own_room o) ≡ own_room o
not_own id f None other = refl
not_own id f (Some own) other = ap (λ b. if b then Some (owned own.0 (f (shared own.1.room))) else Some (owned own.0 (shared own.1.room))) other

-- a change of nothing
pub unchanged : {X : Type 0} (id : ℕ) (f : X → X) → ((x : X) → f x ≡ x) → (m : ByNumber X) → change_number m id f ≡ m
unchanged id f is [] = refl
unchanged id f is (e ∷ m) = λ i. (e.0, here (same_number id e.0) i) ∷ unchanged id f is m i
  where
    here : (b : Bool) → (if b then f e.1 else e.1) ≡ e.1
    here true = is e.1
    here false = refl

-- the members stay, and what they share changes as by h
pub room_of_same : (id : ℕ) (f h : Room → Room) → ((room : Room) → member_names (f room) ≡ member_names room)
    → ((room : Room) → shared (f room) ≡ h (shared room)) → (u : List ℕ) (s : State)
    → observe (change_room s id f) u ≡ record (observe s u) { own = in_room_of id h (observe s u).own }
room_of_same id f h keeps shares u s =
    room_changed id f (λ names. names) keeps u (λ names. refl) h shares s
    ∙ ap (λ battles. record (observe s u) { battles = battles; own = in_room_of id h (observe s u).own })
    (unchanged id (λ listed. listed) (λ listed. refl) (observe s u).battles)

-- nothing that members share changes
pub not_shared : (id : ℕ) (f : Room → Room) → ((room : Room) → shared (f room) ≡ shared room) → (u : List ℕ) (s : State)
    → observe (change_room s id f) u ≡ observe s u
not_shared id f hides u s =
    room_of_same id f (λ room. room) (λ room. ap member_names (hides room)) hides u s
    ∙ ap (λ own. record (observe s u) { own = own }) (same_room (observe s u).own)
  where
    same_room : (own : Option OwnRoom) → in_room_of id (λ room. room) own ≡ own
    same_room None = refl
    same_room (Some own) = elim (same_number id own.battle) as (λ b. (if b then Some own else Some own) ≡ Some own) [ true ↦ refl | false ↦ refl ]

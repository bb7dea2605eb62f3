-- Battles and who is online: who is in which battle, and what a change of one leaves.
use Rattle.std.proofs.Common.{◌≡◌, ℕ, List, [], ◌∷◌, refl, sym, ap, ◌∙◌, Bool, true, false, T, cond}
use Rattle.std.specs.Prelude.{Option, Some, None, find, if◌then◌else◌}
use Rattle.std.proofs.lemmas.Option.{same_Some}
use Rattle.std.specs.Ordering.{nat_cmp}
use Rattle.std.specs.Cmp.{nat_cmp_total}
use Rattle.std.specs.FinMap.Entries.{is_sorted}
use Rattle.std.specs.FinMap.{nat_cmp-IsAntisymmetric}
use Rattle.line_words.proofs.Tables.{change_alike}
use Rattle.line_words.specs.Table.{ByName, ByNumber, at_number, at_name, change_name, is_among, same_name}
use Rattle.lobby_model.proofs.RoomsKept.{names_with_status}
use Rattle.lobby_model.proofs.Finding.{found_at, none_at}
use Rattle.line_words.proofs.Once.{contradiction}
use Rattle.lobby_battles.proofs.Knowing.{Shrinks}
use Rattle.std.specs.declared.cmp.Ordering.{Ordering}
use Rattle.std.specs.Ordering.{eq_by_cmp}
use Rattle.std.specs.BTreeMap.{is_at}
use Rattle.std.specs.Map.{lookup, set_value}
use Rattle.room_lists.specs.Room.{Room, has_asker}
use Rattle.lobby_battles.specs.declared.battles.RoomChange.{RoomChange}
use Rattle.lobby_battles.specs.declared.battles.RoomChange.TheVariants as room
use Rattle.lobby_model.specs.State.{Battle}
use Rattle.lobby_battles.specs.declared.online_users.OnlineUser.{OnlineUser}
use Rattle.lobby_battles.specs.Battles.{KnowTheirBattles, ChangesAlike, IsOnly, asks_at, battle_at, concerns, room_after}
use Rattle.lobby_battles.specs.OnlineUsers.{online_user_in, plain_user, users_of}

-- what one test of the values finds
module _ {X : Type 0} (p : X → Bool) (m : ByNumber X) (sorted : T (is_sorted nat_cmp m)) where
  pub finds_sole : (k : ℕ) (x : X) → at_number m k ≡ Some x → p x ≡ true
      → ((q : ℕ) (y : X) → at_number m q ≡ Some y → p y ≡ true → q ≡ k) → find (λ e. p e.1) m ≡ Some (k, x)
  finds_sole k x there passes sole =
      elim (find (λ e. p e.1) m) as (λ o. find (λ e. p e.1) m ≡ o → o ≡ Some (k, x)) [
        | None ↦ λ e. contradiction (p x) passes (none_at nat_cmp p m e k x there)
        | Some e ↦ λ is.
            let found = found_at nat_cmp nat_cmp_total p m e sorted is in
            let key : e.0 ≡ k = sole e.0 e.1 found.0 found.1 in
            let value : e.1 ≡ x = same_Some e.1 x (sym found.0 ∙ ap (at_number m) key ∙ there) in
            λ i. Some (key i, value i)
      ] refl

  pub finds_none : ((q : ℕ) (y : X) → at_number m q ≡ Some y → p y ≡ false) → find (λ e. p e.1) m ≡ None
  finds_none none =
      elim (find (λ e. p e.1) m) as (λ o. find (λ e. p e.1) m ≡ o → o ≡ None) [
        | None ↦ λ e. refl
        | Some e ↦ λ is.
            let found = found_at nat_cmp nat_cmp_total p m e sorted is in
            contradiction (p e.1) found.1 (none e.0 e.1 found.0)
      ] refl

-- the battle whose room passes a test, of one whom it concerns
module _ (battles : ByNumber Battle) (online : ByName OnlineUser) (sorted : T (is_sorted nat_cmp battles)) (knowing : KnowTheirBattles battles online)
    (name : List ℕ) (test : Room → Bool) (of_it : (rm : Room) → test rm ≡ true → concerns name rm ≡ true) where
  pub own_found : (number : ℕ) (battle : Battle) → at_number battles number ≡ Some battle → test battle.room ≡ true
      → find (λ e. test e.1.room) battles ≡ Some (number, battle)
  own_found number battle there in_it =
      finds_sole (λ b. test b.room) battles sorted number battle there in_it
      (λ q y at_q in_y. same_Some q number (sym (knowing.at name q y at_q (of_it y.room in_y)) ∙ knowing.at name number battle there (of_it battle.room in_it)))

  pub own_none : ((number : ℕ) (battle : Battle) → battle_at (at_name online name) ≡ Some number → at_number battles number ≡ Some battle
      → test battle.room ≡ false) → find (λ e. test e.1.room) battles ≡ None
  own_none none =
      finds_none (λ b. test b.room) battles sorted
      (λ q y at_q. elim (test y.room) as (λ b. test y.room ≡ b → b ≡ false) [
        | true ↦ λ in_y. sym in_y ∙ none q y (knowing.at name q y at_q (of_it y.room in_y)) at_q
        | false ↦ λ out. refl
      ] refl)

  pub own_nowhere : ((number : ℕ) (battle : Battle) → battle_at (at_name online name) ≡ Some number → at_number battles number ≡ Some battle
      → test battle.room ≡ false) → (at : Option ℕ) → IsOnly test battles at
  own_nowhere none at = λ q y at_q in_y.
      contradiction (test y.room) in_y (none q y (knowing.at name q y at_q (of_it y.room in_y)) at_q)

  -- it is in no other
  pub own_only : (number : ℕ) (battle : Battle) → at_number battles number ≡ Some battle → test battle.room ≡ true → IsOnly test battles (Some number)
  own_only number battle there in_it = λ q y at_q in_y.
      sym (knowing.at name number battle there (of_it battle.room in_it)) ∙ knowing.at name q y at_q (of_it y.room in_y)

-- the battle at which one asks
pub asking_there : (o : Option Battle) (name : List ℕ) → asks_at o name ≡ true → (b : Battle) × (o ≡ Some b) × (has_asker name b.room ≡ true)
asking_there None name asks = absurd (cc)
asking_there (Some b) name asks = (b, refl, asks)

-- a value that is written where it stands already
pub set_same : {K X : Type 0} (R : K → K → Ordering) (k : K) (x : X) (m : List (K × X)) → lookup (is_at (R k)) m ≡ Some x
    → set_value (is_at (R k)) m x ≡ m
set_same R k x [] found = refl
set_same R k x (e ∷ m) found =
    elim (eq_by_cmp R k e.0) as (λ b. cond b (Some e.1) (lookup (is_at (R k)) m) ≡ Some x
    → cond b ((e.0, x) ∷ m) (e ∷ set_value (is_at (R k)) m x) ≡ e ∷ m) [
      | true ↦ λ is. ap (λ y. (e.0, y) ∷ m) (sym (same_Some e.1 x is))
      | false ↦ λ later. ap (λ es. e ∷ es) (set_same R k x m later)
    ] found

-- one who enters a battle stays the same user
pub users_entered : (online : ByName OnlineUser) (k : List ℕ) (number : ℕ) → users_of (change_name online k (online_user_in number)) ≡ users_of online
users_entered [] k number = refl
users_entered (e ∷ online) k number =
    ap (λ u. (e.0, u) ∷ users_of (change_name online k (online_user_in number)))
    (elim (same_name k e.0) as (λ b. plain_user (if b then online_user_in number e.1 else e.1) ≡ plain_user e.1) [ true ↦ refl | false ↦ refl ])
    ∙ ap (λ us. (e.0, plain_user e.1) ∷ us) (users_entered online k number)

-- what changes in a room lets nobody in, and lets nobody ask
pub shrinks_after : (change : RoomChange) (rm : Room) → Shrinks rm (room_after change rm)
shrinks_after (room.Status name status colour) rm = record {
  members = λ q in_it. ap (is_among q) (sym (names_with_status name status colour rm)) ∙ in_it;
  askers = λ q h. h;
}
shrinks_after change rm = record { members = λ q h. h; askers = λ q h. h }

-- the battle at a number is the only one there
pub alike_at : (battles : ByNumber Battle) → T (is_sorted nat_cmp battles) → (number : ℕ) (battle : Battle) → at_number battles number ≡ Some battle
    → ChangesAlike battles number battle
alike_at battles sorted number battle there = λ f g same.
    change_alike nat_cmp nat_cmp_total nat_cmp-IsAntisymmetric f g battles number sorted
    (λ x found. let is : x ≡ battle = same_Some x battle (sym found ∙ there) in ap f is ∙ same ∙ ap g (sym is))

-- What is refused to one who is not the founder, before what may be refused to a founder.
use Rattle.std.proofs.Common.{◌≡◌, ℕ, List, refl, sym, true, false}
use Rattle.std.specs.Prelude.{if◌then◌else◌, Option, Some, None}
use Rattle.room_lists.specs.Room as room
use Rattle.battle_room.specs.declared.error.RoomError.{RoomError}
use Rattle.battle_room.specs.declared.error.RoomError.TheVariants.{NotMember, NotAllowed}
use Rattle.battle_room.specs.Refusals.{founder_refusal, is_first_member, unless_founder}

pub other_refused : (by : List ℕ) (r : room.Room) (rest : Option RoomError) (e : RoomError) → Some e ≡ founder_refusal by r
    → unless_founder by r rest ≡ Some e
other_refused by r rest e is =
    elim (room.has_member by r) as (λ m. Some e ≡ (if m then (if is_first_member by r then None else Some NotAllowed) else Some NotMember)
    → (if m then (if is_first_member by r then rest else Some NotAllowed) else Some NotMember) ≡ Some e) [
      | true ↦ elim (is_first_member by r) as (λ f. Some e ≡ (if f then None else Some NotAllowed) → (if f then rest else Some NotAllowed) ≡ Some e) [
        | true ↦ λ none. absurd (cc)
        | false ↦ λ same. sym same
      ]
      | false ↦ λ same. sym same
    ] is

pub founder_is_heard : (by : List ℕ) (r : room.Room) (rest : Option RoomError) → None ≡ founder_refusal by r → unless_founder by r rest ≡ rest
founder_is_heard by r rest is =
    elim (room.has_member by r) as (λ m. None ≡ (if m then (if is_first_member by r then None else Some NotAllowed) else Some NotMember)
    → (if m then (if is_first_member by r then rest else Some NotAllowed) else Some NotMember) ≡ rest) [
      | true ↦ elim (is_first_member by r) as (λ f. None ≡ (if f then None else Some NotAllowed) → (if f then rest else Some NotAllowed) ≡ rest) [
        | true ↦ λ same. refl
        | false ↦ λ some. absurd (cc)
      ]
      | false ↦ λ some. absurd (cc)
    ] is

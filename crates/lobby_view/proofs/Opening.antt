-- A battle is opened; what all know of one changes.
use Rattle.std.proofs.Common.{◌≡◌, ℕ, ℤ, List, [], ◌∷◌, ◌++◌, refl, sym, ap, ◌∙◌, Bool, true, false, cond}
use Rattle.std.specs.Prelude.{Option, Some, None, find, ◌||◌, if◌then◌else◌}
use Rattle.std.specs.declared.cmp.Ordering.{Ordering}
use Rattle.std.specs.declared.cmp.Ordering.TheVariants.{Less, Equal, Greater}
use Rattle.std.specs.Ordering.{nat_cmp, is_eq}
use Rattle.std.specs.Cmp.{nat_cmp_total}
use Rattle.std.specs.FinMap.Entries.{by_order}
use Rattle.reply_kinds.specs.declared.Reply.{Reply}
use Rattle.reply_kinds.specs.declared.Reply.TheVariants as reply
use Rattle.line_words.specs.Table.{ByNumber, at, at_number, put, put_number, change_number, same_number, same_name}
use Rattle.line_words.proofs.Tables.{map_values-put, at-put, same_name_itself}
use Rattle.room_lists.specs.Room.{has_member, new_room}
use Rattle.lobby_model.specs.State.{State, Info, Battle, battle_of, updated}
use Rattle.lobby_model.specs.Outcome.{happens, tell, everyone}
use Rattle.lobby_model.specs.Battles.{opens, opened_line, updated_line, change_info}
use Rattle.lobby_model.proofs.Delivered.{same_itself}
use Rattle.lobby_view.specs.View.{View, shown, shown_all, change_listed_info, entered}
use Rattle.lobby_view.specs.Observe.{observe, own_room, listed}
use Rattle.lobby_view.proofs.Basics.{Seen, seen_by_each}
use Rattle.lobby_view.proofs.Ordered.{values_changed}
use Rattle.lobby_view.proofs.Changed.{all_listed, own_in}

-- a value that is put where none was, and passes a test or does not
module _ {K X : Type 0} (R : K → K → Ordering) (p : X → Bool) (k : K) (x : X) where
  abbrev found : List (K × X) → Option (K × X)
  found m = find (λ e. p e.1) m

  find_put_failing : (m : List (K × X)) → p x ≡ false → at R m k ≡ None → found (put R m k x) ≡ found m
  find_put_failing [] fails free = ap (λ b. if b then Some (k, x) else None) fails
  find_put_failing (e ∷ m) fails free =
      elim (R k e.0) as (λ r. cond (is_eq r) (Some e.1) (at R m k) ≡ None
      → found (by_order r ((k, x) ∷ e ∷ m) ((e.0, x) ∷ m) (e ∷ put R m k x)) ≡ (if p e.1 then Some e else found m)) [
        | Less ↦ λ f. ap (λ b. if b then Some (k, x) else (if p e.1 then Some e else found m)) fails
        | Equal ↦ λ f. absurd (cc)
        | Greater ↦ λ f. ap (λ o. if p e.1 then Some e else o) (find_put_failing m fails f)
      ] free

  find_put_passing : (m : List (K × X)) → p x ≡ true → at R m k ≡ None → found m ≡ None → found (put R m k x) ≡ Some (k, x)
  find_put_passing [] passes free none = ap (λ b. if b then Some (k, x) else None) passes
  find_put_passing (e ∷ m) passes free none =
      elim (R k e.0) as (λ r. cond (is_eq r) (Some e.1) (at R m k) ≡ None
      → found (by_order r ((k, x) ∷ e ∷ m) ((e.0, x) ∷ m) (e ∷ put R m k x)) ≡ Some (k, x)) [
        | Less ↦ λ f. ap (λ b. if b then Some (k, x) else (if p e.1 then Some e else found m)) passes
        | Equal ↦ λ f. absurd (cc)
        | Greater ↦ λ f. elim (p e.1) as (λ b. (if b then Some e else found m) ≡ None → (if b then Some e else found (put R m k x)) ≡ Some (k, x)) [
          | true ↦ λ n. absurd (cc)
          | false ↦ λ n. find_put_passing m passes f n
        ] none
      ] free

-- a battle that its founder, who was in none, opens under a free number
module _ (s : State) (id : ℕ) (free : at_number s.battles id ≡ None) (info : Info) (fresh : record info { spectators = 0; locked = false } ≡ info)
    (password : List ℕ) (game_hash : ℤ) (mine : Bool) where
  abbrev pub new_battle : Battle
  new_battle = record { info = info; password = password; game_hash = game_hash; room = new_room info.founder }

  abbrev opened_in : View → View
  opened_in v = record v { battles = put_number v.battles id (listed new_battle) }

  abbrev own_lines : List Reply
  own_lines = reply.OpenBattle id ∷ reply.RequestBattleStatus ∷ []

  opened_shown : (v : View) → shown v (opened_line id info) ≡ opened_in v
  opened_shown v = ap (λ i. record v { battles = put_number v.battles id (record { info = i; members = info.founder ∷ [] }) }) fresh

  other_opens_seen : (u : List ℕ) → same_name u info.founder ≡ false → Seen s mine u (opens info.founder id new_battle)
  other_opens_seen u apart =
      ap (λ b. shown_all (observe s u) (opened_line id info ∷ ((if b then own_lines else []) ++ []))) apart
      ∙ opened_shown (observe s u)
      ∙ (λ i. record (observe s u) {
        battles = sym (map_values-put nat_cmp listed s.battles id new_battle) i;
        own = own_room (sym (find_put_failing nat_cmp (λ b. has_member u b.room) id new_battle s.battles (ap (λ b. b || false) apart) free) i);
      })

  own_opens_seen : battle_of s info.founder ≡ None → Seen s mine info.founder (opens info.founder id new_battle)
  own_opens_seen none =
      let me = info.founder in
      ap (λ b. shown_all (observe s me) (opened_line id info ∷ ((if b then own_lines else []) ++ []))) (same_name_itself me)
      ∙ ap (λ v. shown v (reply.OpenBattle id)) (opened_shown (observe s me))
      ∙ ap (λ o. record (opened_in (observe s me)) { own = Some (entered id o) })
      (at-put nat_cmp nat_cmp_total (all_listed s.battles) id (listed new_battle) id
      ∙ ap (λ b. cond b (Some (listed new_battle)) (at_number (all_listed s.battles) id)) (same_itself id))
      ∙ (λ i. record (observe s me) {
        battles = sym (map_values-put nat_cmp listed s.battles id new_battle) i;
        own = own_room
            (sym (find_put_passing nat_cmp (λ b. has_member me b.room) id new_battle s.battles
            (ap (λ b. b || false) (same_name_itself me)) free none) i);
      })

  pub opens_seen : battle_of s info.founder ≡ None → (u : List ℕ) → Seen s mine u (opens info.founder id new_battle)
  opens_seen none = seen_by_each s mine info.founder (opens info.founder id new_battle) (own_opens_seen none) other_opens_seen

-- what all know of a battle changes
module _ (id : ℕ) (f : Info → Info) (u : List ℕ) where
  abbrev informed : Battle → Battle
  informed battle = record battle { info = f battle.info }

  info_listed : (m : ByNumber Battle) → all_listed (change_number m id informed) ≡ change_number (all_listed m) id (change_listed_info f)
  info_listed m = values_changed nat_cmp listed informed (change_listed_info f) (λ battle. refl) m id

  info_own : (m : ByNumber Battle) → own_room (own_in u (change_number m id informed)) ≡ own_room (own_in u m)
  info_own [] = refl
  info_own (e ∷ m) =
      let later = own_in u (change_number m id informed) in
      let here : Bool → Battle = λ b. if b then informed e.1 else e.1 in
      elim (same_number id e.0) as (λ b. own_room (if has_member u (here b).room then Some (e.0, here b) else later)
      ≡ own_room (if has_member u e.1.room then Some e else own_in u m)) [
        | true ↦ elim (has_member u e.1.room) as
            (λ b. own_room (if b then Some (e.0, informed e.1) else later) ≡ own_room (if b then Some e else own_in u m)) [ true ↦ refl | false ↦ info_own m ]
        | false ↦ elim (has_member u e.1.room) as
            (λ b. own_room (if b then Some e else later) ≡ own_room (if b then Some e else own_in u m)) [ true ↦ refl | false ↦ info_own m ]
      ]

pub info_seen : (s : State) (mine : Bool) (u : List ℕ) (id : ℕ) (battle : Battle) (spectators : ℕ) (locked : Bool) (map_hash : ℤ) (map : List ℕ)
    → Seen s mine u (happens (λ t. change_info t id (updated spectators locked map_hash map))
    (tell everyone (updated_line id (updated spectators locked map_hash map battle.info) ∷ []) ∷ []))
info_seen s mine u id battle spectators locked map_hash map = λ i. record (observe s u) {
  battles = sym (info_listed id (updated spectators locked map_hash map) u s.battles) i;
  own = sym (info_own id (updated spectators locked map_hash map) u s.battles) i;
}

-- What one sees who leaves a battle, and what all see of one that is closed.
use Rattle.std.proofs.Common.{◌≡◌, ℕ, List, [], ◌∷◌, ◌++◌, refl, sym, ap, subst, ◌∙◌, Bool, true, false, not}
use Rattle.std.specs.Prelude.{Option, Some, None, map, filter, if◌then◌else◌}
use Rattle.std.specs.Ordering.{nat_cmp}
use Rattle.std.specs.Cmp.{nat_cmp_total}
use Rattle.reply_kinds.specs.declared.Reply.TheVariants as reply
use Rattle.line_words.specs.Table.{ByNumber, at_number, without_number, change_number, same_number, same_name, is_among, all_but}
use Rattle.line_words.proofs.Tables.{same_name_is, same_name_itself, is_sorted-change, is_sorted-without, map_values-without}
use Rattle.room_lists.specs.Room.{Room, has_member, has_asker, without_member, all_members_but, bots_of}
use Rattle.lobby_model.specs.State.{State, Battle, battle_of}
use Rattle.lobby_model.specs.Texts.{battle_was_closed}
use Rattle.lobby_model.specs.Battles.{change_room, members, member_leaves, closes, is_founder, leaves_battle}
use Rattle.lobby_model.specs.Sound.{Sound}
use Rattle.lobby_model.proofs.Delivered.{same_number_is, same_itself}
use Rattle.lobby_model.proofs.Finding.{of_without}
use Rattle.lobby_model.proofs.RoomsKept.{names_without}
use Rattle.lobby_model.proofs.AskersKept.{IsNowhere}
use Rattle.lobby_model.proofs.BattlesKept.{own_battle, left_nowhere}
use Rattle.lobby_view.specs.View.{View, OwnRoom, shown, shown_all, change_members, if_of}
use Rattle.lobby_view.specs.Observe.{observe, shared, own_room, listed}
use Rattle.lobby_view.proofs.Basics.{Seen, shown_all-append, owned}
use Rattle.lobby_view.proofs.Finding.{find_none}
use Rattle.lobby_view.proofs.OwnBattle.{is_of, its_battle, not_elsewhere}
use Rattle.lobby_view.proofs.Changed.{roomed, own_in, listed_changed}
use Rattle.lobby_view.proofs.Leaving.{bots_gone, other_leaves_seen}

-- a battle is closed
module _ (s : State) (sound : Sound s) (u : List ℕ) (id : ℕ) where
  -- one whose battle it is not is in the battle that it was in
  kept : (m : ByNumber Battle) → is_of id (own_in u m) ≡ false → own_in u (without_number m id) ≡ own_in u m
  kept [] = λ other. refl
  kept (e ∷ m) =
      elim (has_member u e.1.room) as (λ p. has_member u e.1.room ≡ p → is_of id (if p then Some e else own_in u m) ≡ false
      → own_in u (if not (same_number id e.0) then e ∷ without_number m id else without_number m id) ≡ (if p then Some e else own_in u m)) [
        | true ↦ λ in_it other.
            ap (λ t. own_in u (if not t then e ∷ without_number m id else without_number m id)) other
            ∙ ap (λ b. if b then Some e else own_in u (without_number m id)) in_it
        | false ↦ λ out other. elim (same_number id e.0) as
            (λ t. own_in u (if not t then e ∷ without_number m id else without_number m id) ≡ own_in u m) [
              | true ↦ kept m other
              | false ↦ ap (λ b. if b then Some e else own_in u (without_number m id)) out ∙ kept m other
            ]
      ] refl

  -- one whose battle it was is in none
  none_left : (battle : Battle) → battle_of s u ≡ Some (id, battle) → own_in u (without_number s.battles id) ≡ None
  none_left battle own =
      let there = own_battle s sound u id battle own in
      find_none nat_cmp nat_cmp_total (λ b. has_member u b.room) (without_number s.battles id)
      (is_sorted-without nat_cmp nat_cmp_total s.battles id sound.battles.in_order)
      (λ q x at_q.
      let was = of_without nat_cmp nat_cmp_total s.battles id q x at_q in not_elsewhere s sound u id battle there.0 there.1 q x was.0 was.1)

  closed_own : (o : Option (ℕ × Battle)) → battle_of s u ≡ o
      → if_of id (λ own. None) (own_room o) ≡ own_room (own_in u (without_number s.battles id))
  closed_own None e = sym (ap own_room (kept s.battles (ap (is_of id) e) ∙ e))
  closed_own (Some own) e =
      elim (same_number id own.0) as (λ t. same_number id own.0 ≡ t
      → (if t then None else Some (owned own.0 (shared own.1.room))) ≡ own_room (own_in u (without_number s.battles id))) [
        | true ↦ λ t. sym (ap own_room (none_left own.1 (e ∙ ap (λ n. Some (n, own.1)) (sym (same_number_is id own.0 t)))))
        | false ↦ λ t. sym (ap own_room (kept s.battles (ap (is_of id) e ∙ t) ∙ e))
      ] refl

  closed : shown (observe s u) (reply.BattleClosed id) ≡ observe (record s { battles = without_number s.battles id }) u
  closed = λ i. record (observe s u) {
    battles = sym (map_values-without nat_cmp (λ n b. listed b) s.battles id) i;
    own = closed_own (battle_of s u) refl i;
  }

  -- what those who ask to join it are told before changes no view
  pub closes_seen : (battle : Battle) (mine : Bool) → Seen s mine u (closes id battle)
  closes_seen battle mine =
      elim (has_asker u battle.room) as
      (λ b. shown_all (observe s u) ((if b then reply.JoinBattleFailed battle_was_closed ∷ [] else []) ++ reply.BattleClosed id ∷ [])
      ≡ observe (record s { battles = without_number s.battles id }) u) [
        | true ↦ closed
        | false ↦ closed
      ]

module _ (s : State) (sound : Sound s) (u : List ℕ) (id : ℕ) (battle : Battle) (there : at_number s.battles id ≡ Some battle) where
  -- a member that leaves, and is not the founder
  module _ (in_it : is_among u (members battle) ≡ true) (guest : is_founder u battle ≡ false) where
    left_its_battle : battle_of (change_room s id (without_member u)) u ≡ None
    left_its_battle =
        find_none nat_cmp nat_cmp_total (λ b. has_member u b.room) (change_number s.battles id (roomed (without_member u)))
        (is_sorted-change nat_cmp (roomed (without_member u)) s.battles id sound.battles.in_order)
        (subst (λ b. IsNowhere ((if b then closes id battle else member_leaves u id battle).after s).battles u) guest
        (left_nowhere s sound id battle there u in_it))

    abbrev left_view : Option OwnRoom → View
    left_view own = record (observe s u) { battles = change_number (observe s u).battles id (change_members (all_but u)); own = own }

    leaver_seen : (mine : Bool) → Seen s mine u (member_leaves u id battle)
    leaver_seen mine =
        let removals = map (λ b. reply.RemoveBot id b.name) (bots_of u battle.room) in
        let bots_left : Room = record (shared battle.room) { bots = filter (λ b. not (same_name u b.owner)) battle.room.bots } in
        let rest = Some (owned id (all_members_but u bots_left)) in
        ap (λ b. shown_all (observe s u) ((if b then removals else []) ++ reply.LeftBattle id u ∷ [])) in_it
        ∙ shown_all-append (observe s u) removals (reply.LeftBattle id u ∷ [])
        ∙ ap (λ w. shown w (reply.LeftBattle id u))
        (ap (λ o. shown_all (record (observe s u) { own = own_room o }) removals) (its_battle s sound u id battle there in_it)
        ∙ bots_gone s sound u id battle there u (observe s u))
        ∙ ap (λ b. left_view (if b then (if same_name u u then None else rest) else Some (owned id bots_left))) (same_itself id)
        ∙ ap (λ b. left_view (if b then None else rest)) (same_name_itself u)
        ∙ ap (λ o. left_view (own_room o)) (sym left_its_battle)
        ∙ ap (λ battles. record (observe (change_room s id (without_member u)) u) { battles = battles })
        (sym (listed_changed id (without_member u) (all_but u) (names_without u) s.battles))

  -- one leaves its battle, as each user sees it
  module _ (name : List ℕ) (in_it : has_member name battle.room ≡ true) (mine : Bool) where
    guest_leaves_seen : is_founder name battle ≡ false → Seen s mine u (member_leaves name id battle)
    guest_leaves_seen guest =
        elim (same_name u name) as (λ b. same_name u name ≡ b → Seen s mine u (member_leaves name id battle)) [
          | true ↦ λ t.
              let is = same_name_is u name t in
              subst (λ n. Seen s mine u (member_leaves n id battle)) is
              (leaver_seen (ap (λ n. has_member n battle.room) is ∙ in_it) (ap (λ n. is_founder n battle) is ∙ guest) mine)
          | false ↦ λ apart. other_leaves_seen s sound u id battle there name apart mine
        ] refl

    pub leaves_battle_seen : Seen s mine u (leaves_battle name id battle)
    leaves_battle_seen =
        elim (is_founder name battle) as (λ b. is_founder name battle ≡ b → Seen s mine u (if b then closes id battle else member_leaves name id battle)) [
          | true ↦ λ founds. closes_seen s sound u id battle mine
          | false ↦ λ guest. guest_leaves_seen guest
        ] refl

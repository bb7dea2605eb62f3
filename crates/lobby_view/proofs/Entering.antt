-- One enters a battle.
use Rattle.std.proofs.Common.{◌≡◌, ℕ, List, [], ◌∷◌, ◌++◌, refl, sym, ap, subst, ◌∙◌, Bool, true, false, not, append-nil, inl, inr}
use Rattle.std.specs.Prelude.{Option, Some, None, map, ◌||◌, if◌then◌else◌}
use Rattle.std.specs.List.{IsDistinct}
use Rattle.std.specs.Option.{option_map}
use Rattle.std.specs.Ordering.{nat_cmp}
use Rattle.std.specs.Cmp.{nat_cmp_total}
use Rattle.std.specs.FinMap.{nat_cmp-IsAntisymmetric}
use Rattle.reply_kinds.specs.declared.Reply.{Reply}
use Rattle.reply_kinds.specs.declared.Reply.TheVariants as reply
use Rattle.line_words.specs.Table.{at_number, change_number, same_number, same_name, is_among}
use Rattle.line_words.proofs.Tables.{same_name_itself, at-map_values, at-change, is_sorted-change}
use Rattle.line_words.proofs.Once.{contradiction, once_with}
use Rattle.room_lists.specs.Room.{Room, Member, Asker, has_member, has_asker, member_names, new_member, with_member, without_asker}
use Rattle.lobby_model.specs.State.{State, Battle, battle_of}
use Rattle.lobby_model.specs.Outcome.{Happening, happens}
use Rattle.lobby_model.specs.Battles.{change_room, members, joining, joins_battle, let_into, room_lines}
use Rattle.lobby_model.specs.Sound.{Sound}
use Rattle.lobby_model.proofs.Delivered.{same_itself}
use Rattle.lobby_model.proofs.Finding.{of_changed}
use Rattle.lobby_model.proofs.RoomsKept.{names_with}
use Rattle.lobby_model.proofs.AskersKept.{IsNowhere}
use Rattle.lobby_model.proofs.BattlesKept.{nowhere}
use Rattle.lobby_view.specs.View.{View, shown_all, at_end, change_members, entered, in_room_of}
use Rattle.lobby_view.specs.Observe.{observe, shared, own_room, listed}
use Rattle.lobby_view.proofs.Basics.{Seen, seen_by_each, shown_all-append, owned, inside}
use Rattle.lobby_view.proofs.Finding.{find_only}
use Rattle.lobby_view.proofs.Changed.{roomed, listed_changed, room_changed}
use Rattle.lobby_view.proofs.Distinct.{at_end_apart, is_at_end}
use Rattle.lobby_view.proofs.RoomShown.{room_shown, only_members, zeroed}
use Rattle.std.proofs.lemmas.Bool.{or_parts}

-- f brings me in at the end of the members, and changes nothing else that members share
module _ (s : State) (me : List ℕ) (id : ℕ) (battle : Battle) (script_password : Option (List ℕ)) (mine : Bool)
    (f : Room → Room) (names : (room : Room) → member_names (f room) ≡ member_names room ++ me ∷ [])
    (shares : (room : Room) → shared (f room) ≡ with_member me (shared room)) where
  abbrev enters : Happening
  enters = happens (λ s. change_room s id f) (joining me id battle script_password)

  abbrev own_lines : List Reply
  own_lines = reply.JoinBattle id battle.game_hash ∷ reply.JoinedBattle id me None ∷ (room_lines id battle.room ++ reply.RequestBattleStatus ∷ [])

  -- of the lines for the one who enters, for the founder and for all others
  abbrev lines_if : Bool → Bool → List Reply
  lines_if is_me is_founder =
      (if is_me then own_lines else []) ++ ((if is_founder then reply.JoinedBattle id me script_password ∷ [] else [])
      ++ ((if not (is_me || (is_founder || false)) then reply.JoinedBattle id me None ∷ [] else []) ++ []))

  -- another sees it: the founder, a member or anyone else
  other_enters_seen : (u : List ℕ) → same_name u me ≡ false → Seen s mine u enters
  other_enters_seen u apart =
      let changed = room_changed id f (at_end (me ∷ [])) names u (at_end_apart u me apart) (with_member me) shares s in
      ap (λ b. shown_all (observe s u) (lines_if b (same_name u battle.info.founder))) apart
      ∙ elim (same_name u battle.info.founder) as (λ b. shown_all (observe s u) (lines_if false b) ≡ observe (change_room s id f) u) [
        | true ↦ sym changed
        | false ↦ sym changed
      ]

  -- the one who enters, and was in no battle
  module _ (sound : Sound s) (there : at_number s.battles id ≡ Some battle) (free : IsNowhere s.battles me) where
    out_of_it : is_among me (members battle) ≡ false
    out_of_it = free id battle there

    not_founder : same_name me battle.info.founder ≡ false
    not_founder = (or_parts _ _ (sym (ap (is_among me) (sound.battles.each id battle there).founder.1) ∙ out_of_it)).0

    entered_at : at_number (change_number s.battles id (roomed f)) id ≡ Some (roomed f battle)
    entered_at =
        at-change nat_cmp nat_cmp-IsAntisymmetric (roomed f) s.battles id id ∙ ap (option_map (λ b. if same_number id id then roomed f b else b)) there
        ∙ ap (λ t. Some (if t then roomed f battle else battle)) (same_itself id)

    only_there : (q : ℕ) (y : Battle) → at_number (change_number s.battles id (roomed f)) q ≡ Some y → has_member me y.room ≡ true → q ≡ id
    only_there q y at_q in_y = elim (of_changed nat_cmp nat_cmp-IsAntisymmetric id (roomed f) s.battles battle there q y at_q) [
      | inl is ↦ sym is.0
      | inr was ↦ contradiction (has_member me y.room) in_y (free q y was.1)
    ]

    its_battle_now : battle_of (change_room s id f) me ≡ Some (id, roomed f battle)
    its_battle_now =
        find_only nat_cmp nat_cmp_total (λ b. has_member me b.room) (change_number s.battles id (roomed f))
        (is_sorted-change nat_cmp (roomed f) s.battles id sound.battles.in_order) id (roomed f battle)
        entered_at (ap (is_among me) (names battle.room) ∙ is_at_end me (members battle)) only_there

    zeroed_is : (ms : List Member) → map new_member (map (λ m. m.name) ms) ≡ zeroed ms
    zeroed_is [] = refl
    zeroed_is (m ∷ ms) = ap (λ xs. new_member m.name ∷ xs) (zeroed_is ms)

    all_differ : IsDistinct same_name (map (λ m. m.name) (battle.room.members ++ new_member me ∷ []))
    all_differ =
        subst (IsDistinct same_name) (sym (names_with me battle.room))
        (once_with me (members battle) out_of_it (sound.battles.each id battle there).room.members)

    own_enters_seen : Seen s mine me enters
    own_enters_seen =
        let start : View = record (observe s me) { battles = change_number (observe s me).battles id (change_members (at_end (me ∷ []))) } in
        let begun = only_members (map new_member (members battle) ++ new_member me ∷ []) in
        let rest = room_lines id battle.room ++ reply.RequestBattleStatus ∷ [] in
        ap (λ b. shown_all (observe s me) (lines_if b (same_name me battle.info.founder))) (same_name_itself me)
        ∙ ap (λ b. shown_all (observe s me) (lines_if true b)) not_founder
        ∙ ap (λ lines. shown_all (observe s me) lines) (append-nil own_lines)
        ∙ ap (λ o. shown_all (record start { own = in_room_of id (with_member me) (Some (entered id o)) }) rest)
        (at-map_values nat_cmp listed s.battles id ∙ ap (option_map listed) there)
        ∙ ap (λ t. shown_all (record start { own = if t then Some (owned id begun) else Some (entered id (Some (listed battle))) }) rest) (same_itself id)
        ∙ shown_all-append (inside start id begun) (room_lines id battle.room) (reply.RequestBattleStatus ∷ [])
        ∙ ap (λ ms. shown_all (inside start id (only_members (ms ++ new_member me ∷ []))) (room_lines id battle.room)) (zeroed_is battle.room.members)
        ∙ room_shown start id battle.room (new_member me ∷ []) (sound.battles.each id battle there).room all_differ
        ∙ ap (λ room. inside start id room) (sym (shares battle.room))
        ∙ ap (λ o. record start { own = own_room o }) (sym its_battle_now)
        ∙ ap (λ battles. record (observe (change_room s id f) me) { battles = battles })
        (sym (listed_changed id f (at_end (me ∷ [])) names s.battles))

    enters_seen : (u : List ℕ) → Seen s mine u enters
    enters_seen = seen_by_each s mine me enters own_enters_seen other_enters_seen

module _ (s : State) (sound : Sound s) (mine : Bool) (u : List ℕ) (id : ℕ) (battle : Battle) (there : at_number s.battles id ≡ Some battle) where
  -- one who was in no battle joins
  pub joins_battle_seen : (me : List ℕ) (script_password : Option (List ℕ)) → battle_of s me ≡ None
      → Seen s mine u (joins_battle me id battle script_password)
  joins_battle_seen me script_password free =
      enters_seen s me id battle script_password mine (with_member me) (names_with me) (λ room. refl) sound there (nowhere s sound me free) u

  -- one who asked is let in
  pub let_into_seen : (asker : Asker) → has_asker asker.name battle.room ≡ true → Seen s mine u (let_into asker id battle)
  let_into_seen asker asks =
      let me = asker.name in
      enters_seen s me id battle asker.script_password mine (λ room. with_member me (without_asker me room))
      (λ room. names_with me (without_asker me room)) (λ room. refl) sound there outside u
    where
      outside : IsNowhere s.battles asker.name
      outside q x at_q = elim (has_member asker.name x.room) as (λ b. has_member asker.name x.room ≡ b → b ≡ false) [
        | true ↦ λ in_it. absurd (sound.askers.outside asker.name id q battle x there at_q asks in_it)
        | false ↦ λ out. refl
      ] refl

-- What happens to battles and in them keeps the lobby sound.
use Rattle.std.proofs.Common.{◌≡◌, ℕ, ◌+◌, ◌≤◌, ℤ, List, [], ◌∷◌, ◌++◌, refl, sym, ap, subst, ◌∙◌, true, false, not, inl, inr, arith}
use Rattle.std.specs.Prelude.{◌⊎◌, Option, Some, None, IsSome, map, if◌then◌else◌, is_some}
use Rattle.std.specs.List.{IsDistinct}
use Rattle.std.specs.Ordering.{nat_cmp}
use Rattle.std.specs.Cmp.{nat_cmp_total}
use Rattle.std.specs.FinMap.{nat_cmp-IsAntisymmetric}
use Rattle.std.specs.FinMap.Entries.{is_sorted-put}
use Rattle.line_words.specs.declared.lists.Pair.{Pair}
use Rattle.line_words.specs.Table.{ByName, ByNumber, at_name, at_number, put_number, without_number, change_number, same_name, same_number, is_among, all_but}
use Rattle.room_lists.specs.Units.{with_units}
use Rattle.room_lists.specs.Room.{Room, Member, Bot, Rect, member_names, has_member, has_asker, asker_names, with_asker, without_asker, Asker, bot_of, new_room, with_member, without_member, with_status, with_bot, with_bot_status, without_bot, with_rect, without_rect, set_tags, remove_tags, has_too_many_units, disable_units, enable_units, enable_all}
use Rattle.lobby_model.specs.State.{State, User, Info, Battle, battle_of, asked_by}
use Rattle.lobby_model.specs.Battles.{change_room, change_info, opens, joins_battle, asks_to_join, let_into, closes, member_leaves, leaves_battle, is_founder}
use Rattle.lobby_model.specs.Sound.{SoundRoom, SoundBattle, SoundBattles, SoundAskers, Sound}
use Rattle.line_words.proofs.Tables.{is_sorted-without, is_sorted-change}
use Rattle.lobby_model.proofs.Delivered.{same_itself}
use Rattle.lobby_model.proofs.Finding.{of_changed, of_put, of_without, found_at, none_at}
use Rattle.line_words.proofs.Once.{contradiction, among_with_is, among_of_but, out_of_but, once_with, once_but}
use Rattle.lobby_model.proofs.AskersKept.{IsNowhere, AsksNowhere, IsFree, AsksNotElsewhere, asks_with, asks_without, changed_askers, opened_askers, closed_askers}
use Rattle.lobby_model.proofs.RoomsKept as room
use Rattle.lobby_model.proofs.Users.{same_clients}

module _ (users : ByName User) (battles : ByNumber Battle) (last : ℕ) (sound : SoundBattles users battles last) where
  -- those who are new in a changed battle were in none
  module _ (id : ℕ) (f : Battle → Battle) (battle : Battle) (there : at_number battles id ≡ Some battle)
      (new : (name : List ℕ) → has_member name (f battle).room ≡ true → (has_member name battle.room ≡ true) ⊎ IsNowhere battles name) where
    now : (q : ℕ) (x : Battle) → at_number (change_number battles id f) q ≡ Some x
        → ((id ≡ q) × (f battle ≡ x)) ⊎ ((same_number id q ≡ false) × (at_number battles q ≡ Some x))
    now q x found = of_changed nat_cmp nat_cmp-IsAntisymmetric id f battles battle there q x found

    alone : (name : List ℕ) (q : ℕ) (x y : Battle) → f battle ≡ x → at_number battles q ≡ Some y → has_member name x.room ≡ true
        → has_member name y.room ≡ true → id ≡ q
    alone name q x y is at_q in_x in_y = elim (new name (ap (λ b. has_member name b.room) is ∙ in_x)) [
      | inl before ↦ sound.one name id q battle y there at_q before in_y
      | inr nowhere ↦ contradiction (has_member name y.room) in_y (nowhere q y at_q)
    ]

    pub changed_sound : SoundBattle users (f battle) → SoundBattles users (change_number battles id f) last
    changed_sound good = record {
      in_order = is_sorted-change nat_cmp f battles id sound.in_order;
      given = λ q x found. elim (now q x found) [
        | inl is ↦ subst (λ n. n ≤ last) is.0 (sound.given id battle there)
        | inr was ↦ sound.given q x was.1
      ];
      each = λ q x found. elim (now q x found) [ inl is ↦ subst (SoundBattle users) is.1 good | inr was ↦ sound.each q x was.1 ];
      one = λ name i j x y at_i at_j in_x in_y. elim (now i x at_i) [
        | inl i_is ↦ elim (now j y at_j) [ inl j_is ↦ sym i_is.0 ∙ j_is.0 | inr was ↦ sym i_is.0 ∙ alone name j x y i_is.1 was.1 in_x in_y ]
        | inr i_was ↦ elim (now j y at_j) [
          | inl is ↦ sym (sym is.0 ∙ alone name i y x is.1 i_was.1 in_y in_x)
          | inr was ↦ sound.one name i j x y i_was.1 was.1 in_x in_y
        ]
      ];
    }

  -- a new battle, of those who were in none
  module _ (id : ℕ) (battle : Battle) (above : last ≤ id) (new : (name : List ℕ) → has_member name battle.room ≡ true → IsNowhere battles name) where
    put : (q : ℕ) (x : Battle) → at_number (put_number battles id battle) q ≡ Some x → ((q ≡ id) × (battle ≡ x)) ⊎ (at_number battles q ≡ Some x)
    put q x found = of_put nat_cmp nat_cmp_total nat_cmp-IsAntisymmetric battles id battle q x found

    never : {A : Type 0} → (name : List ℕ) (q : ℕ) (x y : Battle) → battle ≡ x → at_number battles q ≡ Some y → has_member name x.room ≡ true
        → has_member name y.room ≡ true → A
    never name q x y is at_q in_x in_y = contradiction (has_member name y.room) in_y (new name (ap (λ b. has_member name b.room) is ∙ in_x) q y at_q)

    pub opened_sound : SoundBattle users battle → SoundBattles users (put_number battles id battle) id
    opened_sound good = record {
      in_order = is_sorted-put nat_cmp nat_cmp_total id battle battles sound.in_order;
      given = λ q x found. elim (put q x found) [
        | inl is ↦ subst (λ n. n ≤ id) (sym is.0) (omega arith)
        | inr was ↦ let below = sound.given q x was in omega arith
      ];
      each = λ q x found. elim (put q x found) [ inl is ↦ subst (SoundBattle users) is.1 good | inr was ↦ sound.each q x was ];
      one = λ name i j x y at_i at_j in_x in_y. elim (put i x at_i) [
        | inl i_is ↦ elim (put j y at_j) [ inl j_is ↦ i_is.0 ∙ sym j_is.0 | inr was ↦ never name j x y i_is.1 was in_x in_y ]
        | inr i_was ↦ elim (put j y at_j) [ inl is ↦ never name i y x is.1 i_was in_y in_x | inr was ↦ sound.one name i j x y i_was was in_x in_y ]
      ];
    }

  closed_sound : (id : ℕ) → SoundBattles users (without_number battles id) last
  closed_sound id = record {
    in_order = is_sorted-without nat_cmp nat_cmp_total battles id sound.in_order;
    given = λ q x found. sound.given q x (was q x found);
    each = λ q x found. sound.each q x (was q x found);
    one = λ name i j x y at_i at_j in_x in_y. sound.one name i j x y (was i x at_i) (was j y at_j) in_x in_y;
  }
    where
      was : (q : ℕ) (x : Battle) → at_number (without_number battles id) q ≡ Some x → at_number battles q ≡ Some x
      was q x found = (of_without nat_cmp nat_cmp_total battles id q x found).1

  -- users come, change and go, but not those who are in a battle
  pub battles_of_users : (new : ByName User)
      → ((id : ℕ) (battle : Battle) (name : List ℕ) → at_number battles id ≡ Some battle → has_member name battle.room ≡ true
      → IsSome (at_name new name)) → SoundBattles new battles last
  battles_of_users new stay = record {
    in_order = sound.in_order;
    given = sound.given;
    each = λ id battle there.
        let was = sound.each id battle there in
        record { room = was.room; founder = was.founder; are_users = λ name in_it. stay id battle name there in_it };
    one = sound.one;
  }

module _ (s : State) (sound : Sound s) where
  with_battles : (battles : ByNumber Battle) (last : ℕ) → SoundBattles s.users battles last → SoundAskers s.users battles
      → Sound (record s { battles = battles; last_battle = last })
  with_battles battles last new asking =
      record { clients = same_clients s sound.clients s.channels battles last; channels = sound.channels; battles = new; askers = asking }

  -- the battle that one is in stands at its number, and has it as a member; one who is in none is in none
  pub own_battle : (me : List ℕ) (id : ℕ) (battle : Battle) → battle_of s me ≡ Some (id, battle)
      → (at_number s.battles id ≡ Some battle) × (has_member me battle.room ≡ true)
  own_battle me id battle own = found_at nat_cmp nat_cmp_total (λ b. has_member me b.room) s.battles (id, battle) sound.battles.in_order own

  pub nowhere : (me : List ℕ) → battle_of s me ≡ None → IsNowhere s.battles me
  nowhere me free = none_at nat_cmp (λ b. has_member me b.room) s.battles free

  -- the same of one who asks, or asks nowhere
  pub own_request : (me : List ℕ) (e : ℕ × Battle) → asked_by s me ≡ Some e → (at_number s.battles e.0 ≡ Some e.1) × (has_asker me e.1.room ≡ true)
  own_request me e own = found_at nat_cmp nat_cmp_total (λ b. has_asker me b.room) s.battles e sound.battles.in_order own

  pub asks_nowhere : (me : List ℕ) → asked_by s me ≡ None → AsksNowhere s.battles me
  asks_nowhere me silent = none_at nat_cmp (λ b. has_asker me b.room) s.battles silent

  -- opening and closing
  pub opens_keeps : (me : List ℕ) (battle : Battle) → battle.info.founder ≡ me → battle.room ≡ new_room me → battle_of s me ≡ None
      → asked_by s me ≡ None → IsSome (at_name s.users me)
      → Sound ((opens me (s.last_battle + 1) battle).after s)
  opens_keeps me battle founds fresh free silent known =
      with_battles (put_number s.battles (s.last_battle + 1) battle) (s.last_battle + 1)
      (opened_sound s.users s.battles s.last_battle sound.battles (s.last_battle + 1) battle (omega arith)
      (λ name in_it. subst (IsNowhere s.battles) (sym (is_me name in_it)) (nowhere me free))
      (record {
        room = subst SoundRoom (sym fresh) (room.new_room_sound me);
        founder = ([], ap member_names fresh ∙ ap (λ n. n ∷ []) (sym founds));
        are_users = λ name in_it. subst (λ n. IsSome (at_name s.users n)) (sym (is_me name in_it)) known;
      }))
      (opened_askers s.users s.battles sound.askers (s.last_battle + 1) battle (ap (λ (r : Room). r.askers) fresh)
      (λ name in_it. subst (AsksNowhere s.battles) (sym (is_me name in_it)) (asks_nowhere me silent)))
    where
      is_me : (name : List ℕ) → has_member name battle.room ≡ true → name ≡ me
      is_me name in_it = elim (among_with_is me name [] (ap (has_member name) (sym fresh) ∙ in_it)) [ inl before ↦ absurd (cc) | inr is ↦ is ]

  pub closes_keeps : (id : ℕ) (battle : Battle) → Sound ((closes id battle).after s)
  closes_keeps id battle =
      with_battles (without_number s.battles id) s.last_battle (closed_sound s.users s.battles s.last_battle sound.battles id)
      (closed_askers s.users s.battles sound.askers id)

  -- of one battle, that is there
  module _ (id : ℕ) (battle : Battle) (there : at_number s.battles id ≡ Some battle) where
    was : SoundBattle s.users battle
    was = sound.battles.each id battle there

    -- nobody asks anew, and those who enter ask nowhere
    changes : (f : Battle → Battle) → (f battle).room.askers ≡ battle.room.askers
        → ((name : List ℕ) → has_member name (f battle).room ≡ true
        → (has_member name battle.room ≡ true) ⊎ (IsNowhere s.battles name × AsksNowhere s.battles name))
        → SoundBattle s.users (f battle)
        → Sound (record s { battles = change_number s.battles id f })
    changes f asking new good =
        with_battles (change_number s.battles id f) s.last_battle
        (changed_sound s.users s.battles s.last_battle sound.battles id f battle there
        (λ name in_it. elim (new name in_it) [ inl before ↦ inl before | inr free ↦ inr free.0 ]) good)
        (changed_askers s.users s.battles sound.askers id f battle there
        (subst (λ askers. IsDistinct same_name (map (λ (a : Asker). a.name) askers)) (sym asking) (sound.askers.once id battle there))
        (λ name a. inl (asked name a))
        (λ name in_it. elim (new name in_it) [
          | inl before ↦ inl before
          | inr free ↦ inr (silent name (free.1 id battle there), λ q x apart at_q. free.1 q x at_q)
        ]))
      where
        asked : (name : List ℕ) → has_asker name (f battle).room ≡ true → has_asker name battle.room ≡ true
        asked name a = ap (λ askers. is_among name (map (λ (a : Asker). a.name) askers)) (sym asking) ∙ a

        silent : (name : List ℕ) → has_asker name battle.room ≡ false → has_asker name (f battle).room ≡ false
        silent name a = ap (λ askers. is_among name (map (λ (a : Asker). a.name) askers)) asking ∙ a

    -- one more member
    module _ (me : List ℕ) where
      one_more : (name : List ℕ) → has_member name (with_member me battle.room) ≡ true → (has_member name battle.room ≡ true) ⊎ (name ≡ me)
      one_more name in_it = among_with_is me name (member_names battle.room) (ap (is_among name) (sym (room.names_with me battle.room)) ∙ in_it)

      entered : IsNowhere s.battles me → IsSome (at_name s.users me) → SoundBattle s.users (record battle { room = with_member me battle.room })
      entered free known = record {
        room = room.member_enters battle.room was.room me (free id battle there);
        founder = (was.founder.0 ++ me ∷ [], room.names_with me battle.room ∙ ap (λ names. names ++ me ∷ []) was.founder.1);
        are_users = λ name in_it. elim (one_more name in_it) [
          | inl before ↦ was.are_users name before
          | inr is ↦ subst (λ n. IsSome (at_name s.users n)) (sym is) known
        ];
      }

    pub joins_battle_keeps : (me : List ℕ) (script_password : Option (List ℕ)) → battle_of s me ≡ None → asked_by s me ≡ None
        → IsSome (at_name s.users me)
        → Sound ((joins_battle me id battle script_password).after s)
    joins_battle_keeps me script_password free silent known =
        changes (λ b. record b { room = with_member me b.room }) refl
        (λ name in_it. elim (one_more me name in_it) [
          | inl before ↦ inl before
          | inr is ↦ inr (subst (IsNowhere s.battles) (sym is) (nowhere me free), subst (AsksNowhere s.battles) (sym is) (asks_nowhere me silent))
        ]) (entered me (nowhere me free) known)

    -- who asks changes, and nobody enters
    asking_keeps : (f : Room → Room) → (f battle.room).members ≡ battle.room.members → SoundRoom (f battle.room)
        → IsDistinct same_name (asker_names (f battle.room))
        → ((name : List ℕ) → has_asker name (f battle.room) ≡ true → (has_asker name battle.room ≡ true) ⊎ IsFree s.users s.battles name)
        → Sound (change_room s id f)
    asking_keeps f same good once asks =
        with_battles (change_number s.battles id (λ b. record b { room = f b.room })) s.last_battle
        (changed_sound s.users s.battles s.last_battle sound.battles id (λ b. record b { room = f b.room }) battle there (λ name in_it. inl (still name in_it))
        (record {
          room = good;
          founder = (was.founder.0, ap (λ members. map (λ (m : Member). m.name) members) same ∙ was.founder.1);
          are_users = λ name in_it. was.are_users name (still name in_it);
        }))
        (changed_askers s.users s.battles sound.askers id (λ b. record b { room = f b.room }) battle there once asks (λ name in_it. inl (still name in_it)))
      where
        still : (name : List ℕ) → has_member name (f battle.room) ≡ true → has_member name battle.room ≡ true
        still name in_it = ap (λ members. is_among name (map (λ (m : Member). m.name) members)) (sym same) ∙ in_it

    -- the same room with others who ask
    same_room : (f : Room → Room) → (f battle.room) ≡ record battle.room { askers = (f battle.room).askers } → SoundRoom (f battle.room)
    same_room f is = subst SoundRoom (sym is) (record {
      members = was.room.members;
      bots = was.room.bots;
      tags = was.room.tags;
      owners = was.room.owners;
      rects = was.room.rects;
      units = was.room.units;
      few = was.room.few;
    })

    pub asks_to_join_keeps : (me : List ℕ) (script_password : Option (List ℕ)) (ip : List ℕ) → battle_of s me ≡ None → asked_by s me ≡ None
        → IsSome (at_name s.users me)
        → Sound ((asks_to_join me id battle script_password ip).after s)
    asks_to_join_keeps me script_password ip free silent known =
        asking_keeps (with_asker me script_password) refl (same_room (with_asker me script_password) refl)
        (subst (IsDistinct same_name) (sym (asks_with me script_password battle.room))
        (once_with me (asker_names battle.room) (asks_nowhere me silent id battle there) (sound.askers.once id battle there)))
        (λ name a. elim (among_with_is me name (asker_names battle.room) (ap (is_among name) (sym (asks_with me script_password battle.room)) ∙ a)) [
          | inl before ↦ inl before
          | inr is ↦ inr (subst (IsFree s.users s.battles) (sym is)
              (record { nowhere = nowhere me free; asks_nowhere = asks_nowhere me silent; known = known }))
        ])

    -- who asks here asks nowhere else
    asks_here_alone : (name : List ℕ) → has_asker name battle.room ≡ true → AsksNotElsewhere s.battles id name
    asks_here_alone name asks q x apart at_q = elim (has_asker name x.room) as (λ t. has_asker name x.room ≡ t → t ≡ false) [
      | true ↦ λ asks_there. contradiction (same_number id q)
          (ap (same_number id) (sym (sound.askers.one name id q battle x there at_q asks asks_there)) ∙ same_itself id) apart
      | false ↦ λ silent. refl
    ] refl

    -- of those who ask without one of them
    still_asks : (one name : List ℕ) → has_asker name (without_asker one battle.room) ≡ true → has_asker name battle.room ≡ true
    still_asks one name a = among_of_but one name (asker_names battle.room) (ap (is_among name) (sym (asks_without one battle.room)) ∙ a)

    others_once : (one : List ℕ) → IsDistinct same_name (asker_names (without_asker one battle.room))
    others_once one =
        subst (IsDistinct same_name) (sym (asks_without one battle.room)) (once_but one (asker_names battle.room) (sound.askers.once id battle there))

    pub asks_no_more_keeps : (name : List ℕ) → Sound (change_room s id (without_asker name))
    asks_no_more_keeps name =
        asking_keeps (without_asker name) refl (same_room (without_asker name) refl) (others_once name) (λ n a. inl (still_asks name n a))

    -- one who asks no more asks nowhere, and is where it was
    module _ (name : List ℕ) where
      abbrev without_it : ByNumber Battle
      without_it = change_number s.battles id (λ b. record b { room = without_asker name b.room })

      pub dropped : has_asker name battle.room ≡ true → AsksNowhere without_it name
      dropped asks q x found =
          elim (of_changed nat_cmp nat_cmp-IsAntisymmetric id (λ b. record b { room = without_asker name b.room }) s.battles battle there q x found) [
            | inl is ↦ ap (λ b. has_asker name b.room) (sym is.1) ∙ ap (is_among name) (asks_without name battle.room) ∙ out_of_but name (asker_names battle.room)
            | inr before ↦ asks_here_alone name asks q x before.0 before.1
          ]

      pub dropped_nowhere : IsNowhere s.battles name → IsNowhere without_it name
      dropped_nowhere free q x found =
          elim (of_changed nat_cmp nat_cmp-IsAntisymmetric id (λ b. record b { room = without_asker name b.room }) s.battles battle there q x found) [
            | inl is ↦ ap (λ b. has_member name b.room) (sym is.1) ∙ free id battle there
            | inr before ↦ free q x before.1
          ]

    -- one who asked enters, and asks no more
    pub let_into_keeps : (asker : Asker) → has_asker asker.name battle.room ≡ true → Sound ((let_into asker id battle).after s)
    let_into_keeps asker asks =
        with_battles (change_number s.battles id entering) s.last_battle
        (changed_sound s.users s.battles s.last_battle sound.battles id entering battle there
        (λ name in_it. elim (one_more me name in_it) [ inl before ↦ inl before | inr is ↦ inr (subst (IsNowhere s.battles) (sym is) outside) ])
        (record {
          room = record {
            members = good.room.members;
            bots = good.room.bots;
            tags = good.room.tags;
            owners = good.room.owners;
            rects = good.room.rects;
            units = good.room.units;
            few = good.room.few;
          };
          founder = good.founder;
          are_users = good.are_users;
        }))
        (changed_askers s.users s.battles sound.askers id entering battle there (others_once me) (λ n a. inl (still_asks me n a))
        (λ name in_it. elim (one_more me name in_it) [
          | inl before ↦ inl before
          | inr is ↦ inr (
            subst (λ n. has_asker n (without_asker me battle.room) ≡ false) (sym is)
                (ap (is_among me) (asks_without me battle.room) ∙ out_of_but me (asker_names battle.room)),
            subst (AsksNotElsewhere s.battles id) (sym is) (asks_here_alone me asks),
          )
        ]))
      where
        me : List ℕ
        me = asker.name

        entering : Battle → Battle
        entering b = record b { room = with_member me (without_asker me b.room) }

        outside : IsNowhere s.battles me
        outside q x at_q = elim (has_member me x.room) as (λ t. has_member me x.room ≡ t → t ≡ false) [
          | true ↦ λ in_it. absurd (sound.askers.outside me id q battle x there at_q asks in_it)
          | false ↦ λ out. refl
        ] refl

        good : SoundBattle s.users (record battle { room = with_member me battle.room })
        good = entered me outside (sound.askers.are_users id battle me there asks)

    pub member_leaves_keeps : (name : List ℕ) → is_founder name battle ≡ false → Sound ((member_leaves name id battle).after s)
    member_leaves_keeps name other =
        changes (λ b. record b { room = without_member name b.room }) refl (λ n in_it. inl (still n in_it)) (record {
          room = room.member_leaves battle.room was.room name;
          founder = (
            all_but name was.founder.0,
            room.names_without name battle.room ∙ ap (all_but name) was.founder.1
                ∙ ap (λ t. if not t then battle.info.founder ∷ all_but name was.founder.0 else all_but name was.founder.0) other,
          );
          are_users = λ n in_it. was.are_users n (still n in_it);
        })
      where
        still : (n : List ℕ) → has_member n (without_member name battle.room) ≡ true → has_member n battle.room ≡ true
        still n in_it = among_of_but name n (member_names battle.room) (ap (is_among n) (sym (room.names_without name battle.room)) ∙ in_it)

    pub leaves_battle_keeps : (name : List ℕ) → Sound ((leaves_battle name id battle).after s)
    leaves_battle_keeps name =
        elim (is_founder name battle) as (λ b. is_founder name battle ≡ b → Sound ((if b then closes id battle else member_leaves name id battle).after s)) [
          | true ↦ λ founds. closes_keeps id battle
          | false ↦ λ other. member_leaves_keeps name other
        ] refl

    -- who leaves a battle asks no more than before
    pub left_asks_nowhere : (name : List ℕ) → AsksNowhere s.battles name → AsksNowhere ((leaves_battle name id battle).after s).battles name
    left_asks_nowhere name silent =
        elim (is_founder name battle) as (λ b. AsksNowhere ((if b then closes id battle else member_leaves name id battle).after s).battles name) [
          | true ↦ λ q x found. silent q x (of_without nat_cmp nat_cmp_total s.battles id q x found).1
          | false ↦ λ q x found. elim (of_changed nat_cmp nat_cmp-IsAntisymmetric id
              (λ b. record b { room = without_member name b.room }) s.battles battle there q x found) [
                | inl is ↦ ap (λ b. has_asker name b.room) (sym is.1) ∙ silent id battle there
                | inr before ↦ silent q x before.1
              ]
        ]

    -- one who left the battle that it was in is in none
    pub left_nowhere : (name : List ℕ) → has_member name battle.room ≡ true → IsNowhere ((leaves_battle name id battle).after s).battles name
    left_nowhere name in_it =
        elim (is_founder name battle) as (λ b. IsNowhere ((if b then closes id battle else member_leaves name id battle).after s).battles name) [
          | true ↦ λ q x found. let before = of_without nat_cmp nat_cmp_total s.battles id q x found in elsewhere q x before.0 before.1
          | false ↦ λ q x found. elim (of_changed nat_cmp nat_cmp-IsAntisymmetric id
              (λ b. record b { room = without_member name b.room }) s.battles battle there q x found) [
                | inl is ↦ ap (λ b. has_member name b.room) (sym is.1) ∙ ap (is_among name) (room.names_without name battle.room)
                    ∙ out_of_but name (member_names battle.room)
                | inr before ↦ elsewhere q x before.0 before.1
              ]
        ]
      where
        elsewhere : (q : ℕ) (x : Battle) → same_number id q ≡ false → at_number s.battles q ≡ Some x → has_member name x.room ≡ false
        elsewhere q x apart at_q = elim (has_member name x.room) as (λ b. has_member name x.room ≡ b → b ≡ false) [
          | true ↦ λ in_x. contradiction (same_number id q)
              (ap (same_number id) (sym (sound.battles.one name id q battle x there at_q in_it in_x)) ∙ same_itself id) apart
          | false ↦ λ out. refl
        ] refl

    pub info_keeps : (f : Info → Info) → (f battle.info).founder ≡ battle.info.founder → Sound (change_info s id f)
    info_keeps f same =
        changes (λ b. record b { info = f b.info }) refl (λ name in_it. inl in_it)
        (record { room = was.room; founder = (was.founder.0, was.founder.1 ∙ ap (λ n. n ∷ was.founder.0) (sym same)); are_users = was.are_users })

    -- in its room, where nobody enters or leaves
    room_keeps : (f : Room → Room) → member_names (f battle.room) ≡ member_names battle.room → (f battle.room).askers ≡ battle.room.askers
        → SoundRoom (f battle.room) → Sound (change_room s id f)
    room_keeps f same asking good =
        let still : (name : List ℕ) → has_member name (f battle.room) ≡ true
        → has_member name battle.room ≡ true = λ name in_it. ap (is_among name) (sym same) ∙ in_it in
        changes (λ b. record b { room = f b.room }) asking (λ name in_it. inl (still name in_it))
        (record { room = good; founder = (was.founder.0, same ∙ was.founder.1); are_users = λ name in_it. was.are_users name (still name in_it) })

    pub said_keeps : Sound (change_room s id (λ room. room))
    said_keeps = room_keeps (λ room. room) refl refl was.room

    pub member_has_keeps : (name : List ℕ) (status : ℕ) (colour : ℤ) → Sound (change_room s id (with_status name status colour))
    member_has_keeps name status colour =
        room_keeps (with_status name status colour) (room.names_with_status name status colour battle.room) refl
        (room.member_has battle.room was.room name status colour)

    pub bot_added_keeps : (bot : Bot) → has_member bot.owner battle.room ≡ true → is_some (bot_of bot.name battle.room) ≡ false
        → Sound (change_room s id (with_bot bot))
    bot_added_keeps bot owner new = room_keeps (with_bot bot) refl refl (room.bot_added battle.room was.room bot owner new)

    pub bot_has_keeps : (name : List ℕ) (status : ℕ) (colour : ℤ) → Sound (change_room s id (with_bot_status name status colour))
    bot_has_keeps name status colour = room_keeps (with_bot_status name status colour) refl refl (room.bot_has battle.room was.room name status colour)

    pub bot_removed_keeps : (name : List ℕ) → Sound (change_room s id (without_bot name))
    bot_removed_keeps name = room_keeps (without_bot name) refl refl (room.bot_removed battle.room was.room name)

    pub rect_added_keeps : (ally : ℕ) (rect : Rect) → Sound (change_room s id (with_rect ally rect))
    rect_added_keeps ally rect = room_keeps (with_rect ally rect) refl refl (room.rect_added battle.room was.room ally rect)

    pub rect_removed_keeps : (ally : ℕ) → Sound (change_room s id (without_rect ally))
    rect_removed_keeps ally = room_keeps (without_rect ally) refl refl (room.rect_removed battle.room was.room ally)

    pub tags_set_keeps : (pairs : List Pair) → Sound (change_room s id (set_tags pairs))
    tags_set_keeps pairs = room_keeps (set_tags pairs) refl refl (room.tags_set battle.room was.room pairs)

    pub tags_removed_keeps : (keys : List (List ℕ)) → Sound (change_room s id (remove_tags keys))
    tags_removed_keeps keys = room_keeps (remove_tags keys) refl refl (room.tags_removed battle.room was.room keys)

    pub units_disabled_keeps : (words : List (List ℕ)) → has_too_many_units (with_units battle.room.units words) ≡ false
        → Sound (change_room s id (disable_units words))
    units_disabled_keeps words few = room_keeps (disable_units words) refl refl (room.units_disabled battle.room was.room words few)

    pub units_enabled_keeps : (words : List (List ℕ)) → Sound (change_room s id (enable_units words))
    units_enabled_keeps words = room_keeps (enable_units words) refl refl (room.units_enabled battle.room was.room words)

    pub all_enabled_keeps : Sound (change_room s id enable_all)
    all_enabled_keeps = room_keeps enable_all refl refl (room.all_enabled battle.room was.room)

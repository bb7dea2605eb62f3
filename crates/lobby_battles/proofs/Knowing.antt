-- What the members of battles and those who ask to be know of their battles, after they or battles changed.
use Rattle.std.proofs.Common.{◌≡◌, ◌∙◌, ℕ, List, [], ◌∷◌, ◌++◌, map, Bool, sym, ap, subst, refl, true, false, cond, not, inl, inr}
use Rattle.std.specs.Prelude.{◌⊎◌, ◌||◌, Option, Some, None, if◌then◌else◌}
use Rattle.std.proofs.lemmas.List.{map-append}
use Rattle.std.specs.Option.{option_map}
use Rattle.std.specs.Ordering.{nat_cmp}
use Rattle.std.specs.Cmp.{nat_cmp_total}
use Rattle.std.specs.FinMap.{nat_cmp-IsAntisymmetric}
use Rattle.std.proofs.lemmas.Bool.{or_cases, or_right}
use Rattle.line_words.specs.Table.{ByName, ByNumber, at_number, at_name, put_name, change_name, without_name, put_number, without_number, change_number, name_cmp, same_name, same_number, is_among}
use Rattle.line_words.proofs.Tables.{Equal_of, at-put, at-without, at-change, name_cmp_total, name_cmp_same, same_name_is, same_name_itself}
use Rattle.line_words.proofs.Once.{contradiction, among_with_is, among_of_but, out_of_but}
use Rattle.room_lists.specs.Room.{Asker, Room, asker_names, has_asker, has_member, member_names, with_asker, with_member, without_asker, without_member}
use Rattle.lobby_model.specs.State.{Client, Battle}
use Rattle.lobby_model.specs.Outcome.{is_named}
use Rattle.lobby_model.specs.Battles.{is_founder}
use Rattle.lobby_model.proofs.Delivered.{same_itself}
use Rattle.lobby_model.proofs.Finding.{of_change, of_changed, of_put, of_without, none_at}
use Rattle.lobby_model.proofs.RoomsKept.{names_with, names_without}
use Rattle.lobby_model.proofs.AskersKept.{asks_without}
use Rattle.lobby_post.specs.Posted.{has_number}
use Rattle.lobby_battles.specs.declared.online_users.OnlineUser.{OnlineUser}
use Rattle.lobby_battles.specs.OnlineUsers.{Agree, client_in, online_user_in, where_some, without_one}
use Rattle.lobby_battles.specs.Battles.{KnowTheirBattles, AskOutside, CanEnter, IsNew, IsOnly, asks_at, battle_at, concerns, left_at, left_battle, let_in, room_changed, unasked, LeavesAll, left_own, unasked_own}

-- A room whose members and askers are some of another's
pub record Shrinks (was now : Room) : Type 0 where
  pub members : (q : List ℕ) → has_member q now ≡ true → has_member q was ≡ true
  pub askers : (q : List ℕ) → has_asker q now ≡ true → has_asker q was ≡ true

-- A room that concerns nobody whom the other does not, and in which who asks is no member, if that was so
pub record Keeps (was now : Room) : Type 0 where
  pub old : (q : List ℕ) → concerns q now ≡ true → concerns q was ≡ true
  pub outside : AskOutside was → AskOutside now

pub as_member : (q : List ℕ) (rm : Room) → has_member q rm ≡ true → concerns q rm ≡ true
as_member q rm h = ap (λ b. b || has_asker q rm) h

pub as_asker : (q : List ℕ) (rm : Room) → has_asker q rm ≡ true → concerns q rm ≡ true
as_asker q rm h = or_right (has_member q rm) (has_asker q rm) h

-- what would not be so if it were
not_so : (b : Bool) → (b ≡ true → b ≡ false) → b ≡ false
not_so true never = never refl
not_so false never = refl

keeps_of : (was now : Room) → Shrinks was now → Keeps was now
keeps_of was now shrinks = record {
  old = λ q h. elim (or_cases (has_member q now) (has_asker q now) h) [
    | inl m ↦ as_member q was (shrinks.members q m)
    | inr a ↦ as_asker q was (shrinks.askers q a)
  ];
  outside = λ out q a. not_so (has_member q now) (λ m. contradiction (has_member q was) (shrinks.members q m) (out q (shrinks.askers q a)));
}

pub shrinks_same : (rm : Room) → Shrinks rm rm
shrinks_same rm = record { members = λ q h. h; askers = λ q h. h }

still_asks : (name q : List ℕ) (rm : Room) → has_asker q (without_asker name rm) ≡ true → has_asker q rm ≡ true
still_asks name q rm h = among_of_but name q (asker_names rm) (ap (is_among q) (sym (asks_without name rm)) ∙ h)

stops : (name : List ℕ) (rm : Room) → has_asker name (without_asker name rm) ≡ false
stops name rm = ap (is_among name) (asks_without name rm) ∙ out_of_but name (asker_names rm)

-- those who are left were there
still : (name q : List ℕ) (room : Room) → has_member q (without_member name room) ≡ true → has_member q room ≡ true
still name q room in_it = among_of_but name q (member_names room) (ap (is_among q) (sym (names_without name room)) ∙ in_it)

leaves : (name : List ℕ) (room : Room) → has_member name (without_member name room) ≡ false
leaves name room = ap (is_among name) (names_without name room) ∙ out_of_but name (member_names room)

pub unasked_shrinks : (name : List ℕ) (rm : Room) → Shrinks rm (without_asker name rm)
unasked_shrinks name rm = record { members = λ q h. h; askers = λ q h. still_asks name q rm h }

left_shrinks : (name : List ℕ) (rm : Room) → Shrinks rm (without_member name rm)
left_shrinks name rm = record { members = λ q h. still name q rm h; askers = λ q h. h }

entering : (name q : List ℕ) (rm : Room) → has_member q (with_member name rm) ≡ true → (has_member q rm ≡ true) ⊎ (q ≡ name)
entering name q rm h = among_with_is name q (member_names rm) (ap (is_among q) (sym (names_with name rm)) ∙ h)

asking : (name q : List ℕ) (script_password : Option (List ℕ)) (rm : Room) → has_asker q (with_asker name script_password rm) ≡ true
    → (has_asker q rm ≡ true) ⊎ (q ≡ name)
asking name q script_password rm h =
    let names : asker_names (with_asker name script_password rm) ≡ asker_names rm ++ name ∷ [] =
    map-append (λ (a : Asker). a.name) rm.askers (record { name = name; script_password = script_password } ∷ []) in
    among_with_is name q (asker_names rm) (ap (is_among q) (sym names) ∙ h)

-- one who asked enters
let_in_keeps : (name : List ℕ) (rm : Room) → has_asker name rm ≡ true → Keeps rm (let_in name rm)
let_in_keeps name rm asked = record {
  old = λ q h. elim (or_cases (has_member q (let_in name rm)) (has_asker q (let_in name rm)) h) [
    | inl m ↦ elim (entering name q (without_asker name rm) m) [
      | inl was ↦ as_member q rm was
      | inr is ↦ ap (λ k. concerns k rm) is ∙ as_asker name rm asked
    ]
    | inr a ↦ as_asker q rm (still_asks name q rm a)
  ];
  outside = λ out q a. not_so (has_member q (let_in name rm)) (λ m. elim (entering name q (without_asker name rm) m) [
    | inl was ↦ contradiction (has_member q rm) was (out q (still_asks name q rm a))
    | inr is ↦ contradiction (has_asker q (without_asker name rm)) a (ap (λ k. has_asker k (without_asker name rm)) is ∙ stops name rm)
  ]);
}

module _ (battles : ByNumber Battle) where
  -- each battle is what became of one of these
  abbrev pub From : (Room → Room → Type 0) → ByNumber Battle → Type 0
  From R new = (n : ℕ) (b : Battle) → at_number new n ≡ Some b → (x : Battle) × (at_number battles n ≡ Some x) × R x.room b.room

  pub from_change : (R : Room → Room → Type 0) (number : ℕ) (f : Battle → Battle) → ((rm : Room) → R rm rm)
      → ((x : Battle) → at_number battles number ≡ Some x → R x.room (f x).room) → From R (change_number battles number f)
  from_change R number f same one = λ n b there.
      let old = of_change nat_cmp nat_cmp-IsAntisymmetric number f battles n b there in (
        old.0,
        old.1,
        elim (same_number number n) as (λ t. same_number number n ≡ t → (if t then f old.0 else old.0) ≡ b → R old.0.room b.room) [
          | true ↦ λ t e. subst (λ (y : Battle). R old.0.room y.room) e
              (one old.0 (ap (at_number battles) (nat_cmp-IsAntisymmetric number n (Equal_of _ t)) ∙ old.1))
          | false ↦ λ t e. subst (λ (y : Battle). R old.0.room y.room) e (same old.0.room)
        ] refl old.2,
      )

  from_left : (number : ℕ) (name : List ℕ) → From Shrinks (left_battle number name battles)
  from_left number name =
      elim (at_number battles number) as (λ o. From Shrinks (left_at battles number name o)) [
        | None ↦ λ n b there. (b, there, shrinks_same b.room)
        | Some battle ↦ elim (is_founder name battle) as (λ t. From Shrinks
            (if t then without_number battles number else change_number battles number (room_changed (without_member name)))) [
              | true ↦ λ n b there. (b, (of_without nat_cmp nat_cmp_total battles number n b there).1, shrinks_same b.room)
              | false ↦ from_change Shrinks number (room_changed (without_member name)) shrinks_same (λ x at. left_shrinks name x.room)
            ]
      ]

  from_unasked : (number : ℕ) (name : List ℕ) → From Shrinks (unasked number name battles)
  from_unasked number name = from_change Shrinks number (room_changed (without_asker name)) shrinks_same (λ x at. unasked_shrinks name x.room)

  -- one who left its only battle is in none
  itself : (number n : ℕ) → Some number ≡ Some n → number ≡ n
  itself number n is = cc

  pub gone : (name : List ℕ) (own : Option ℕ) → IsOnly (has_member name) battles own → (n : ℕ) (b : Battle)
      → at_number (left_own (Some name) own battles) n ≡ Some b → has_member name b.room ≡ false
  gone name None only n b there = not_so (has_member name b.room) (λ m. absurd (let is = only n b there m in cc))
  gone name (Some number) only n b there =
      not_so (has_member name b.room) (λ m.
      let old = from_left number name n b there in
      let is : number ≡ n = itself number n (only n old.0 old.1 (old.2.members name m)) in
      let at_own : at_number battles number ≡ Some old.0 = ap (at_number battles) is ∙ old.1 in
      elim (is_founder name old.0) as (λ t.
      at_number (if t then without_number battles number else change_number battles number (room_changed (without_member name))) n ≡ Some b
      → has_member name b.room ≡ false) [
        | true ↦ λ f. contradiction (same_number number n) (ap (same_number number) (sym is) ∙ same_itself number)
            (of_without nat_cmp nat_cmp_total battles number n b f).0
        | false ↦ λ f. elim (of_changed nat_cmp nat_cmp-IsAntisymmetric number (room_changed (without_member name)) battles old.0 at_own n b f) [
          | inl was ↦ contradiction (has_member name b.room) m (ap (λ (y : Battle). has_member name y.room) (sym was.1) ∙ leaves name old.0.room)
          | inr was ↦ contradiction (same_number number n) (ap (same_number number) (sym is) ∙ same_itself number) was.0
        ]
      ] (subst (λ (o : Option Battle). at_number (left_at battles number name o) n ≡ Some b) at_own there))

  -- one who stopped asking where alone it asked asks nowhere
  pub asks_nowhere : (name : List ℕ) (asks : Option ℕ) → IsOnly (has_asker name) battles asks → (n : ℕ) (b : Battle)
      → at_number (unasked_own (Some name) asks battles) n ≡ Some b → has_asker name b.room ≡ false
  asks_nowhere name None only n b there = not_so (has_asker name b.room) (λ asked. absurd (let is = only n b there asked in cc))
  asks_nowhere name (Some number) only n b there =
      not_so (has_asker name b.room) (λ asked.
      let old = from_unasked number name n b there in
      let is : number ≡ n = itself number n (only n old.0 old.1 (old.2.askers name asked)) in
      let at_own : at_number battles number ≡ Some old.0 = ap (at_number battles) is ∙ old.1 in
      elim (of_changed nat_cmp nat_cmp-IsAntisymmetric number (room_changed (without_asker name)) battles old.0 at_own n b there) [
        | inl was ↦ ap (λ (y : Battle). has_asker name y.room) (sym was.1) ∙ stops name old.0.room
        | inr was ↦ contradiction (same_number number n) (ap (same_number number) (sym is) ∙ same_itself number) was.0
      ])

  pub from_left_own : (name : Option (List ℕ)) (own : Option ℕ) → From Shrinks (left_own name own battles)
  from_left_own None own n b there = (b, there, shrinks_same b.room)
  from_left_own (Some name) None n b there = (b, there, shrinks_same b.room)
  from_left_own (Some name) (Some number) n b there = from_left number name n b there

  pub from_unasked_own : (name : Option (List ℕ)) (asks : Option ℕ) → From Shrinks (unasked_own name asks battles)
  from_unasked_own None asks n b there = (b, there, shrinks_same b.room)
  from_unasked_own (Some name) None n b there = (b, there, shrinks_same b.room)
  from_unasked_own (Some name) (Some number) n b there = from_unasked number name n b there

  module _ (online : ByName OnlineUser) (knowing : KnowTheirBattles battles online) where
    -- those who are online changed beside their battle, and one more
    pub knowing_changed : (k : List ℕ) (f : OnlineUser → OnlineUser) → ((x : OnlineUser) → (f x).battle ≡ x.battle) → KnowTheirBattles battles (change_name online k f)
    knowing_changed k f same = record {
      at = λ q n b there in_it.
          ap battle_at (at-change name_cmp name_cmp_same f online k q)
          ∙ elim (at_name online q) as (λ o. battle_at (option_map (λ x. if same_name k q then f x else x) o) ≡ battle_at o) [
            | None ↦ refl
            | Some x ↦ elim (same_name k q) as (λ t. (if t then f x else x).battle ≡ x.battle) [ true ↦ same x | false ↦ refl ]
          ]
          ∙ knowing.at q n b there in_it;
      outside = knowing.outside;
    }

    pub knowing_added : (name : List ℕ) (online_user : OnlineUser) → at_name online name ≡ None → KnowTheirBattles battles (put_name online name online_user)
    knowing_added name online_user free = record {
      at = λ q n b there in_it.
          ap battle_at (at-put name_cmp name_cmp_total online name online_user q)
          ∙ elim (same_name q name) as (λ t. same_name q name ≡ t → battle_at (cond t (Some online_user) (at_name online q)) ≡ Some n) [
            | true ↦ λ t. absurd (let none = sym (ap battle_at (ap (at_name online) (same_name_is q name t) ∙ free)) ∙ knowing.at q n b there in_it in cc)
            | false ↦ λ t. knowing.at q n b there in_it
          ] refl;
      outside = knowing.outside;
    }

    -- battles that concern nobody new
    knowing_kept : (new : ByNumber Battle) → From Keeps new → KnowTheirBattles new online
    knowing_kept new from = record {
      at = λ q n b there in_it. let old = from n b there in knowing.at q n old.0 old.1 (old.2.old q in_it);
      outside = λ n b there. let old = from n b there in old.2.outside (knowing.outside n old.0 old.1);
    }

    kept_of : (new : ByNumber Battle) → From Shrinks new → From Keeps new
    kept_of new from = λ n b there. let old = from n b there in (old.0, old.1, keeps_of old.0.room b.room old.2)

    pub knowing_same : (number : ℕ) (f : Battle → Battle) → ((x : Battle) → Shrinks x.room (f x).room) → KnowTheirBattles (change_number battles number f) online
    knowing_same number f shrinks =
        knowing_kept (change_number battles number f) (kept_of (change_number battles number f)
        (from_change Shrinks number f shrinks_same (λ x at. shrinks x)))

    pub knowing_left : (number : ℕ) (name : List ℕ) → KnowTheirBattles (left_battle number name battles) online
    knowing_left number name = knowing_kept (left_battle number name battles) (kept_of (left_battle number name battles) (from_left number name))

    pub knowing_unasked : (number : ℕ) (name : List ℕ) → KnowTheirBattles (unasked number name battles) online
    knowing_unasked number name = knowing_kept (unasked number name battles) (kept_of (unasked number name battles) (from_unasked number name))

    -- one who asked there enters the battle of a number
    pub knowing_let_in : (number : ℕ) (name : List ℕ) → asks_at (at_number battles number) name ≡ true
        → KnowTheirBattles (change_number battles number (room_changed (let_in name))) online
    knowing_let_in number name asks =
        knowing_kept (change_number battles number (room_changed (let_in name)))
        (from_change Keeps number (room_changed (let_in name)) (λ rm. keeps_of rm rm (shrinks_same rm))
        (λ x at. let_in_keeps name x.room (sym (ap (λ o. asks_at o name) at) ∙ asks)))

    -- one who is gone left its battle, and asks nowhere
    knowing_out : (new : ByNumber Battle) (name : List ℕ) → From Keeps new
        → ((n : ℕ) (b : Battle) → at_number new n ≡ Some b → concerns name b.room ≡ false)
        → KnowTheirBattles new (without_name online name)
    knowing_out new name from never = record {
      at = λ q n b there in_it.
          ap battle_at (at-without name_cmp name_cmp_total online name q)
          ∙ elim (same_name name q) as (λ t. same_name name q ≡ t → battle_at (cond (not t) (at_name online q) None) ≡ Some n) [
            | true ↦ λ t. contradiction (concerns name b.room) (ap (λ k. concerns k b.room) (same_name_is name q t) ∙ in_it) (never n b there)
            | false ↦ λ t. (knowing_kept new from).at q n b there in_it
          ] refl;
      outside = (knowing_kept new from).outside;
    }

    -- one who enters a battle, or asks to, and did neither, is there
    module _ (clients : ByNumber Client) (agree : Agree clients online) (c : ℕ) (name : List ℕ) (can : CanEnter clients battles c name) (number : ℕ) where
      pub no_member : (n : ℕ) (b : Battle) → at_number battles n ≡ Some b → has_member name b.room ≡ false
      no_member n b there = none_at nat_cmp (λ (x : Battle). has_member name x.room) battles can.free n b there

      pub no_asker : (n : ℕ) (b : Battle) → at_number battles n ≡ Some b → has_asker name b.room ≡ false
      no_asker n b there = none_at nat_cmp (λ (x : Battle). has_asker name x.room) battles can.unasked n b there

      own_battle : battle_at (at_name (change_name online name (online_user_in number)) name) ≡ Some number
      own_battle =
          ap battle_at (at-change name_cmp name_cmp_same (online_user_in number) online name name)
          ∙ elim (at_name online name) as (λ o. has_number (client_in o) c ≡ true
          → battle_at (option_map (λ x. if same_name name name then online_user_in number x else x) o) ≡ Some number) [
            | None ↦ λ e. absurd (cc)
            | Some x ↦ λ e. ap (λ t. (if t then online_user_in number x else x).battle) (same_name_itself name)
          ] (agree name c ∙ ap (λ o. is_named (same_name name) o) can.user ∙ same_name_itself name)

      others : (q : List ℕ) → same_name name q ≡ false → battle_at (at_name (change_name online name (online_user_in number)) q) ≡ battle_at (at_name online q)
      others q apart =
          ap battle_at (at-change name_cmp name_cmp_same (online_user_in number) online name q)
          ∙ elim (at_name online q) as (λ o. battle_at (option_map (λ x. if same_name name q then online_user_in number x else x) o) ≡ battle_at o) [
            | None ↦ refl
            | Some x ↦ ap (λ t. (if t then online_user_in number x else x).battle) apart
          ]

      entered : (new : ByNumber Battle)
          → ((n : ℕ) (b : Battle) (q : List ℕ) → at_number new n ≡ Some b → concerns q b.room ≡ true
          → ((x : Battle) × (at_number battles n ≡ Some x) × (concerns q x.room ≡ true)) ⊎ ((n ≡ number) × (q ≡ name)))
          → ((n : ℕ) (b : Battle) → at_number new n ≡ Some b → AskOutside b.room)
          → KnowTheirBattles new (change_name online name (online_user_in number))
      entered new was outside = record {
        at = λ q n b there in_it. elim (was n b q there in_it) [
          | inl old ↦ elim (same_name name q) as (λ t. same_name name q ≡ t
              → battle_at (at_name (change_name online name (online_user_in number)) q) ≡ Some n) [
                | true ↦ λ t. contradiction (concerns name old.0.room) (ap (λ k. concerns k old.0.room) (same_name_is name q t) ∙ old.2)
                    (ap (λ b. b || has_asker name old.0.room) (no_member n old.0 old.1) ∙ no_asker n old.0 old.1)
                | false ↦ λ t. others q t ∙ knowing.at q n old.0 old.1 old.2
              ] refl
          | inr is ↦ ap (λ k. battle_at (at_name (change_name online name (online_user_in number)) k)) is.1 ∙ own_battle ∙ ap (λ k. Some k) (sym is.0)
        ];
        outside = outside;
      }

      pub knowing_opened : (battle : Battle) → IsNew battle name → KnowTheirBattles (put_number battles number battle) (change_name online name (online_user_in number))
      knowing_opened battle new = entered (put_number battles number battle) (λ n b q there in_it.
          elim (of_put nat_cmp nat_cmp_total nat_cmp-IsAntisymmetric battles number battle n b there) [
            | inl is ↦ elim (or_cases (has_member q battle.room) (has_asker q battle.room) (ap (λ (x : Battle). concerns q x.room) is.1 ∙ in_it)) [
              | inl m ↦ elim (among_with_is name q [] (ap (is_among q) (sym new.members) ∙ m)) [
                | inl before ↦ absurd (cc)
                | inr me ↦ inr (is.0, me)
              ]
              | inr a ↦ absurd (let none = sym a ∙ asked_by_nobody q in cc)
            ]
            | inr was ↦ inl (b, was, in_it)
          ]) (λ n b there. elim (of_put nat_cmp nat_cmp_total nat_cmp-IsAntisymmetric battles number battle n b there) [
            | inl is ↦ subst (λ (x : Battle). AskOutside x.room) is.1 (λ q a. absurd (let none = sym a ∙ asked_by_nobody q in cc))
            | inr was ↦ knowing.outside n b was
          ])
        where
          asked_by_nobody : (q : List ℕ) → has_asker q battle.room ≡ false
          asked_by_nobody q = ap (λ (askers : List Asker). is_among q (map (λ a. a.name) askers)) new.askers

      -- a battle with one more, who enters it or asks to
      one_more : (f : Room → Room)
          → ((rm : Room) (q : List ℕ) → concerns q (f rm) ≡ true → (concerns q rm ≡ true) ⊎ (q ≡ name))
          → ((rm : Room) → has_member name rm ≡ false → has_asker name rm ≡ false → AskOutside rm → AskOutside (f rm))
          → KnowTheirBattles (change_number battles number (room_changed f)) (change_name online name (online_user_in number))
      one_more f enters outside = entered (change_number battles number (room_changed f)) (λ n b q there in_it.
          let old = of_change nat_cmp nat_cmp-IsAntisymmetric number (room_changed f) battles n b there in
          elim (same_number number n) as (λ t. same_number number n ≡ t → (if t then room_changed f old.0 else old.0) ≡ b
          → ((x : Battle) × (at_number battles n ≡ Some x) × (concerns q x.room ≡ true)) ⊎ ((n ≡ number) × (q ≡ name))) [
            | true ↦ λ t e. elim (enters old.0.room q (ap (λ (x : Battle). concerns q x.room) e ∙ in_it)) [
              | inl before ↦ inl (old.0, old.1, before)
              | inr me ↦ inr (sym (nat_cmp-IsAntisymmetric number n (Equal_of _ t)), me)
            ]
            | false ↦ λ t e. inl (old.0, old.1, ap (λ (x : Battle). concerns q x.room) e ∙ in_it)
          ] refl old.2) (λ n b there.
          let old = of_change nat_cmp nat_cmp-IsAntisymmetric number (room_changed f) battles n b there in
          elim (same_number number n) as (λ t. (if t then room_changed f old.0 else old.0) ≡ b → AskOutside b.room) [
            | true ↦ λ e. subst (λ (x : Battle). AskOutside x.room) e
                (outside old.0.room (no_member n old.0 old.1) (no_asker n old.0 old.1) (knowing.outside n old.0 old.1))
            | false ↦ λ e. subst (λ (x : Battle). AskOutside x.room) e (knowing.outside n old.0 old.1)
          ] old.2)

      pub knowing_joined : KnowTheirBattles (change_number battles number (room_changed (with_member name))) (change_name online name (online_user_in number))
      knowing_joined = one_more (with_member name) (λ rm q h. elim (or_cases (has_member q (with_member name rm)) (has_asker q rm) h) [
        | inl m ↦ elim (entering name q rm m) [ inl was ↦ inl (as_member q rm was) | inr me ↦ inr me ]
        | inr a ↦ inl (as_asker q rm a)
      ]) (λ rm no_m no_a out q a. not_so (has_member q (with_member name rm)) (λ m. elim (entering name q rm m) [
        | inl was ↦ contradiction (has_member q rm) was (out q a)
        | inr me ↦ contradiction (has_asker q rm) a (ap (λ k. has_asker k rm) me ∙ no_a)
      ]))

      pub knowing_asked : (script_password : Option (List ℕ))
          → KnowTheirBattles (change_number battles number (room_changed (with_asker name script_password))) (change_name online name (online_user_in number))
      knowing_asked script_password = one_more (with_asker name script_password)
          (λ rm q h. elim (or_cases (has_member q rm) (has_asker q (with_asker name script_password rm)) h) [
            | inl m ↦ inl (as_member q rm m)
            | inr a ↦ elim (asking name q script_password rm a) [ inl was ↦ inl (as_asker q rm was) | inr me ↦ inr me ]
          ]) (λ rm no_m no_a out q a. elim (asking name q script_password rm a) [
            | inl was ↦ out q was
            | inr me ↦ ap (λ k. has_member k rm) me ∙ no_m
          ])

-- one who may be logged in logs out
pub knowing_gone : (battles : ByNumber Battle) (online : ByName OnlineUser) → KnowTheirBattles battles online → (name : Option (List ℕ)) (asks own : Option ℕ)
    → LeavesAll battles asks own name
    → KnowTheirBattles (left_own name own (unasked_own name asks battles)) (where_some without_one name online)
knowing_gone battles online knowing None asks own leaves = knowing
knowing_gone battles online knowing (Some name) asks own leaves =
    let mid : ByNumber Battle = unasked_own (Some name) asks battles in
    let first : From battles Shrinks mid = from_unasked_own battles (Some name) asks in
    let second : From mid Shrinks (left_own (Some name) own mid) = from_left_own mid (Some name) own in
    knowing_out battles online knowing (left_own (Some name) own mid) name
    (λ n b there.
    let x = second n b there in
    let old = first n x.0 x.1 in (
      old.0,
      old.1,
      keeps_of old.0.room b.room (record {
        members = λ q h. old.2.members q (x.2.members q h);
        askers = λ q h. old.2.askers q (x.2.askers q h);
      }),
    ))
    (λ n b there. not_so (concerns name b.room) (λ in_it. elim (or_cases (has_member name b.room) (has_asker name b.room) in_it) [
      | inl m ↦ contradiction (has_member name b.room) m (gone mid name own
          (λ k y at h. let old = first k y at in leaves.1 k old.0 old.1 (old.2.members name h)) n b there)
      | inr a ↦ let x = second n b there in contradiction (has_asker name x.0.room) (x.2.askers name a) (asks_nowhere battles name asks leaves.0 n x.0 x.1)
    ]))

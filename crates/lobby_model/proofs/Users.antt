-- How it is kept that each client that is logged in has its user, each user its client, and no two clients bear one name.
use Rattle.std.proofs.Common.{◌≡◌, ℕ, List, [], ◌++◌, refl, sym, ap, ◌∙◌, Bool, true, false, cond, not, inl, inr}
use Rattle.std.specs.Prelude.{Option, Some, None, ◌⊎◌, if◌then◌else◌, is_some}
use Rattle.std.proofs.lemmas.Option.{same_Some}
use Rattle.std.specs.Option.{option_map}
use Rattle.std.specs.Ordering.{nat_cmp}
use Rattle.std.specs.Cmp.{nat_cmp_total}
use Rattle.std.specs.FinMap.{nat_cmp-IsAntisymmetric}
use Rattle.lobby_model.specs.declared.event.Event.{Event}
use Rattle.lobby_model.specs.declared.event.Phase.{Phase}
use Rattle.lobby_model.specs.declared.event.Phase.TheVariants.{Ended}
use Rattle.line_words.specs.Table.{ByName, ByNumber, at_name, put_name, at_number, put_number, without_number, change_number, same_name, same_number, name_cmp}
use Rattle.channel_book.specs.Channels.{Channels}
use Rattle.lobby_model.specs.State.{State, User, Client, Battle, is_live, name_in, name_of_client, name_at, name_of, in_phase, set_phase}
use Rattle.lobby_model.specs.Sessions.{drained}
use Rattle.lobby_model.specs.Events.{effect}
use Rattle.lobby_model.specs.Sound.{SoundClients}
use Rattle.lobby_model.specs.Next.{next, batch, with_batch, has_room_for}
use Rattle.line_words.proofs.Tables.{at-put, at-without, at-change, name_cmp_total, same_name_is, same_name_itself}
use Rattle.lobby_model.proofs.Delivered.{same_number_is, same_itself, delivered_at}
use Rattle.lobby_model.proofs.Splits.{same_either_way}
use Rattle.lobby_model.proofs.Inside.{users_left}

abbrev pub Names : Type 0
Names = ℕ → Option (List ℕ)

-- names: the name of each client; has: whether a user of that name is there
pub record Matched (names : Names) (has : List ℕ → Bool) : Type 0 where
  pub single : (c d : ℕ) (name : List ℕ) → names c ≡ Some name → names d ≡ Some name → c ≡ d
  pub has_user : (c : ℕ) (name : List ℕ) → names c ≡ Some name → has name ≡ true
  pub has_client : (name : List ℕ) → has name ≡ true → (c : ℕ) × (names c ≡ Some name)

-- one is gone, if it was there
abbrev pub less : Option (List ℕ) → List ℕ → Bool → Bool
less None name there = there
less (Some me) name there = cond (not (same_name me name)) there false

no_name : (o : Option (List ℕ)) (name : List ℕ) → o ≡ None → o ≡ Some name → ⊥
no_name o name none some = absurd (cc)

module _ (names : Names) (has : List ℕ → Bool) (m : Matched names has) where
  pub unchanged : (names' : Names) (has' : List ℕ → Bool) → ((c : ℕ) → names' c ≡ names c) → ((name : List ℕ) → has' name ≡ has name)
      → Matched names' has'
  unchanged names' has' same_names same_users = record {
    single = λ c d name f g. m.single c d name (sym (same_names c) ∙ f) (sym (same_names d) ∙ g);
    has_user = λ c name f. same_users name ∙ m.has_user c name (sym (same_names c) ∙ f);
    has_client = λ name h. let there = m.has_client name (sym (same_users name) ∙ h) in (there.0, same_names there.0 ∙ there.1);
  }

  -- d is no more under the name that it bore
  module _ (d : ℕ) (me : Option (List ℕ)) (was : names d ≡ me) (names' : Names) (has' : List ℕ → Bool)
      (new_names : (c : ℕ) → names' c ≡ cond (same_number c d) None (names c))
      (new_users : (name : List ℕ) → has' name ≡ less me name (has name)) where
    still : (c : ℕ) (name : List ℕ) → names' c ≡ Some name → (same_number c d ≡ false) × (names c ≡ Some name)
    still c name f =
        elim (same_number c d) as (λ b. cond b None (names c) ≡ Some name → (b ≡ false) × (names c ≡ Some name)) [
          | true ↦ λ g. absurd (cc)
          | false ↦ λ g. (refl, g)
        ] (sym (new_names c) ∙ f)

    its_user : (o : Option (List ℕ)) → names d ≡ o → (c : ℕ) (name : List ℕ) → same_number c d ≡ false → names c ≡ Some name
        → less o name (has name) ≡ true
    its_user None e c name apart f = m.has_user c name f
    its_user (Some one) e c name apart f =
        elim (same_name one name) as (λ b. same_name one name ≡ b → cond (not b) (has name) false ≡ true) [
          | true ↦ λ t.
              let both : c ≡ d = m.single c d name f (e ∙ ap (λ n. Some n) (same_name_is one name t)) in
              absurd (let no : true ≡ false = sym (same_itself d) ∙ ap (λ k. same_number k d) (sym both) ∙ apart in cc)
          | false ↦ λ t. m.has_user c name f
        ] refl

    other : (o : Option (List ℕ)) → names d ≡ o → (name : List ℕ) → less o name (has name) ≡ true → (has name ≡ true) × (names d ≡ Some name → ⊥)
    other None e name h = (h, λ f. no_name (names d) name e f)
    other (Some one) e name h =
        elim (same_name one name) as (λ b. same_name one name ≡ b → cond (not b) (has name) false ≡ true
        → (has name ≡ true) × (names d ≡ Some name → ⊥)) [
          | true ↦ λ t g. absurd (cc)
          | false ↦ λ t g. (
            g,
            λ f.
                let one_is : one ≡ name = same_Some one name (sym e ∙ f) in
                absurd (let no : true ≡ false = sym (same_name_itself one) ∙ ap (same_name one) one_is ∙ t in cc),
          )
        ] refl h

    pub left : Matched names' has'
    left = record {
      single = λ c e name f g. m.single c e name (still c name f).1 (still e name g).1;
      has_user = λ c name f. new_users name ∙ its_user me was c name (still c name f).0 (still c name f).1;
      has_client = λ name h.
          let mine = other me was name (sym (new_users name) ∙ h) in
          let there = m.has_client name mine.0 in (
            there.0,
            new_names there.0 ∙ elim (same_number there.0 d) as (λ b. same_number there.0 d ≡ b → cond b None (names there.0) ≡ Some name) [
              | true ↦ λ t. absurd (mine.1 (ap names (sym (same_number_is there.0 d t)) ∙ there.1))
              | false ↦ λ t. there.1
            ] refl,
          );
    }

  -- d, which had no name, is now under one that nobody bore
  module _ (d : ℕ) (one : List ℕ) (was : names d ≡ None) (free : has one ≡ false) (names' : Names) (has' : List ℕ → Bool)
      (new_names : (c : ℕ) → names' c ≡ cond (same_number c d) (Some one) (names c))
      (new_users : (name : List ℕ) → has' name ≡ cond (same_name name one) true (has name)) where
    either : (c : ℕ) (name : List ℕ) → names' c ≡ Some name → ((c ≡ d) × (one ≡ name)) ⊎ (names c ≡ Some name)
    either c name f =
        elim (same_number c d) as (λ b. same_number c d ≡ b → cond b (Some one) (names c) ≡ Some name
        → ((c ≡ d) × (one ≡ name)) ⊎ (names c ≡ Some name)) [
          | true ↦ λ t g. inl (same_number_is c d t, same_Some one name g)
          | false ↦ λ t g. inr g
        ] refl (sym (new_names c) ∙ f)

    nobody : (c : ℕ) (name : List ℕ) → one ≡ name → names c ≡ Some name → ⊥
    nobody c name is f = let no : true ≡ false = sym (m.has_user c name f) ∙ ap has (sym is) ∙ free in absurd (cc)

    pub entered : Matched names' has'
    entered = record {
      single = λ c e name f g. elim (either c name f) [
        | inl here ↦ elim (either e name g) [ inl there ↦ here.0 ∙ sym there.0 | inr there ↦ absurd (nobody e name here.1 there) ]
        | inr here ↦ elim (either e name g) [ inl there ↦ absurd (nobody c name there.1 here) | inr there ↦ m.single c e name here there ]
      ];
      has_user = λ c name f. new_users name ∙ elim (either c name f) [
        | inl here ↦ ap (λ n. cond (same_name n one) true (has name)) (sym here.1) ∙ ap (λ b. cond b true (has name)) (same_name_itself one)
        | inr here ↦ ap (cond (same_name name one) true) (m.has_user c name here) ∙ elim (same_name name one) as (λ b. cond b true true ≡ true) [
          | true ↦ refl
          | false ↦ refl
        ]
      ];
      has_client =
          λ name h. elim (same_name name one) as (λ b. same_name name one ≡ b → cond b true (has name) ≡ true → (c : ℕ) × (names' c ≡ Some name)) [
            | true ↦ λ t g. (d, new_names d ∙ ap (λ b. cond b (Some one) (names d)) (same_itself d) ∙ ap (λ n. Some n) (sym (same_name_is name one t)))
            | false ↦ λ t g.
                let there = m.has_client name g in (
                  there.0,
                  new_names there.0 ∙ elim (same_number there.0 d) as (λ b. same_number there.0 d ≡ b → cond b (Some one) (names there.0) ≡ Some name) [
                    | true ↦ λ t. absurd (no_name (names d) name was (ap names (sym (same_number_is there.0 d t)) ∙ there.1))
                    | false ↦ λ t. there.1
                  ] refl,
                )
          ] refl (sym (new_users name) ∙ h);
    }

abbrev pub has_in : ByName User → List ℕ → Bool
has_in users name = is_some (at_name users name)

abbrev pub Agree : ByNumber Client → ByName User → Type 0
Agree clients users = Matched (name_at clients) (has_in users)

put_names : (clients : ByNumber Client) (d : ℕ) (w : Client) (c : ℕ)
    → name_at (put_number clients d w) c ≡ cond (same_number c d) (name_in w.phase) (name_at clients c)
put_names clients d w c =
    ap name_of_client (at-put nat_cmp nat_cmp_total clients d w c)
    ∙ elim (same_number c d) as (λ b. name_of_client (cond b (Some w) (at_number clients c)) ≡ cond b (name_in w.phase) (name_at clients c)) [
      | true ↦ refl
      | false ↦ refl
    ]

-- a client that is written under the name that it has
pub same_names : (clients : ByNumber Client) (d : ℕ) (w : Client) → name_at clients d ≡ name_in w.phase → (c : ℕ)
    → name_at (put_number clients d w) c ≡ name_at clients c
same_names clients d w was c =
    put_names clients d w c ∙ elim (same_number c d) as
    (λ b. same_number c d ≡ b → cond b (name_in w.phase) (name_at clients c) ≡ name_at clients c) [
      | true ↦ λ t. sym (ap (name_at clients) (same_number_is c d t) ∙ was)
      | false ↦ λ t. refl
    ] refl

change_names : (clients : ByNumber Client) (d : ℕ) (f : Client → Client) (c : ℕ)
    → name_at (change_number clients d f) c ≡ name_of_client (option_map (λ x. if same_number d c then f x else x) (at_number clients c))
change_names clients d f c = ap name_of_client (at-change nat_cmp nat_cmp-IsAntisymmetric f clients d c)

pub phase_names : (clients : ByNumber Client) (d : ℕ) (phase : Phase) (x : Client) → at_number clients d ≡ Some x
    → (c : ℕ) → name_at (set_phase clients d phase) c ≡ cond (same_number c d) (name_in phase) (name_at clients c)
phase_names clients d phase x found c =
    change_names clients d (in_phase phase) c
    ∙ ap (λ b. name_of_client (option_map (λ x. if b then in_phase phase x else x) (at_number clients c))) (same_either_way d c)
    ∙ elim (same_number c d) as (λ b. same_number c d ≡ b
    → name_of_client (option_map (λ x. if b then in_phase phase x else x) (at_number clients c)) ≡ cond b (name_in phase) (name_at clients c)) [
      | true ↦ λ t. ap (λ o. name_of_client (option_map (in_phase phase) o)) (ap (at_number clients) (same_number_is c d t) ∙ found)
      | false ↦ λ t. elim (at_number clients c) as (λ o. name_of_client (option_map (λ x. x) o) ≡ name_of_client o) [ None ↦ refl | Some y ↦ refl ]
    ] refl

-- one that is Ended bears no name, whether it is there or not
pub ended_names : (clients : ByNumber Client) (d c : ℕ) → name_at (set_phase clients d Ended) c ≡ cond (same_number c d) None (name_at clients c)
ended_names clients d c =
    change_names clients d (in_phase Ended) c
    ∙ ap (λ b. name_of_client (option_map (λ x. if b then in_phase Ended x else x) (at_number clients c))) (same_either_way d c)
    ∙ elim (at_number clients c) as (λ o. name_of_client (option_map (λ x. if same_number c d then in_phase Ended x else x) o)
    ≡ cond (same_number c d) None (name_of_client o)) [
      | None ↦ elim (same_number c d) as (λ b. ◌≡◌ {A = Option (List ℕ)} None (cond b None None)) [ true ↦ refl | false ↦ refl ]
      | Some x ↦ elim (same_number c d) as (λ b. name_of_client (Some (if b then in_phase Ended x else x)) ≡ cond b None (name_in x.phase)) [
        | true ↦ refl
        | false ↦ refl
      ]
    ]

pub drain_names : (clients : ByNumber Client) (d n c : ℕ) → name_at (change_number clients d (drained n)) c ≡ name_at clients c
drain_names clients d n c =
    change_names clients d (drained n) c
    ∙ elim (same_number d c) as (λ b. name_of_client (option_map (λ x. if b then drained n x else x) (at_number clients c)) ≡ name_at clients c) [
      | true ↦ elim (at_number clients c) as (λ o. name_of_client (option_map (drained n) o) ≡ name_of_client o) [ None ↦ refl | Some y ↦ refl ]
      | false ↦ elim (at_number clients c) as (λ o. name_of_client (option_map (λ x. x) o) ≡ name_of_client o) [ None ↦ refl | Some y ↦ refl ]
    ]

pub without_names : (clients : ByNumber Client) (d c : ℕ) → name_at (without_number clients d) c ≡ cond (same_number c d) None (name_at clients c)
without_names clients d c =
    ap name_of_client (at-without nat_cmp nat_cmp_total clients d c)
    ∙ ap (λ b. name_of_client (cond (not b) (at_number clients c) None)) (same_either_way d c)
    ∙ elim (same_number c d) as (λ b. name_of_client (cond (not b) (at_number clients c) None) ≡ cond b None (name_at clients c)) [
      | true ↦ refl
      | false ↦ refl
    ]

pub left_users : (users : ByName User) (me : Option (List ℕ)) (name : List ℕ) → has_in (users_left users me) name ≡ less me name (has_in users name)
left_users users None name = refl
left_users users (Some me) name =
    ap is_some (at-without name_cmp name_cmp_total users me name)
    ∙ elim (same_name me name) as (λ b. is_some (cond (not b) (at_name users name) None) ≡ cond (not b) (has_in users name) false) [
      | true ↦ refl
      | false ↦ refl
    ]

pub put_users : (users : ByName User) (one : List ℕ) (user : User) (name : List ℕ)
    → has_in (put_name users one user) name ≡ cond (same_name name one) true (has_in users name)
put_users users one user name =
    ap is_some (at-put name_cmp name_cmp_total users one user name)
    ∙ elim (same_name name one) as (λ b. is_some (cond b (Some user) (at_name users name)) ≡ cond b true (has_in users name)) [
      | true ↦ refl
      | false ↦ refl
    ]

-- a batch changes no phase
phase_kept : (limit : ℕ) (bytes : List ℕ) (x : Client) → (with_batch limit bytes x).phase ≡ x.phase
phase_kept limit bytes x =
    elim (is_live x) as (λ l. (if l then
    (if has_room_for limit x bytes then record x { unread = x.unread ++ bytes } else record x { cut = true; unread = [] }) else x).phase ≡ x.phase) [
      | true ↦ elim (has_room_for limit x bytes) as
          (λ r. (if r then record x { unread = x.unread ++ bytes } else record x { cut = true; unread = [] }).phase ≡ x.phase) [
            | true ↦ refl
            | false ↦ refl
          ]
      | false ↦ refl
    ]

-- the names of clients are those of the maps before lines are put
pub names_kept : (s : State) (e : Event) (c : ℕ) → name_of (next s e) c ≡ name_of (effect s e) c
names_kept s e c =
    ap name_of_client (delivered_at s e c)
    ∙ elim (at_number (effect s e).clients c) as
    (λ o. name_of_client (option_map (with_batch s.settings.outbox_limit (batch s e c)) o) ≡ name_of_client o) [
      | None ↦ refl
      | Some x ↦ ap name_in (phase_kept s.settings.outbox_limit (batch s e c) x)
    ]

-- clients and users do not look at channels and battles
pub same_clients : (s : State) → SoundClients s → (channels : Channels) (battles : ByNumber Battle) (last_battle : ℕ)
    → SoundClients (record s { channels = channels; battles = battles; last_battle = last_battle })
same_clients s sound channels battles last_battle = record {
  in_order = sound.in_order;
  users_in_order = sound.users_in_order;
  given = sound.given;
  one_for_each = record { single = sound.one_for_each.single; has_user = sound.one_for_each.has_user; has_client = sound.one_for_each.has_client };
}

-- Who is logged in where, as clients and users change.
use Rattle.std.proofs.Common.{◌≡◌, ℕ, List, [], ◌∷◌, refl, sym, ap, ◌∙◌, true, false, cond, not, Bool}
use Rattle.std.specs.Prelude.{Option, Some, None, is_some, if◌then◌else◌, ◌||◌}
use Rattle.std.specs.Option.{option_map}
use Rattle.std.specs.FinMap.{nat_cmp-IsAntisymmetric}
use Rattle.std.specs.Ordering.{nat_cmp}
use Rattle.std.specs.BTreeMap.{is_at}
use Rattle.std.specs.Map.{lookup}
use Rattle.std.specs.Cmp.{nat_cmp_total}
use Rattle.line_words.specs.Table.{ByName, ByNumber, at_number, at_name, put_name, change_name, name_cmp, same_name, same_number}
use Rattle.lobby_model.specs.State.{Client, is_live_client, name_at, name_of_client, in_phase, set_phase, user_with}
use Rattle.lobby_model.specs.Outcome.{is_named}
use Rattle.line_words.proofs.Tables.{lookup_is_find, same_name_is, same_name_itself, name_cmp_same, name_cmp_total, at-change, at-put, at-without, at-map_values, map_values-put, map_values-without}
use Rattle.lobby_model.proofs.Delivered.{same_number_is}
use Rattle.lobby_battles.specs.declared.online_users.OnlineUser.{OnlineUser}
use Rattle.lobby_post.specs.Mail.{parted}
use Rattle.lobby_battles.specs.OnlineUsers.{Agree, IsListed, IsSet, client_in, plain_user, users_of, online_user_with, where_some, without_one}
use Rattle.lobby_model.specs.declared.event.Phase.TheVariants.{In, Ended}
use Rattle.lobby_model.proofs.Splits.{same_either_way}
use Rattle.lobby_post.specs.Posted.{has_number}
use Rattle.channel_book.proofs.Placed.{same_name_sym}

-- names are where they were
pub agree_kept : (m n : ByNumber Client) (online : ByName OnlineUser) → ((c : ℕ) → name_at n c ≡ name_at m c) → Agree m online → Agree n online
agree_kept m n online names agree = λ name c. agree name c ∙ ap (is_named (same_name name)) (sym (names c))

pub listed_kept : (m n : ByNumber Client) (numbers : List ℕ) → ((c : ℕ) → name_at n c ≡ name_at m c) → IsListed numbers m → IsListed numbers n
listed_kept m n numbers names listed = λ c. listed c ∙ ap is_some (sym (names c))

module _ (m : ByNumber Client) (online : ByName OnlineUser) (k : List ℕ) (f : OnlineUser → OnlineUser) (same : (x : OnlineUser) → (f x).client.number ≡ x.client.number) where
  kept_client : (q : List ℕ) (x : OnlineUser) → (if same_name k q then f x else x).client.number ≡ x.client.number
  kept_client q x = elim (same_name k q) as (λ b. (if b then f x else x).client.number ≡ x.client.number) [ true ↦ same x | false ↦ refl ]

  pub agree_changed : Agree m online → Agree m (change_name online k f)
  agree_changed agree = λ q d.
      ap (λ o. has_number (client_in o) d) (at-change name_cmp name_cmp_same f online k q)
      ∙ elim (at_name online q) as (λ o. has_number (client_in (option_map (λ x. if same_name k q then f x else x) o)) d
      ≡ has_number (client_in o) d) [ None ↦ refl | Some x ↦ ap (λ c. same_number d c || false) (kept_client q x) ]
      ∙ agree q d

pub users_changed : (online : ByName OnlineUser) (k : List ℕ) (status : ℕ)
    → users_of (change_name online k (online_user_with status)) ≡ change_name (users_of online) k (user_with status)
users_changed [] k status = refl
users_changed (e ∷ online) k status =
    ap (λ u. (e.0, u) ∷ users_of (change_name online k (online_user_with status)))
    (elim (same_name k e.0) as (λ b. plain_user (if b then online_user_with status e.1 else e.1)
    ≡ (if b then user_with status (plain_user e.1) else plain_user e.1)) [ true ↦ refl | false ↦ refl ])
    ∙ ap (λ us. (e.0, if same_name k e.0 then user_with status (plain_user e.1) else plain_user e.1) ∷ us) (users_changed online k status)

only_one : (o : Option OnlineUser) (c d : ℕ) → has_number (client_in o) c ≡ true → same_number c d ≡ false → has_number (client_in o) d ≡ false
only_one None c d there apart = refl
only_one (Some online_user) c d there apart =
    let at : c ≡ online_user.client.number = same_number_is c online_user.client.number (elim (same_number c online_user.client.number) as (λ b. b
    ≡ (b || false)) [ true ↦ refl | false ↦ refl ] ∙ there) in
    ap (λ k. same_number d k || false) (sym at) ∙ ap (λ b. b || false) (same_either_way d c ∙ apart)

-- one who leaves, whether its client stays or not
module _ (m : ByNumber Client) (c : ℕ) where
  parted_at : (stays : Bool) (d : ℕ) → name_at (parted m c stays) d ≡ (if same_number c d then None else name_at m d)
  parted_at false d =
      ap name_of_client (at-without nat_cmp nat_cmp_total m c d)
      ∙ elim (same_number c d) as (λ b. name_of_client (cond (not b) (at_number m d) None)
      ≡ (if b then None else name_at m d)) [ true ↦ refl | false ↦ refl ]
  parted_at true d =
      ap name_of_client (at-change nat_cmp nat_cmp-IsAntisymmetric (in_phase Ended) m c d)
      ∙ elim (same_number c d) as (λ b. name_of_client (option_map (λ x. if b then in_phase Ended x else x) (at_number m d))
      ≡ (if b then None else name_at m d)) [
        | true ↦ elim (at_number m d) as (λ o. name_of_client (option_map (in_phase Ended) o) ≡ None) [ None ↦ refl | Some x ↦ refl ]
        | false ↦ elim (at_number m d) as (λ o. name_of_client (option_map (λ x. x) o) ≡ name_of_client o) [ None ↦ refl | Some x ↦ refl ]
      ]

  -- where c has not that name
  not_here : (q : List ℕ) (d : ℕ) → is_named (same_name q) (name_at m c) ≡ false
      → is_named (same_name q) (name_at m d) ≡ is_named (same_name q) (if same_number c d then None else name_at m d)
  not_here q d h =
      elim (same_number c d) as (λ b. same_number c d ≡ b
      → is_named (same_name q) (name_at m d) ≡ is_named (same_name q) (if b then None else name_at m d)) [
        | true ↦ λ t. ap (λ k. is_named (same_name q) (name_at m k)) (sym (same_number_is c d t)) ∙ h
        | false ↦ λ t. refl
      ] refl

  module _ (stays : Bool) where
    pub listed_parted : (was now : List ℕ) → IsSet c false was now → IsListed was m → IsListed now (parted m c stays)
    listed_parted was now set listed = λ d.
        set d
        ∙ elim (same_number c d) as (λ b. (if b then false else has_number was d)
        ≡ is_some (if b then None else name_at m d)) [ true ↦ refl | false ↦ listed d ]
        ∙ ap is_some (sym (parted_at stays d))

    pub agree_parted : (online : ByName OnlineUser) → Agree m online → Agree (parted m c stays) (where_some without_one (name_at m c) online)
    agree_parted online agree = λ q d.
        elim (name_at m c) as (λ o. name_at m c ≡ o → has_number (client_in (at_name (where_some without_one o online) q)) d
        ≡ is_named (same_name q) (if same_number c d then None else name_at m d)) [
          | None ↦ λ e. agree q d ∙ not_here q d (ap (is_named (same_name q)) e)
          | Some me ↦ λ e.
              let mine : is_named (same_name q) (name_at m c) ≡ same_name me q = ap (is_named (same_name q)) e ∙ same_name_sym q me in
              ap (λ o. has_number (client_in o) d) (at-without name_cmp name_cmp_total online me q)
              ∙ elim (same_name me q) as (λ b. same_name me q ≡ b
              → has_number (client_in (cond (not b) (at_name online q) None)) d
              ≡ is_named (same_name q) (if same_number c d then None else name_at m d)) [
                | true ↦ λ t. elim (same_number c d) as (λ b. same_number c d ≡ b
                    → false ≡ is_named (same_name q) (if b then None else name_at m d)) [
                      | true ↦ λ u. refl
                      | false ↦ λ u. sym (only_one (at_name online q) c d (agree q c ∙ mine ∙ t) u) ∙ agree q d
                    ] refl
                | false ↦ λ t. agree q d ∙ not_here q d (mine ∙ t)
              ] refl
        ] refl
        ∙ ap (is_named (same_name q)) (sym (parted_at stays d))

pub users_left : (online : ByName OnlineUser) (me : Option (List ℕ))
    → users_of (where_some without_one me online) ≡ where_some without_one me (users_of online)
users_left online None = refl
users_left online (Some me) = map_values-without name_cmp (λ name online_user. plain_user online_user) online me

-- one who is logged in is online
pub is_online : (m : ByNumber Client) (online : ByName OnlineUser) (c : ℕ) (me : List ℕ) → Agree m online → name_at m c ≡ Some me
    → None ≡ lookup (is_at (name_cmp me)) online → ⊥
is_online m online c me agree mine none =
    let no : false ≡ true = ap (λ o. has_number (client_in o) c) (none ∙ lookup_is_find name_cmp me online) ∙ agree me c
    ∙ ap (is_named (same_name me)) mine ∙ same_name_itself me in
    absurd (cc)

-- one who logs in, and was not logged in
there_live : (m : ByNumber Client) (c : ℕ) → is_live_client (at_number m c) ≡ true → is_some (at_number m c) ≡ true
there_live m c live = elim (at_number m c) as (λ o. is_live_client o ≡ true → is_some o ≡ true) [ None ↦ λ h. h | Some x ↦ λ h. refl ] live

module _ (m : ByNumber Client) (c : ℕ) (name : List ℕ) where
  logged_in_at : is_live_client (at_number m c) ≡ true → (d : ℕ)
      → name_at (set_phase m c (In name)) d ≡ (if same_number c d then Some name else name_at m d)
  logged_in_at live d =
      ap name_of_client (at-change nat_cmp nat_cmp-IsAntisymmetric (in_phase (In name)) m c d)
      ∙ elim (same_number c d) as (λ b. same_number c d ≡ b
      → name_of_client (option_map (λ x. if b then in_phase (In name) x else x) (at_number m d)) ≡ (if b then Some name else name_at m d)) [
        | true ↦ λ t. elim (at_number m d) as (λ o. is_some o ≡ true
            → name_of_client (option_map (in_phase (In name)) o) ≡ Some name) [ None ↦ λ h. absurd (cc) | Some x ↦ λ h. refl ]
            (ap (λ k. is_some (at_number m k)) (sym (same_number_is c d t)) ∙ there_live m c live)
        | false ↦ λ t. elim (at_number m d) as (λ o. name_of_client (option_map (λ x. x) o) ≡ name_of_client o) [ None ↦ refl | Some x ↦ refl ]
      ] refl

  pub listed_log_in : (was now : List ℕ) → is_live_client (at_number m c) ≡ true → IsSet c true was now → IsListed was m
      → IsListed now (set_phase m c (In name))
  listed_log_in was now live set listed = λ d.
      set d
      ∙ elim (same_number c d) as (λ b. (if b then true else has_number was d)
      ≡ is_some (if b then Some name else name_at m d)) [ true ↦ refl | false ↦ listed d ]
      ∙ ap is_some (sym (logged_in_at live d))

  pub agree_log_in : (online : ByName OnlineUser) (online_user : OnlineUser) → is_live_client (at_number m c) ≡ true → name_at m c ≡ None → at_name online name ≡ None
      → online_user.client.number ≡ c → Agree m online → Agree (set_phase m c (In name)) (put_name online name online_user)
  agree_log_in online online_user live nobody free own agree = λ q d.
      ap (λ o. has_number (client_in o) d) (at-put name_cmp name_cmp_total online name online_user q)
      ∙ elim (same_name q name) as (λ b. same_name q name ≡ b
      → has_number (client_in (cond b (Some online_user) (at_name online q))) d
      ≡ is_named (same_name q) (if same_number c d then Some name else name_at m d)) [
        | true ↦ λ t.
            let elsewhere : is_named (same_name q) (name_at m d) ≡ false = sym (agree q d)
            ∙ ap (λ o. has_number (client_in o) d) (ap (at_name online) (same_name_is q name t) ∙ free) in
            ap (λ k. same_number d k || false) own ∙ ap (λ b. b || false) (same_either_way d c)
            ∙ elim (same_number c d) as (λ b. (b || false) ≡ is_named (same_name q) (if b then Some name else name_at m d))
            [ true ↦ sym t | false ↦ sym elsewhere ]
        | false ↦ λ t. agree q d
            ∙ elim (same_number c d) as (λ b. same_number c d ≡ b
            → is_named (same_name q) (name_at m d) ≡ is_named (same_name q) (if b then Some name else name_at m d)) [
              | true ↦ λ u. ap (is_named (same_name q)) (ap (name_at m) (sym (same_number_is c d u)) ∙ nobody) ∙ sym t
              | false ↦ λ u. refl
            ] refl
      ] refl
      ∙ ap (is_named (same_name q)) (sym (logged_in_at live d))

-- a login that was refused memory, of one who was not logged in
pub listed_undone : (m : ByNumber Client) (was now : List ℕ) (c : ℕ) → name_at m c ≡ None → IsSet c false was now → IsListed was m → IsListed now m
listed_undone m was now c nobody set listed = λ d.
    set d
    ∙ elim (same_number c d) as (λ b. same_number c d ≡ b → (if b then false else has_number was d) ≡ is_some (name_at m d)) [
      | true ↦ λ t. sym (ap is_some (ap (name_at m) (sym (same_number_is c d t)) ∙ nobody))
      | false ↦ λ t. listed d
    ] refl

-- the plain users of those who are online
pub users_added : (online : ByName OnlineUser) (name : List ℕ) (online_user : OnlineUser)
    → users_of (put_name online name online_user) ≡ put_name (users_of online) name (plain_user online_user)
users_added online name online_user = map_values-put name_cmp plain_user online name online_user

pub not_online : (online : ByName OnlineUser) (name : List ℕ) → at_name (users_of online) name ≡ None → at_name online name ≡ None
not_online online name none =
    elim (at_name online name) as (λ o. option_map plain_user o ≡ None → o ≡ None) [ None ↦ λ e. refl | Some x ↦ λ e. absurd (cc) ]
    (sym (at-map_values name_cmp plain_user online name) ∙ none)

-- Clients of no worker in particular: nothing that happens looks at whose they are.
use Rattle.std.proofs.Common.{◌≡◌, ℕ, suc, List, [], ◌∷◌, ◌++◌, refl, sym, ap, ◌∙◌, true, false, length}
use Rattle.std.specs.Prelude.{Option, Some, None, if◌then◌else◌, is_some}
use Rattle.std.specs.Option.{option_map}
use Rattle.std.specs.Ordering.{nat_cmp}
use Rattle.std.specs.declared.cmp.Ordering.TheVariants.{Less, Equal, Greater}
use Rattle.std.specs.FinMap.Entries.{by_order}
use Rattle.line_words.specs.Table.{ByNumber, at_number, put_number, without_number, change_number, map_values}
use Rattle.line_words.specs.Table.{same_number}
use Rattle.line_words.proofs.Tables.{map_values-without, map_values-twice, map_values-same}
use Rattle.lobby_model.specs.declared.event.Phase.{Phase}
use Rattle.lobby_model.specs.State.{Client, is_live, is_live_client, name_of_client, in_phase, set_phase}
use Rattle.lobby_model.specs.Battles.{address}
use Rattle.lobby_model.specs.Sessions.{drained, greeted}
use Rattle.lobby_model.specs.Next.{with_batch, has_room_for, put_to, taken_from}
use Rattle.lobby_model.proofs.Delivered.{find-values}

abbrev pub at_home : Client → Client
at_home client = record client { home = 0 }

abbrev pub homed : ByNumber Client → ByNumber Client
homed clients = map_values (λ c client. at_home client) clients

change_homed : (c : ℕ) (f : Client → Client) (m : ByNumber Client) → ((x : Client) → f (at_home x) ≡ at_home (f x))
    → change_number (homed m) c f ≡ homed (change_number m c f)
change_homed c f [] same = refl
change_homed c f (e ∷ m) same = λ i. (
  e.0,
  (elim (same_number c e.0) as (λ b. (if b then f (at_home e.1) else at_home e.1) ≡ at_home (if b then f e.1 else e.1)) [
    | true ↦ same e.1
    | false ↦ refl
  ]) i,
) ∷ change_homed c f m same i

pub phase_homed : (c : ℕ) (phase : Phase) (m : ByNumber Client) → set_phase (homed m) c phase ≡ homed (set_phase m c phase)
phase_homed c phase m = change_homed c (in_phase phase) m (λ x. refl)

pub drain_homed : (c n : ℕ) (m : ByNumber Client)
    → change_number (homed m) c (drained n) ≡ homed (change_number m c (drained n))
drain_homed c n m = change_homed c (drained n) m (λ x. refl)

pub put_homed : (c : ℕ) (ip : List ℕ) (home : ℕ) (m : ByNumber Client)
    → put_number (homed m) c (greeted ip 0) ≡ homed (put_number m c (greeted ip home))
put_homed c ip home [] = refl
put_homed c ip home (e ∷ m) =
    elim (nat_cmp c e.0) as (λ r. by_order r ((c, greeted ip 0) ∷ (e.0, at_home e.1) ∷ homed m)
    ((e.0, greeted ip 0) ∷ homed m) ((e.0, at_home e.1) ∷ put_number (homed m) c (greeted ip 0))
    ≡ homed (by_order r ((c, greeted ip home) ∷ e ∷ m) ((e.0, greeted ip home) ∷ m)
    (e ∷ put_number m c (greeted ip home)))) [
      | Less ↦ refl
      | Equal ↦ refl
      | Greater ↦ ap (λ (es : ByNumber Client). (e.0, at_home e.1) ∷ es) (put_homed c ip home m)
    ]

pub without_homed : (c : ℕ) (m : ByNumber Client) → without_number (homed m) c ≡ homed (without_number m c)
without_homed c m = sym (map_values-without nat_cmp (λ k x. at_home x) m c)

pub length_homed : (m : ByNumber Client) → length (homed m) ≡ length m
length_homed [] = refl
length_homed (e ∷ m) = ap suc (length_homed m)

-- what of a client is not its worker is seen
seen_through : {A : Type 0} (f : Option Client → A) → ((o : Option Client) → f (option_map at_home o) ≡ f o)
    → (m : ByNumber Client) (c : ℕ) → f (at_number (homed m) c) ≡ f (at_number m c)
seen_through f same m c = ap f (find-values (λ k x. at_home x) c m) ∙ same (at_number m c)

pub live_homed : (m : ByNumber Client) (c : ℕ) → is_live_client (at_number (homed m) c) ≡ is_live_client (at_number m c)
live_homed m c = seen_through is_live_client same m c
  where
    same : (o : Option Client) → is_live_client (option_map at_home o) ≡ is_live_client o
    same None = refl
    same (Some x) = refl

pub name_homed : (m : ByNumber Client) (c : ℕ) → name_of_client (at_number (homed m) c) ≡ name_of_client (at_number m c)
name_homed m c = seen_through name_of_client same m c
  where
    same : (o : Option Client) → name_of_client (option_map at_home o) ≡ name_of_client o
    same None = refl
    same (Some x) = refl

pub there_homed : (m : ByNumber Client) (c : ℕ) → is_some (at_number (homed m) c) ≡ is_some (at_number m c)
there_homed m c = seen_through is_some same m c
  where
    same : (o : Option Client) → is_some (option_map at_home o) ≡ is_some o
    same None = refl
    same (Some x) = refl

pub address_homed : (m : ByNumber Client) (c : ℕ) → address (at_number (homed m) c) ≡ address (at_number m c)
address_homed m c = seen_through address same m c
  where
    same : (o : Option Client) → address (option_map at_home o) ≡ address o
    same None = refl
    same (Some x) = refl

pub put_to_homed : (limit : ℕ) (bytes : List ℕ) (m : ByNumber Client) (c : ℕ)
    → put_to limit bytes (at_number (homed m) c) ≡ put_to limit bytes (at_number m c)
put_to_homed limit bytes m c = seen_through (put_to limit bytes) same m c
  where
    same : (o : Option Client) → put_to limit bytes (option_map at_home o) ≡ put_to limit bytes o
    same None = refl
    same (Some x) = refl

pub taken_homed : (n : ℕ) (m : ByNumber Client) (c : ℕ)
    → taken_from n (at_number (homed m) c) ≡ taken_from n (at_number m c)
taken_homed n m c = seen_through (taken_from n) same m c
  where
    same : (o : Option Client) → taken_from n (option_map at_home o) ≡ taken_from n o
    same None = refl
    same (Some x) = refl

batch_homed : (limit : ℕ) (bytes : List ℕ) (x : Client)
    → with_batch limit bytes (at_home x) ≡ at_home (with_batch limit bytes x)
batch_homed limit bytes x =
    elim (is_live x) as (λ live. (if live then (if has_room_for limit x bytes
    then record (at_home x) { unread = x.unread ++ bytes } else record (at_home x) { cut = true; unread = [] })
    else at_home x)
    ≡ at_home (if live then (if has_room_for limit x bytes then record x { unread = x.unread ++ bytes }
    else record x { cut = true; unread = [] }) else x)) [
      | true ↦ elim (has_room_for limit x bytes) as (λ room. (if room then record (at_home x) { unread = x.unread ++ bytes }
          else record (at_home x) { cut = true; unread = [] })
          ≡ at_home (if room then record x { unread = x.unread ++ bytes } else record x { cut = true; unread = [] })) [
            | true ↦ refl
            | false ↦ refl
          ]
      | false ↦ refl
    ]

pub delivered_homed : (limit : ℕ) (bytes : ℕ → List ℕ) (m : ByNumber Client)
    → map_values (λ c x. with_batch limit (bytes c) x) (homed m)
    ≡ homed (map_values (λ c x. with_batch limit (bytes c) x) m)
delivered_homed limit bytes m =
    let put : ℕ → Client → Client = λ c x. with_batch limit (bytes c) x in
    let homes : ℕ → Client → Client = λ c x. at_home x in
    map_values-twice homes put m
    ∙ map_values-same (λ c x. put c (homes c x)) (λ c x. homes c (put c x)) m (λ c x. batch_homed limit (bytes c) x)
    ∙ sym (map_values-twice put homes m)

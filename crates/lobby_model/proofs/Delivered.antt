-- What a delivery makes of the clients: nothing of those who get nothing, and of one who gets something his entry.
use Rattle.std.proofs.Common.{◌≡◌, ℕ, List, [], ◌∷◌, ◌++◌, refl, sym, ap, ◌∙◌, true, false, cond, T, append-nil}
use Rattle.std.specs.Prelude.{Option, Some, None, ◌&&◌, if◌then◌else◌}
use Rattle.std.specs.Ordering.{nat_cmp, is_eq}
use Rattle.std.specs.FinMap.{nat_cmp-IsAntisymmetric}
use Rattle.std.specs.Option.{option_map}
use Rattle.std.specs.Cmp.{nat_cmp_total, tied_itself}
use Rattle.std.specs.FinMap.Entries.{is_sorted, find-put, is_sorted-put, same_entries}
use Rattle.line_words.proofs.Tables.{Equal_of, is_sorted-map_values, at-map_values_keyed}
use Rattle.line_words.specs.Table.{ByNumber, at_number, put_number, map_values, same_number}
use Rattle.lobby_model.specs.declared.event.Event.{Event}
use Rattle.lobby_model.specs.State.{State, Client, is_live}
use Rattle.lobby_model.specs.Events.{effect}
use Rattle.lobby_model.specs.Next.{next, batch, put_to, with_batch, has_room_for}

-- no byte is put of an empty batch
pub put_nothing : (limit : ℕ) (o : Option Client) → put_to limit [] o ≡ []
put_nothing limit None = refl
put_nothing limit (Some x) = elim (is_live x && has_room_for limit x []) as (λ b. ◌≡◌ {A = List ℕ} (if b then [] else []) []) [ true ↦ refl | false ↦ refl ]

pub with_batch_nil : (limit : ℕ) (client : Client) → with_batch limit [] client ≡ client
with_batch_nil limit client =
    ap (λ bytes. if is_live client then record client { unread = bytes } else client) (append-nil client.unread)
    ∙ elim (is_live client) as (λ b. (if b then client else client) ≡ client) [ true ↦ refl | false ↦ refl ]

-- nothing is put to one that is not live
pub dead : (limit : ℕ) (bytes : List ℕ) (client : Client) → is_live client ≡ false → with_batch limit bytes client ≡ client
dead limit bytes client e =
    ap (λ b. if b then (if has_room_for limit client bytes then record client { unread = client.unread ++ bytes } else record client { cut = true; unread = [] }) else client) e

pub same_number_is : (a b : ℕ) → same_number a b ≡ true → a ≡ b
same_number_is a b e = nat_cmp-IsAntisymmetric a b (Equal_of _ e)

pub same_itself : (k : ℕ) → same_number k k ≡ true
same_itself k = ap is_eq (tied_itself nat_cmp_total k)

-- over the values of a map
pub is_sorted-values : {X Y : Type 0} (f : ℕ → X → Y) (m : ByNumber X) → T (is_sorted nat_cmp m) → T (is_sorted nat_cmp (map_values f m))
is_sorted-values f m h = is_sorted-map_values nat_cmp f m h

pub find-values : {X Y : Type 0} (f : ℕ → X → Y) (q : ℕ) (m : ByNumber X) → at_number (map_values f m) q ≡ option_map (f q) (at_number m q)
find-values f q m = at-map_values_keyed nat_cmp nat_cmp-IsAntisymmetric f m q

-- a delivery adds and removes no client
pub delivered_at : (s : State) (e : Event) (c : ℕ) → at_number (next s e).clients c ≡ option_map (with_batch s.settings.outbox_limit (batch s e c)) (at_number (effect s e).clients c)
delivered_at s e c = find-values (λ d x. with_batch s.settings.outbox_limit (batch s e d) x) c (effect s e).clients

pub map_values_one : {X : Type 0} (f : ℕ → X → X) (m : ByNumber X) (k : ℕ) (x : X) → T (is_sorted nat_cmp m) → at_number m k ≡ Some x → ((d : ℕ) (y : X) → same_number d k ≡ false → f d y ≡ y)
    → map_values f m ≡ put_number m k (f k x)
map_values_one f m k x h found others =
    same_entries nat_cmp nat_cmp_total nat_cmp-IsAntisymmetric _ _ (is_sorted-values f m h) (is_sorted-put nat_cmp nat_cmp_total k _ m h)
    (λ q. find-values f q m
    ∙ elim (same_number q k) as (λ b. same_number q k ≡ b → option_map (f q) (at_number m q) ≡ cond b (Some (f k x)) (at_number m q)) [
      | true ↦ λ t. ap (λ d. option_map (f d) (at_number m d)) (same_number_is q k t) ∙ ap (option_map (f k)) found
      | false ↦ λ t. elim (at_number m q) as (λ o. option_map (f q) o ≡ o) [ None ↦ refl | Some y ↦ ap (λ z. Some z) (others q y t) ]
    ] refl
    ∙ sym (find-put nat_cmp nat_cmp_total q k (f k x) m))

pub map_values_none : {X : Type 0} (f : ℕ → X → X) (m : ByNumber X) → ((d : ℕ) (y : X) → f d y ≡ y) → map_values f m ≡ m
map_values_none f [] same = refl
map_values_none f (e ∷ m) same = λ i. (e.0, same e.0 e.1 i) ∷ map_values_none f m same i

-- one event that sends nothing to anyone
pub put_put : {X : Type 0} (k : ℕ) (v w : X) (m : ByNumber X) → T (is_sorted nat_cmp m) → put_number (put_number m k v) k w ≡ put_number m k w
put_put k v w m h = Rattle.line_words.proofs.Tables.put-put nat_cmp nat_cmp_total nat_cmp-IsAntisymmetric k v w m h

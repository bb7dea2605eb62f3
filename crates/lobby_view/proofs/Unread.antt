-- Clients with the unread bytes of some of them blotted out, so that only their number is left to see.
use Rattle.std.proofs.Common.{◌≡◌, ℕ, zero, suc, ◌+◌, List, [], ◌∷◌, ◌++◌, refl, sym, ap, ◌∙◌, Bool, true, false, length}
use Rattle.std.specs.Prelude.{Option, Some, None, map, drop, if◌then◌else◌, ◌&&◌, ◌||◌, nat_le}
use Rattle.std.specs.Option.{option_map}
use Rattle.std.specs.Ordering.{nat_cmp}
use Rattle.std.specs.declared.cmp.Ordering.TheVariants.{Less, Equal, Greater}
use Rattle.std.specs.FinMap.Entries.{by_order}
use Rattle.line_words.specs.Table.{ByNumber, at_number, put_number, without_number, change_number, map_values, same_number}
use Rattle.line_words.proofs.Tables.{map_values-without, map_values-twice, map_values-same}
use Rattle.lobby_model.specs.declared.event.Phase.{Phase}
use Rattle.lobby_model.specs.State.{State, Client, is_live, is_live_client, name_of_client, in_phase, set_phase, hears, name_of}
use Rattle.lobby_model.specs.Battles.{address}
use Rattle.lobby_model.specs.Sessions.{drained, greeted}
use Rattle.lobby_model.specs.Next.{with_batch, has_room_for, is_empty, put_to}
use Rattle.lobby_model.proofs.Delivered.{find-values}

-- as many bytes, all of them zero
abbrev pub blots : List ℕ → List ℕ
blots bytes = map (λ b. 0) bytes

abbrev pub blotted : Bool → List ℕ → List ℕ
blotted b bytes = if b then blots bytes else bytes

abbrev pub hide : Bool → Client → Client
hide b client = record client { unread = blotted b client.unread }

-- who: of which clients the unread bytes are blotted out
abbrev pub hidden : (ℕ → Bool) → ByNumber Client → ByNumber Client
hidden who clients = map_values (λ c client. hide (who c) client) clients

abbrev pub masked : (ℕ → Bool) → State → State
masked who s = record s { clients = hidden who s.clients }

-- a client that has room gets a batch; one that has none is cut
abbrev put_or_cut : Bool → List ℕ → Client → Client
put_or_cut has_room bytes client = if has_room then record client { unread = client.unread ++ bytes } else record client { cut = true; unread = [] }

-- bytes
blots_twice : (xs ys : List ℕ) → blots (blots xs ++ ys) ≡ blots (xs ++ ys)
blots_twice [] ys = refl
blots_twice (x ∷ xs) ys = ap (λ bs. 0 ∷ bs) (blots_twice xs ys)

blots_again : (xs : List ℕ) → blots (blots xs) ≡ blots xs
blots_again [] = refl
blots_again (x ∷ xs) = ap (λ bs. 0 ∷ bs) (blots_again xs)

blots_length : (xs : List ℕ) → length (blots xs) ≡ length xs
blots_length [] = refl
blots_length (x ∷ xs) = ap suc (blots_length xs)

blots_drop : (n : ℕ) (xs : List ℕ) → drop n (blots xs) ≡ blots (drop n xs)
blots_drop zero xs = refl
blots_drop (suc n) [] = refl
blots_drop (suc n) (x ∷ xs) = blots_drop n xs

blotted_length : (b : Bool) (xs : List ℕ) → length (blotted b xs) ≡ length xs
blotted_length true xs = blots_length xs
blotted_length false xs = refl

blots_alike : (front xs ys : List ℕ) → length xs ≡ length ys → blots (front ++ xs) ≡ blots (front ++ ys)
blots_alike [] [] [] e = refl
blots_alike [] [] (y ∷ ys) e = absurd (cc)
blots_alike [] (x ∷ xs) [] e = absurd (cc)
blots_alike [] (x ∷ xs) (y ∷ ys) e = ap (λ bs. 0 ∷ bs) (blots_alike [] xs ys (cc))
blots_alike (b ∷ front) xs ys e = ap (λ bs. 0 ∷ bs) (blots_alike front xs ys e)

pub empty_alike : (xs ys : List ℕ) → length xs ≡ length ys → is_empty xs ≡ is_empty ys
empty_alike [] [] e = refl
empty_alike [] (y ∷ ys) e = absurd (cc)
empty_alike (x ∷ xs) [] e = absurd (cc)
empty_alike (x ∷ xs) (y ∷ ys) e = refl

-- maps by number
module _ {X : Type 0} (g : ℕ → X → X) where
  change_values : (c : ℕ) (f : X → X) (m : ByNumber X) → ((k : ℕ) (x : X) → f (g k x) ≡ g k (f x))
      → change_number (map_values g m) c f ≡ map_values g (change_number m c f)
  change_values c f [] same = refl
  change_values c f (e ∷ m) same = λ i. (
    e.0,
    (elim (same_number c e.0) as (λ b. (if b then f (g e.0 e.1) else g e.0 e.1) ≡ g e.0 (if b then f e.1 else e.1)) [
      | true ↦ same e.0 e.1
      | false ↦ refl
    ]) i,
  ) ∷ change_values c f m same i

  put_values : (c : ℕ) (v : X) (m : ByNumber X) → ((k : ℕ) → v ≡ g k v) → put_number (map_values g m) c v ≡ map_values g (put_number m c v)
  put_values c v [] same = λ i. (c, same c i) ∷ []
  put_values c v (e ∷ m) same =
      elim (nat_cmp c e.0) as (λ r. by_order r ((c, v) ∷ (e.0, g e.0 e.1) ∷ map_values g m) ((e.0, v) ∷ map_values g m)
      ((e.0, g e.0 e.1) ∷ put_number (map_values g m) c v) ≡ map_values g (by_order r ((c, v) ∷ e ∷ m) ((e.0, v) ∷ m) (e ∷ put_number m c v))) [
        | Less ↦ λ i. (c, same c i) ∷ (e.0, g e.0 e.1) ∷ map_values g m
        | Equal ↦ λ i. (e.0, same e.0 i) ∷ map_values g m
        | Greater ↦ ap (λ es. (e.0, g e.0 e.1) ∷ es) (put_values c v m same)
      ]

  length_values : (m : ByNumber X) → length (map_values g m) ≡ length m
  length_values [] = refl
  length_values (e ∷ m) = ap suc (length_values m)

-- one client
room_hidden : (b : Bool) (limit : ℕ) (bytes : List ℕ) (x : Client) → has_room_for limit (hide b x) bytes ≡ has_room_for limit x bytes
room_hidden b limit bytes x = ap (λ n. is_empty bytes || nat_le (n + length bytes) limit) (blotted_length b x.unread)

drained_hidden : (n : ℕ) (b : Bool) (x : Client) → drained n (hide b x) ≡ hide b (drained n x)
drained_hidden n true x = ap (λ bytes. record x { unread = bytes }) (blots_drop n x.unread)
drained_hidden n false x = refl

hide_again : (b : Bool) (x : Client) → hide b (hide b x) ≡ hide b x
hide_again true x = ap (λ bytes. record x { unread = bytes }) (blots_again x.unread)
hide_again false x = refl

put_hidden_again : (b has_room : Bool) (bytes : List ℕ) (x : Client)
    → hide b (put_or_cut has_room bytes (hide b x)) ≡ hide b (put_or_cut has_room bytes x)
put_hidden_again true true bytes x = ap (λ bs. record x { unread = bs }) (blots_twice x.unread bytes)
put_hidden_again true false bytes x = refl
put_hidden_again false has_room bytes x = refl

-- a batch to a client that is hidden already
batch_hidden : (b : Bool) (limit : ℕ) (bytes : List ℕ) (x : Client) → hide b (with_batch limit bytes (hide b x)) ≡ hide b (with_batch limit bytes x)
batch_hidden b limit bytes x =
    elim (is_live x) as (λ live. hide b (if live then put_or_cut (has_room_for limit (hide b x) bytes) bytes (hide b x) else hide b x)
    ≡ hide b (if live then put_or_cut (has_room_for limit x bytes) bytes x else x)) [
      | true ↦ ap (λ has_room. hide b (put_or_cut has_room bytes (hide b x))) (room_hidden b limit bytes x)
          ∙ put_hidden_again b (has_room_for limit x bytes) bytes x
      | false ↦ hide_again b x
    ]

put_alike : (has_room : Bool) (xs ys : List ℕ) (x : Client) → length xs ≡ length ys
    → hide true (put_or_cut has_room xs x) ≡ hide true (put_or_cut has_room ys x)
put_alike true xs ys x long = ap (λ bs. record x { unread = bs }) (blots_alike x.unread xs ys long)
put_alike false xs ys x long = refl

pub room_alike : (limit : ℕ) (xs ys : List ℕ) (x : Client) → length xs ≡ length ys → has_room_for limit x xs ≡ has_room_for limit x ys
room_alike limit xs ys x long = λ i. empty_alike xs ys long i || nat_le (length x.unread + long i) limit

-- two batches of one length to a client, which are equal where it is not hidden
batch_alike : (b : Bool) (limit : ℕ) (xs ys : List ℕ) (x : Client) → length xs ≡ length ys → (b ≡ false → xs ≡ ys)
    → hide b (with_batch limit xs x) ≡ hide b (with_batch limit ys x)
batch_alike false limit xs ys x long same = ap (λ bs. with_batch limit bs x) (same refl)
batch_alike true limit xs ys x long same =
    elim (is_live x) as (λ live. hide true (if live then put_or_cut (has_room_for limit x xs) xs x else x)
    ≡ hide true (if live then put_or_cut (has_room_for limit x ys) ys x else x)) [
      | true ↦ ap (λ has_room. hide true (put_or_cut has_room xs x)) (room_alike limit xs ys x long) ∙ put_alike (has_room_for limit x ys) xs ys x long
      | false ↦ refl
    ]

-- all clients
module _ (who : ℕ → Bool) where
  pub put_hidden : (c : ℕ) (ip : List ℕ) (home : ℕ) (m : ByNumber Client)
      → put_number (hidden who m) c (greeted ip home) ≡ hidden who (put_number m c (greeted ip home))
  put_hidden c ip home m = put_values _ c (greeted ip home) m (λ k. same (who k))
    where
      same : (b : Bool) → greeted ip home ≡ hide b (greeted ip home)
      same true = refl
      same false = refl

  pub phase_hidden : (c : ℕ) (phase : Phase) (m : ByNumber Client) → set_phase (hidden who m) c phase ≡ hidden who (set_phase m c phase)
  phase_hidden c phase m = change_values _ c (in_phase phase) m (λ k x. refl)

  pub drain_hidden : (c n : ℕ) (m : ByNumber Client) → change_number (hidden who m) c (drained n) ≡ hidden who (change_number m c (drained n))
  drain_hidden c n m = change_values _ c (drained n) m (λ k x. drained_hidden n (who k) x)

  pub without_hidden : (c : ℕ) (m : ByNumber Client) → without_number (hidden who m) c ≡ hidden who (without_number m c)
  without_hidden c m = sym (map_values-without nat_cmp (λ k x. hide (who k) x) m c)

  pub length_hidden : (m : ByNumber Client) → length (hidden who m) ≡ length m
  length_hidden m = length_values _ m

  -- what of a client is not its unread bytes is seen
  seen_through : {A : Type 0} (f : Option Client → A) → ((b : Bool) (o : Option Client) → f (option_map (hide b) o) ≡ f o)
      → (m : ByNumber Client) (c : ℕ) → f (at_number (hidden who m) c) ≡ f (at_number m c)
  seen_through f same m c = ap f (find-values (λ k x. hide (who k) x) c m) ∙ same (who c) (at_number m c)

  pub hears_hidden : (s : State) (c : ℕ) → hears (masked who s) c ≡ hears s c
  hears_hidden s c = seen_through is_live_client same s.clients c
    where
      same : (b : Bool) (o : Option Client) → is_live_client (option_map (hide b) o) ≡ is_live_client o
      same b None = refl
      same b (Some x) = refl

  pub name_hidden : (s : State) (c : ℕ) → name_of (masked who s) c ≡ name_of s c
  name_hidden s c = seen_through name_of_client same s.clients c
    where
      same : (b : Bool) (o : Option Client) → name_of_client (option_map (hide b) o) ≡ name_of_client o
      same b None = refl
      same b (Some x) = refl

  pub address_hidden : (s : State) (c : ℕ) → address (at_number (hidden who s.clients) c) ≡ address (at_number s.clients c)
  address_hidden s c = seen_through address same s.clients c
    where
      same : (b : Bool) (o : Option Client) → address (option_map (hide b) o) ≡ address o
      same b None = refl
      same b (Some x) = refl

  pub put_to_hidden : (limit : ℕ) (bytes : List ℕ) (m : ByNumber Client) (c : ℕ)
      → put_to limit bytes (at_number (hidden who m) c) ≡ put_to limit bytes (at_number m c)
  put_to_hidden limit bytes m c = seen_through (put_to limit bytes) same m c
    where
      same : (b : Bool) (o : Option Client) → put_to limit bytes (option_map (hide b) o) ≡ put_to limit bytes o
      same b None = refl
      same b (Some x) = ap (λ has_room. if is_live x && has_room then bytes else []) (room_hidden b limit bytes x)

  -- a delivery to clients that are hidden already
  pub delivered_hidden : (limit : ℕ) (bytes : ℕ → List ℕ) (m : ByNumber Client)
      → hidden who (map_values (λ c x. with_batch limit (bytes c) x) (hidden who m)) ≡ hidden who (map_values (λ c x. with_batch limit (bytes c) x) m)
  delivered_hidden limit bytes m =
      let put : ℕ → Client → Client = λ c x. with_batch limit (bytes c) x in
      let hides : ℕ → Client → Client = λ c x. hide (who c) x in
      ap (hidden who) (map_values-twice hides put m)
      ∙ map_values-twice (λ c x. put c (hides c x)) hides m
      ∙ map_values-same (λ c x. hides c (put c (hides c x))) (λ c x. hides c (put c x)) m (λ c x. batch_hidden (who c) limit (bytes c) x)
      ∙ sym (map_values-twice put hides m)

  -- two deliveries of batches of one length, which are equal for clients that are not hidden
  pub delivered_alike : (limit : ℕ) (xs ys : ℕ → List ℕ) (m : ByNumber Client)
      → ((c : ℕ) → length (xs c) ≡ length (ys c)) → ((c : ℕ) → who c ≡ false → xs c ≡ ys c)
      → hidden who (map_values (λ c x. with_batch limit (xs c) x) m) ≡ hidden who (map_values (λ c x. with_batch limit (ys c) x) m)
  delivered_alike limit xs ys m long same =
      let hides : ℕ → Client → Client = λ c x. hide (who c) x in
      map_values-twice (λ c x. with_batch limit (xs c) x) hides m
      ∙ map_values-same (λ c x. hides c (with_batch limit (xs c) x)) (λ c x. hides c (with_batch limit (ys c) x)) m
      (λ c x. batch_alike (who c) limit (xs c) (ys c) x (long c) (same c))
      ∙ sym (map_values-twice (λ c x. with_batch limit (ys c) x) hides m)

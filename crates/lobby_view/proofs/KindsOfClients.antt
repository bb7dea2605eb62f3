-- What is known of clients: their addresses print as words, and they are at most 10,000. So no channel has more names.
use Rattle.std.proofs.Common.{◌≡◌, ℕ, ◌≤◌, ◌+◌, ◌<◌, List, [], ◌∷◌, ◌++◌, refl, sym, ap, subst, ◌∙◌, Bool, true, false, cond, not, length, T, inl, inr, arith}
use Rattle.std.specs.Prelude.{Some, None, map, filter, ◌||◌, nat_lt, is_some, if◌then◌else◌}
use Rattle.std.proofs.lemmas.Option.{same_Some}
use Rattle.std.proofs.lemmas.Bool.{and_parts, ltb-true}
use Rattle.std.specs.List.{IsDistinct}
use Rattle.std.specs.Ordering.{nat_cmp}
use Rattle.std.specs.Cmp.{nat_cmp_total}
use Rattle.std.specs.FinMap.{nat_cmp-IsAntisymmetric}
use Rattle.std.specs.FinMap.Entries.{is_sorted, length_without, length-put}
use Rattle.line_words.specs.Table.{ByNumber, at, at_number, put_number, without_number, change_number, name_cmp, same_name, same_number, is_among, map_values}
use Rattle.line_words.proofs.Tables.{both_first, both_second, Equal_of, find_before, name_cmp_total, same_name_itself, at-without, is_sorted-without}
use Rattle.lobby_model.specs.declared.event.Event.{Event}
use Rattle.lobby_model.specs.declared.event.Event.TheVariants as event
use Rattle.lobby_model.specs.State.{State, Client, name_of, name_at, name_of_client, in_phase, is_live}
use Rattle.lobby_model.specs.Outcome.{state_after}
use Rattle.lobby_model.specs.Sessions.{drained, greeted, disconnects, has_place}
use Rattle.lobby_model.specs.Events.{effect}
use Rattle.lobby_model.specs.Next.{next, batch, with_batch, has_room_for}
use Rattle.lobby_model.specs.Sound.{Sound}
use Rattle.lobby_model.proofs.Decided.{opening}
use Rattle.lobby_model.proofs.Delivered.{same_number_is}
use Rattle.lobby_model.proofs.Inside.{departed}
use Rattle.lobby_model.proofs.Origins.{says}
use Rattle.line_words.proofs.Once.{contradiction}
use Rattle.lobby_view.proofs.Everywhere.{Each, each_put, each_change, each_filter}
use Rattle.lobby_view.proofs.SoundEvents.{IsShort, SoundEvent}
use Rattle.lobby_view.proofs.Distinct.{first_apart}
use Rattle.lobby_view.proofs.StatusWords.{word_fits}
use Rattle.lobby_view.proofs.KindsAnswered.{CountFits}

abbrev pub IsAddressed : ℕ × Client → Type 0
IsAddressed e = IsShort e.1.ip

pub record ClientKinds (clients : ByNumber Client) : Type 0 where
  pub addressed : Each IsAddressed clients
  pub few : length clients ≤ 10000

-- each name has a client of its own
found_some : (m : ByNumber Client) (c : ℕ) (u : List ℕ) → name_at m c ≡ Some u → is_some (at_number m c) ≡ true
found_some m c u e = elim (at_number m c) as (λ o. name_of_client o ≡ Some u → is_some o ≡ true) [ None ↦ λ f. absurd (cc) | Some x ↦ λ f. refl ] e

one_fewer : (m : ByNumber Client) (c : ℕ) (u : List ℕ) → T (is_sorted nat_cmp m) → name_at m c ≡ Some u → 1 + length (without_number m c) ≡ length m
one_fewer m c u h e =
    ap (λ b. cond b 1 0 + length (without_number m c)) (sym (found_some m c u e)) ∙ length_without nat_cmp nat_cmp_total c m h

bear_one_name : (u w : List ℕ) (m : ByNumber Client) (c d : ℕ) → name_at m c ≡ Some u → name_at m d ≡ Some w → same_number c d ≡ true → u ≡ w
bear_one_name u w m c d own other same = same_Some u w (sym own ∙ ap (name_at m) (same_number_is c d same) ∙ other)

-- a list of names that differ, each of them a client's, is no longer than the clients are many
as_many_clients : (names : List (List ℕ)) (m : ByNumber Client) → T (is_sorted nat_cmp m) → IsDistinct same_name names
    → ((u : List ℕ) → is_among u names ≡ true → (c : ℕ) × (name_at m c ≡ Some u)) → length names ≤ length m
as_many_clients [] m h d has = omega arith
as_many_clients (u ∷ rest) m h d has =
    let its = has u (ap (λ b. b || is_among u rest) (same_name_itself u)) in
    let apart = first_apart u rest d in
    let fewer : 1 + length (without_number m its.0) ≡ length m = one_fewer m its.0 u h its.1 in
    let others : length rest ≤ length (without_number m its.0) =
    as_many_clients rest (without_number m its.0) (is_sorted-without nat_cmp nat_cmp_total m its.0 h) apart.1
    (λ w in_rest.
    let there = has w (elim (same_name w u) as (λ b. (b || is_among w rest) ≡ true) [ true ↦ refl | false ↦ in_rest ]) in
    (there.0, ap name_of_client (at-without nat_cmp nat_cmp_total m its.0 there.0) ∙ still its.0 there.0 w its.1 there.1 apart.0 in_rest)) in
    omega arith
  where
    still : (c e : ℕ) (w : List ℕ) → name_at m c ≡ Some u → name_at m e ≡ Some w → is_among u rest ≡ false → is_among w rest ≡ true
        → name_of_client (cond (not (same_number c e)) (at_number m e) None) ≡ Some w
    still c e w own other out in_rest =
        elim (same_number c e) as (λ b. same_number c e ≡ b → name_of_client (cond (not b) (at_number m e) None) ≡ Some w) [
          | true ↦ λ t. contradiction (is_among u rest) (ap (λ x. is_among x rest) (bear_one_name u w m c e own other t) ∙ in_rest) out
          | false ↦ λ t. other
        ] refl

first_at : {X : Type 0} (e : List ℕ × X) (m : List (List ℕ × X)) → at name_cmp (e ∷ m) e.0 ≡ Some e.1
first_at e m = ap (λ b. if b then Some e.1 else at name_cmp m e.0) (same_name_itself e.0)

later_at : {X : Type 0} (e : List ℕ × X) (m : List (List ℕ × X)) (q : List ℕ) (x : X) → T (is_sorted name_cmp (e ∷ m)) → at name_cmp m q ≡ Some x
    → at name_cmp (e ∷ m) q ≡ Some x
later_at e m q x h there =
    elim (same_name q e.0) as (λ b. same_name q e.0 ≡ b → (if b then Some e.1 else at name_cmp m q) ≡ Some x) [
      | true ↦ λ t. absurd (let none = find_before name_cmp name_cmp_total e.0 q m (Equal_of _ t) (both_first _ _ h) in cc)
      | false ↦ λ t. there
    ] refl

-- what holds at each key holds of each entry
each_of_found : {X : Type 0} (P : List ℕ × X → Type 0) (m : List (List ℕ × X)) → T (is_sorted name_cmp m)
    → ((q : List ℕ) (x : X) → at name_cmp m q ≡ Some x → P (q, x)) → Each P m
each_of_found P [] h p = tt
each_of_found P (e ∷ m) h p = (
  p e.0 e.1 (first_at e m),
  each_of_found P m (both_second _ _ h) (λ q x there. p q x (later_at e m q x h there)),
)

-- the counts of channels are of 32 bits
pub counts_fit : (s : State) → Sound s → ClientKinds s.clients → Each CountFits s.channels
counts_fit s sound known =
    each_of_found CountFits s.channels sound.channels.in_order
    (λ channel names there.
    let its = sound.channels.each channel names there in
    let few = as_many_clients names s.clients sound.clients.in_order its.once
    (λ u in_it. sound.clients.one_for_each.has_client u (its.are_users u in_it)) in
    let most = known.few in
    word_fits (length names) (omega arith))

-- an event keeps what is known of clients
length_mapped : {X Y : Type 0} (f : X → Y) (m : List X) → length (map f m) ≡ length m
length_mapped f [] = refl
length_mapped f (e ∷ m) = let rest = length_mapped f m in omega arith

length_filtered : {X : Type 0} (p : X → Bool) (m : List X) → length (filter p m) ≤ length m
length_filtered p [] = omega arith
length_filtered p (e ∷ m) =
    let rest = length_filtered p m in
    elim (p e) as (λ b. length (if b then e ∷ filter p m else filter p m) ≤ length (e ∷ m)) [ true ↦ omega arith | false ↦ omega arith ]

changed : (c : ℕ) (f : Client → Client) → ((x : Client) → (f x).ip ≡ x.ip) → (m : ByNumber Client) → ClientKinds m → ClientKinds (change_number m c f)
changed c f same m k = record {
  addressed = each_change nat_cmp nat_cmp-IsAntisymmetric IsAddressed c f m k.addressed
      (λ e h. subst IsShort (sym (same e.1)) h);
  few = subst (λ n. n ≤ 10000) (sym (length_mapped (λ e. (e.0, if same_number c e.0 then f e.1 else e.1)) m)) k.few;
}

removed : (c : ℕ) (m : ByNumber Client) → ClientKinds m → ClientKinds (without_number m c)
removed c m k = record {
  addressed = each_filter IsAddressed _ m k.addressed;
  few = (let fewer = length_filtered (λ (e : ℕ × Client). not (same_number c e.0)) m in let most = k.few in omega arith);
}

added : (c : ℕ) (x : Client) (m : ByNumber Client) → T (is_sorted nat_cmp m) → IsAddressed (c, x) → length m < 10000 → ClientKinds m
    → ClientKinds (put_number m c x)
added c x m in_order addressed place k = record {
  addressed = each_put nat_cmp nat_cmp-IsAntisymmetric IsAddressed c x m k.addressed addressed;
  few = subst (λ n. n ≤ 10000) (sym (length-put nat_cmp nat_cmp_total c x m in_order))
      (elim (is_some (at_number m c)) as (λ b. cond b (length m) (length m + 1) ≤ 10000) [ true ↦ k.few | false ↦ omega arith ]);
}

module _ (s : State) (sound : Sound s) (k : ClientKinds s.clients) where
  opened_clients : (ip : List ℕ) (home : ℕ) → IsShort ip → ClientKinds (effect s (event.Open ip home)).clients
  opened_clients ip home addressed =
      elim (has_place s) as (λ b. has_place s ≡ b → ClientKinds (state_after s (opening s ip home b)).clients) [
        | true ↦ λ place.
            let room = (and_parts (nat_lt (length s.clients) 10000) (nat_lt s.last_client 18446744073709551615) place).0 in
            added (s.last_client + 1) (greeted ip home) s.clients sound.clients.in_order addressed (ltb-true (length s.clients) 10000 room) k
        | false ↦ λ place. k
      ] refl

  pub effect_clients : (e : Event) → SoundEvent e → ClientKinds (effect s e).clients
  effect_clients (event.Open ip home) fair = opened_clients ip home fair
  effect_clients (event.Say c request) fair =
      elim ((says s c request).clients) as (λ way. ClientKinds (effect s (event.Say c request)).clients) [
        | inl same ↦ subst ClientKinds (sym same) k
        | inr phased ↦ subst ClientKinds (sym phased.1) (changed c (in_phase phased.0) (λ x. refl) s.clients k)
      ]
  effect_clients (event.Shut c) fair =
      subst (λ (t : State). ClientKinds t.clients) (sym (departed s (name_of s c) (disconnects c))) (removed c s.clients k)
  effect_clients (event.Drain c n) fair = changed c (drained n) (λ x. refl) s.clients k

-- lines that are put change no address
put_or_cut : (limit : ℕ) (bytes : List ℕ) (client : Client) (room : Bool)
    → (if room then record client { unread = client.unread ++ bytes } else record client { cut = true; unread = [] }).ip ≡ client.ip
put_or_cut limit bytes client true = refl
put_or_cut limit bytes client false = refl

same_ip : (limit : ℕ) (bytes : List ℕ) (client : Client) → (with_batch limit bytes client).ip ≡ client.ip
same_ip limit bytes client =
    elim (is_live client) as (λ live. (if live
    then (if has_room_for limit client bytes then record client { unread = client.unread ++ bytes } else record client { cut = true; unread = [] })
    else client).ip ≡ client.ip) [
      | true ↦ put_or_cut limit bytes client (has_room_for limit client bytes)
      | false ↦ refl
    ]

delivered_addressed : (limit : ℕ) (bytes : ℕ → List ℕ) (m : ByNumber Client) → Each IsAddressed m
    → Each IsAddressed (map_values (λ c client. with_batch limit (bytes c) client) m)
delivered_addressed limit bytes [] h = tt
delivered_addressed limit bytes (e ∷ m) h =
    (subst IsShort (sym (same_ip limit (bytes e.0) e.1)) h.0, delivered_addressed limit bytes m h.1)

pub next_clients : (s : State) (e : Event) → ClientKinds (effect s e).clients → ClientKinds (next s e).clients
next_clients s e k = record {
  addressed = delivered_addressed s.settings.outbox_limit (batch s e) (effect s e).clients k.addressed;
  few = subst (λ n. n ≤ 10000) (sym (length_mapped (λ c. (c.0, with_batch s.settings.outbox_limit (batch s e c.0) c.1)) (effect s e).clients)) k.few;
}

-- From what a delivery appends to the lists, to the lists after the event.
use Rattle.std.proofs.Common.{◌≡◌, ℕ, List, [], ◌++◌, refl, sym, ap, ◌∙◌, Bool, true, false, not, arith}
use Rattle.std.specs.Prelude.{Option, Some, None, is_some, ◌&&◌, if◌then◌else◌}
use Rattle.std.specs.Option.{option_map}
use Rattle.std.specs.Ordering.{nat_cmp}
use Rattle.std.specs.BTreeMap.{is_at}
use Rattle.std.specs.Map.{lookup}
use Rattle.std.proofs.lemmas.List.{append-nil}
use Rattle.line_words.specs.Table.{ByNumber, at_number, same_number}
use Rattle.line_words.proofs.Tables.{lookup_is_find}
use Rattle.lobby_model.specs.declared.event.Event.{Event}
use Rattle.lobby_model.specs.State.{State, Client, is_live}
use Rattle.lobby_model.specs.Events.{effect}
use Rattle.lobby_model.specs.Next.{batch, next, with_batch}
use Rattle.lobby_model.proofs.Delivered.{delivered_at, find-values}
use Rattle.lobby_model.proofs.Quiet.{touched_is}
use Rattle.lobby_model.specs.Touched.{is_touched}
use Rattle.lobby_post.specs.Mail.{Mailbox, plain}
use Rattle.lobby_post.specs.Crowd.{Crowd, Known, waits}
use Rattle.lobby_post.specs.Posted.{Posted, has_number}
use Rattle.lobby_post.specs.Dirty.{IsNewly, news, news_of}
use Rattle.lobby_post.proofs.Parcels.{touched_alike}
use Rattle.lobby_maps.specs.Changes.{Matches}
use Rattle.lobby_maps.specs.Dirty.{DirtyAfter, changes, is_changed, those_there}
use Rattle.lobby_maps.proofs.Lists.{filter_alike, has_kept, waits_placed}

-- a client is there after an event where it is before its lines are put
there_next : (s : State) (e : Event) (c : ℕ) → is_some (at_number (next s e).clients c) ≡ is_some (at_number (effect s e).clients c)
there_next s e c =
    ap is_some (delivered_at s e c)
    ∙ elim (at_number (effect s e).clients c) as (λ o. is_some (option_map (with_batch s.settings.outbox_limit (batch s e c)) o) ≡ is_some o) [
      | None ↦ refl
      | Some x ↦ refl
    ]

pub those_next : (s : State) (e : Event) (list : List ℕ) → those_there (next s e).clients list ≡ those_there (effect s e).clients list
those_next s e list = filter_alike _ _ (there_next s e) list

-- an event that sends nothing
module _ (s : State) (e : Event) (none : (d : ℕ) → batch s e d ≡ []) where
  quiet_client : (home : ℕ) (o : Option Client) → is_changed s.settings.outbox_limit [] home o ≡ false
  quiet_client home None = refl
  quiet_client home (Some x) =
      ap (λ b. same_number x.home home && b) (touched_is s.settings.outbox_limit [] x)
      ∙ elim (same_number x.home home) as (λ b. (b && (is_live x && false)) ≡ false) [
        | true ↦ elim (is_live x) as (λ b. (b && false) ≡ false) [ true ↦ refl | false ↦ refl ]
        | false ↦ refl
      ]

  pub quiet_changes : (home c : ℕ) → changes s e home c ≡ false
  quiet_changes home c = ap (λ b. is_changed s.settings.outbox_limit b home (at_number (effect s e).clients c)) (none c) ∙ quiet_client home (at_number (effect s e).clients c)

  -- one that changes nothing either
  pub dirty_quiet : (home : ℕ) (list : List ℕ) → effect s e ≡ s → those_there s.clients list ≡ list → DirtyAfter s e home list list
  dirty_quiet home list same there = record {
    behind = [];
    is = sym (append-nil _ ∙ those_next s e list ∙ ap (λ (t : State). those_there t.clients list) same ∙ there);
    rising = λ i j low high. absurd (omega (arith, low, high));
    exact = λ c. sym (ap (λ b. if b && not (has_number list c) then 1 else 0) (quiet_changes home c));
  }

-- The clients are those before the lines of an event are put, of whom those of the list wait that are still there, and the delivery
-- appends to the list
module _ (s t : State) (e : Event) (post : Posted) (changed : effect s e ≡ t) (matches : Matches s e post) (clients : Crowd) (last home : ℕ)
    (are : t.clients ≡ plain clients.slots) (known : Known clients last) (old new : List ℕ)
    (left : waits clients home ≡ those_there (plain clients.slots) old) where
  all : (effect s e).clients ≡ plain clients.slots
  all = ap (λ (u : State). u.clients) changed ∙ are

  and_again : (b h l u : Bool) → (b ≡ true → h ≡ l) → (b && (not l && u)) ≡ ((b && u) && not h)
  and_again true h l u same =
      ap (λ k. not k && u) (sym (same refl))
      ∙ elim u as (λ v. (not h && v) ≡ (v && not h)) [
        | true ↦ elim h as (λ g. (not g && true) ≡ not g) [ true ↦ refl | false ↦ refl ]
        | false ↦ elim h as (λ g. (not g && false) ≡ false) [ true ↦ refl | false ↦ refl ]
      ]
  and_again false h l u same = refl

  -- who is there stands in the list where its listing says so
  listed_is : (c : ℕ) (held : Mailbox) → lookup (is_at (nat_cmp c)) clients.slots ≡ Some held → same_number held.client.home home ≡ true
      → has_number old c ≡ held.listed
  listed_is c held found here =
      let there : is_some (at_number (plain clients.slots) c) ≡ true =
      ap is_some (find-values (λ d (h : Mailbox). h.client) c clients.slots ∙ ap (option_map (λ (h : Mailbox). h.client)) (sym (lookup_is_find nat_cmp c clients.slots) ∙ found)) in
      sym (has_kept (λ d. is_some (at_number (plain clients.slots) d)) c old there)
      ∙ ap (λ list. has_number list c) (sym left)
      ∙ waits_placed clients last home c held known found here

  news_is : (c : ℕ) → news post.sent clients.slots home c ≡ (if changes s e home c && not (has_number old c) then 1 else 0)
  news_is c =
      elim (lookup (is_at (nat_cmp c)) clients.slots) as (λ o. lookup (is_at (nat_cmp c)) clients.slots ≡ o
      → news_of post.sent home c o ≡ (if is_changed s.settings.outbox_limit (batch s e c) home (option_map (λ (h : Mailbox). h.client) o) && not (has_number old c) then 1 else 0)) [
        | None ↦ λ found. refl
        | Some held ↦ λ found.
            ap (λ b. if b then 1 else 0) (
            (λ i. same_number held.client.home home && (not held.listed && is_touched held.limit (matches c i) held.client))
            ∙ (λ i. same_number held.client.home home && (not held.listed && touched_alike held.limit s.settings.outbox_limit (batch s e c) held.client i))
            ∙ and_again (same_number held.client.home home) (has_number old c) held.listed _ (listed_is c held found))
      ] refl
      ∙ ap (λ (o : Option Client). if is_changed s.settings.outbox_limit (batch s e c) home o && not (has_number old c) then 1 else 0)
      (ap (option_map (λ (h : Mailbox). h.client)) (lookup_is_find nat_cmp c clients.slots)
      ∙ sym (find-values (λ d (h : Mailbox). h.client) c clients.slots) ∙ ap (λ (m : ByNumber Client). at_number m c) (sym all))

  pub dirty_so : IsNewly post.sent clients.slots home (waits clients home) new → DirtyAfter s e home old new
  dirty_so newly = record {
    behind = newly.behind;
    is = newly.waiting ∙ ap (λ list. list ++ newly.behind) (left
        ∙ ap (λ (m : ByNumber Client). those_there m old) (sym all) ∙ sym (those_next s e old));
    rising = newly.rising;
    exact = λ c. newly.exact c ∙ news_is c;
  }

-- The slots of all clients, before and after one of them is written, inserted, removed or changed, and what stands at a number.
use Rattle.std.proofs.Common.{◌≡◌, ℕ, List, refl, sym, ap, subst, ◌∙◌, true, false, cond, [], ◌∷◌, map}
use Rattle.std.specs.Prelude.{Some, None, IsSome, is_some}
use Rattle.std.specs.Cmp.{nat_cmp_total, eq_by_cmp_equiv}
use Rattle.std.proofs.lemmas.Map.{lookup-set_value, lookup-remove_entry}
use Rattle.std.specs.Ordering.{nat_cmp, match_ordering}
use Rattle.std.specs.BTreeMap.{is_at, insert_entry}
use Rattle.std.specs.Map.{lookup, set_value, remove_entry}
use Rattle.std.specs.declared.cmp.Ordering.TheVariants.{Less, Equal, Greater}
use Rattle.std.proofs.lemmas.Map.Keys.{IsDistinct-from_sorted}
use Rattle.std.specs.List.Sorted.{IsStrictlySortedBy}
use Rattle.std.specs.Option.{option_map}
use Rattle.std.specs.FinMap.Entries.{by_order, find-put}
use Rattle.line_words.specs.Table.{ByNumber, same_number, at_number, put_number, change_number, without_number}
use Rattle.line_words.proofs.Tables.{lookup_is_find, insert_is_put, map_values-without}
use Rattle.line_words.proofs.Written.{remove_is_without, set_is_change, none_is_change}
use Rattle.lobby_model.specs.State.{is_live, Client}
use Rattle.lobby_model.proofs.Delivered.{same_number_is, same_itself, find-values}
use Rattle.lobby_model.proofs.Splits.{same_either_way, at_of_lookup, at_of_none, keys-values, lookup-values, lookup-values-none, set_value-values}
use Rattle.lobby_post.specs.Mail.{Mailbox, AllSlots, AreDue, IsDue, due_for, plain}

-- What look-ups say of a map in which w was written at c
abbrev pub IsWritten : (c : ℕ) (w : Mailbox) → ByNumber Mailbox → ByNumber Mailbox → Type 0
IsWritten c w es fs = (q : ℕ) → lookup (is_at (nat_cmp q)) fs ≡ cond (is_at (nat_cmp c) q) (Some w) (lookup (is_at (nat_cmp q)) es)

-- what a write makes of look-ups
pub written_through : (c : ℕ) (x w : Mailbox) (es : ByNumber Mailbox) → Some x ≡ lookup (is_at (nat_cmp c)) es → IsWritten c w es (set_value (is_at (nat_cmp c)) es w)
written_through c x w es found = λ q.
    lookup-set_value (eq_by_cmp_equiv nat_cmp_total) (is_at (nat_cmp c)) (λ a b t. ap (λ k. same_number k b) (same_number_is c a t)) q w es
    (subst (λ o. IsSome o) found refl)

module _ (P Q : ℕ → Mailbox → Type 0) (c : ℕ) (others : (q : ℕ) (held : Mailbox) → same_number q c ≡ false → P q held → Q q held) where
  pub all_written : (x w : Mailbox) (es fs : ByNumber Mailbox) → IsWritten c w es fs → Some x ≡ lookup (is_at (nat_cmp c)) es → (P c x → Q c w)
      → AllSlots P es → AllSlots Q fs
  all_written x w es fs written found own all = λ q held f.
      elim (same_number c q) as (λ b. same_number c q ≡ b → cond b (Some w) (lookup (is_at (nat_cmp q)) es) ≡ Some held → Q q held) [
        | true ↦ λ t g.
            let is : w ≡ held = cc in
            subst (λ k. Q k held) (same_number_is c q t) (subst (λ (h : Mailbox). Q c h) is (own (all c x (sym found))))
        | false ↦ λ t g. others q held (same_either_way q c ∙ t) (all q held g)
      ] refl (sym (written q) ∙ f)

  pub all_past : (es : ByNumber Mailbox) → lookup (is_at (nat_cmp c)) es ≡ None → AllSlots P es → AllSlots Q es
  all_past es none all = λ q held f.
      elim (same_number q c) as (λ b. same_number q c ≡ b → Q q held) [
        | true ↦ λ t.
            let at_key : lookup (is_at (nat_cmp c)) es ≡ Some held = subst (λ k. lookup (is_at (nat_cmp k)) es ≡ Some held) (same_number_is q c t) f in
            absurd (cc)
        | false ↦ λ t. others q held t (all q held f)
      ] refl

-- a slot written to which as much is due as before
pub due_kept : (pieces : ByNumber (List ℕ)) (c : ℕ) (x w : Mailbox) (es fs : ByNumber Mailbox) → IsWritten c w es fs → Some x
    ≡ lookup (is_at (nat_cmp c)) es → (is_live w.client ≡ true → is_live x.client ≡ true) → w.due ≡ x.due → AreDue pieces es → AreDue pieces fs
due_kept pieces c x w es fs written found heard same =
    all_written (λ q held. IsDue (due_for pieces q) held) (λ q held. IsDue (due_for pieces q) held) c
    (λ q held e h. h) x w es fs written found (λ h hears. same ∙ h (heard hears))

-- what an insert and a removal make of look-ups
pub written_in : (c : ℕ) (w : Mailbox) (es fs : ByNumber Mailbox) → fs ≡ insert_entry nat_cmp es c w → IsWritten c w es fs
written_in c w es fs is = λ q.
    ap (lookup (is_at (nat_cmp q))) (is ∙ insert_is_put nat_cmp es c w) ∙ lookup_is_find nat_cmp q _ ∙ find-put nat_cmp nat_cmp_total q c w es
    ∙ (λ i. cond (same_either_way q c i) (Some w) (sym (lookup_is_find nat_cmp q es) i))

pub removed_from : (c : ℕ) (es fs : ByNumber Mailbox) → IsStrictlySortedBy nat_cmp (map (λ e. e.0) es) → fs ≡ remove_entry (is_at (nat_cmp c)) es
    → (q : ℕ) → lookup (is_at (nat_cmp q)) fs ≡ cond (is_at (nat_cmp c) q) None (lookup (is_at (nat_cmp q)) es)
removed_from c es fs rising is = λ q.
    ap (lookup (is_at (nat_cmp q))) is
    ∙ lookup-remove_entry (eq_by_cmp_equiv nat_cmp_total) (is_at (nat_cmp c)) (λ a b t. ap (λ k. same_number k b) (same_number_is c a t)) q es
    (IsDistinct-from_sorted nat_cmp _ rising)

-- one slot inserted, or removed
module _ (P : ℕ → Mailbox → Type 0) (c : ℕ) (es fs : ByNumber Mailbox) where
  pub all_inserted : (w : Mailbox) → IsWritten c w es fs → P c w → AllSlots P es → AllSlots P fs
  all_inserted w written own all = λ q held f.
      elim (same_number c q) as (λ b. same_number c q ≡ b → cond b (Some w) (lookup (is_at (nat_cmp q)) es) ≡ Some held → P q held) [
        | true ↦ λ t g.
            let is : w ≡ held = cc in
            subst (λ k. P k held) (same_number_is c q t) (subst (λ (h : Mailbox). P c h) is own)
        | false ↦ λ t g. all q held g
      ] refl (sym (written q) ∙ f)

  pub all_removed : ((q : ℕ) → lookup (is_at (nat_cmp q)) fs ≡ cond (is_at (nat_cmp c) q) None (lookup (is_at (nat_cmp q)) es)) → AllSlots P es
      → AllSlots P fs
  all_removed removed all = λ q held f.
      elim (same_number c q) as (λ b. cond b None (lookup (is_at (nat_cmp q)) es) ≡ Some held → P q held) [
        | true ↦ λ g. absurd (cc)
        | false ↦ λ g. all q held g
      ] (sym (removed q) ∙ f)

-- what stands at a number
pub plain-at : (k : ℕ) (x : Mailbox) (es : ByNumber Mailbox) → Some x ≡ lookup (is_at (nat_cmp k)) es → at_number (plain es) k ≡ Some x.client
plain-at k x es found = at_of_lookup (λ held. held.client) k x es (sym found)

pub plain-none : (k : ℕ) (es : ByNumber Mailbox) → None ≡ lookup (is_at (nat_cmp k)) es → at_number (plain es) k ≡ None
plain-none k es none = at_of_none (λ held. held.client) k es (sym none)

pub plain-at-written : (k : ℕ) (w : Mailbox) (es fs : ByNumber Mailbox) → IsWritten k w es fs → at_number (plain fs) k ≡ Some w.client
plain-at-written k w es fs written =
    plain-at k w fs (sym (written k ∙ ap (λ b. cond b (Some w) (lookup (is_at (nat_cmp k)) es)) (same_itself k)))

pub plain-is_some : (k : ℕ) (es : ByNumber Mailbox) → is_some (lookup (is_at (nat_cmp k)) es) ≡ is_some (at_number (plain es) k)
plain-is_some k es =
    ap is_some (lookup_is_find nat_cmp k es)
    ∙ elim (at_number es k) as (λ o. is_some o ≡ is_some (option_map (λ (held : Mailbox). held.client) o)) [ None ↦ refl | Some x ↦ refl ]
    ∙ ap is_some (sym (find-values (λ c held. held.client) k es))

-- a slot added
pub plain-insert : (k : ℕ) (w : Mailbox) (es : ByNumber Mailbox) → plain (insert_entry nat_cmp es k w) ≡ put_number (plain es) k w.client
plain-insert k w [] = refl
plain-insert k w (e ∷ es) =
    elim (nat_cmp k e.0) as (λ r. plain (match_ordering r ((k, w) ∷ e ∷ es) ((e.0, w) ∷ es) (e ∷ insert_entry nat_cmp es k w))
    ≡ by_order r ((k, w.client) ∷ plain (e ∷ es)) ((e.0, w.client) ∷ plain es) ((e.0, e.1.client) ∷ put_number (plain es) k w.client)) [
      | Less ↦ refl
      | Equal ↦ refl
      | Greater ↦ ap (λ rest. (e.0, e.1.client) ∷ rest) (plain-insert k w es)
    ]

-- one client changed, or removed
module _ (c : ℕ) (es : ByNumber Mailbox) where
  pub plain_changed : (f : Client → Client) (x w : Mailbox) (fs : ByNumber Mailbox) → IsStrictlySortedBy nat_cmp (map (λ e. e.0) es) → fs
      ≡ set_value (is_at (nat_cmp c)) es w → Some x ≡ lookup (is_at (nat_cmp c)) es → w.client ≡ f x.client → plain fs ≡ change_number (plain es) c f
  plain_changed f x w fs rising is found same =
      ap plain is ∙ set_value-values (λ held. held.client) (is_at (nat_cmp c)) w es ∙ ap (set_value (is_at (nat_cmp c)) (plain es)) same
      ∙ set_is_change nat_cmp nat_cmp_total f c x.client (plain es)
      (subst (IsStrictlySortedBy nat_cmp) (sym (keys-values (λ held. held.client) es)) rising)
      (lookup-values (λ held. held.client) (is_at (nat_cmp c)) x es (sym found))

  pub plain_unchanged : (f : Client → Client) → None ≡ lookup (is_at (nat_cmp c)) es → plain es ≡ change_number (plain es) c f
  plain_unchanged f none = none_is_change nat_cmp nat_cmp_total f c (plain es) (lookup-values-none (λ held. held.client) (is_at (nat_cmp c)) es (sym none))

  pub plain_removed : (fs : ByNumber Mailbox) → IsStrictlySortedBy nat_cmp (map (λ e. e.0) es) → fs ≡ remove_entry (is_at (nat_cmp c)) es → plain fs
      ≡ without_number (plain es) c
  plain_removed fs rising is = ap plain (is ∙ remove_is_without nat_cmp nat_cmp_total c es rising)
      ∙ map_values-without nat_cmp (λ d held. held.client) es c

-- How many clients of a worker stand in no list, before and after one of them is written, inserted or removed.
use Rattle.std.proofs.Common.{◌≡◌, ℕ, ◌+◌, [], ◌∷◌, length, refl, sym, ap, ◌∙◌, true, false, cond, filter, sum_by, arith, map}
use Rattle.std.specs.Prelude.{Some, if◌then◌else◌, None}
use Rattle.std.specs.Ordering.{nat_cmp}
use Rattle.std.specs.BTreeMap.{is_at, insert_entry}
use Rattle.std.specs.Map.{lookup, set_value, values_of, remove_entry}
use Rattle.std.proofs.lemmas.List.Sums.{sum_by-cons}
use Rattle.std.proofs.lemmas.Map.Entries.{sum_by-set_value, sum_by-insert_entry, sum_by-remove_entry}
use Rattle.std.specs.Cmp.{nat_cmp_total}
use Rattle.std.specs.List.Sorted.{IsStrictlySortedBy}
use Rattle.std.specs.Option.{option_map, unwrap_or}
use Rattle.line_words.specs.Table.{ByNumber}
use Rattle.lobby_post.specs.Mail.{Mailbox}
use Rattle.lobby_post.specs.Dirty.{idle_of, is_idle, listing_of, listings_of}

module _ (home : ℕ) where
  -- 1 for a client of the worker that stands in no list, else 0
  abbrev pub idle_one : Mailbox → ℕ
  idle_one held = if is_idle home (listing_of held) then 1 else 0

  pub idle-sum : (es : ByNumber Mailbox) → idle_of home (listings_of es) ≡ sum_by idle_one (values_of es)
  idle-sum [] = refl
  idle-sum (e ∷ es) =
      let rest = idle-sum es in
      elim (is_idle home (listing_of e.1)) as (λ b. length (cond b ((e.0, listing_of e.1) ∷ filter (λ m. is_idle home m.1) (listings_of es)) (filter (λ m. is_idle home m.1) (listings_of es)))
      ≡ (if b then 1 else 0) + sum_by idle_one (values_of es)) [
        | true ↦ omega (arith, rest)
        | false ↦ omega (arith, rest)
      ] ∙ sym (sum_by-cons idle_one e.1 (values_of es))

  module _ (c : ℕ) (es fs : ByNumber Mailbox) where
    pub idle_written : (x w : Mailbox) → fs ≡ set_value (is_at (nat_cmp c)) es w → lookup (is_at (nat_cmp c)) es ≡ Some x
        → idle_of home (listings_of fs) + idle_one x ≡ idle_of home (listings_of es) + idle_one w
    idle_written x w is found =
        let old = idle-sum es in
        let new = idle-sum fs in
        let sums = sum_by-set_value idle_one (is_at (nat_cmp c)) es x w found in
        let same = ap (λ m. sum_by idle_one (values_of m)) is in
        omega (arith, old, new, sums, same)

module _ (home c : ℕ) (es fs : ByNumber Mailbox) where
  pub idle_inserted : (w : Mailbox) → fs ≡ insert_entry nat_cmp es c w → IsStrictlySortedBy nat_cmp (map (λ e. e.0) es) → lookup (is_at (nat_cmp c)) es ≡ None
      → idle_of home (listings_of fs) ≡ idle_of home (listings_of es) + idle_one home w
  idle_inserted w is ordered none =
      let old = idle-sum home es in
      let new = idle-sum home fs in
      let sums = sum_by-insert_entry (idle_one home) nat_cmp_total es c w ordered in
      let nothing : unwrap_or (option_map (idle_one home) (lookup (is_at (nat_cmp c)) es)) 0 ≡ 0 = ap (λ o. unwrap_or (option_map (idle_one home) o) 0) none in
      let same = ap (λ m. sum_by (idle_one home) (values_of m)) is in
      omega (arith, old, new, sums, nothing, same)

  pub idle_removed : (x : Mailbox) → fs ≡ remove_entry (is_at (nat_cmp c)) es → lookup (is_at (nat_cmp c)) es ≡ Some x
      → idle_of home (listings_of fs) + idle_one home x ≡ idle_of home (listings_of es)
  idle_removed x is found =
      let old = idle-sum home es in
      let new = idle-sum home fs in
      let sums = sum_by-remove_entry (idle_one home) (is_at (nat_cmp c)) es in
      let one : unwrap_or (option_map (idle_one home) (lookup (is_at (nat_cmp c)) es)) 0 ≡ idle_one home x = ap (λ o. unwrap_or (option_map (idle_one home) o) 0) found in
      let same = ap (λ m. sum_by (idle_one home) (values_of m)) is in
      omega (arith, old, new, sums, one, same)

  pub idle_unremoved : fs ≡ remove_entry (is_at (nat_cmp c)) es → lookup (is_at (nat_cmp c)) es ≡ None
      → idle_of home (listings_of fs) ≡ idle_of home (listings_of es)
  idle_unremoved is none =
      let old = idle-sum home es in
      let new = idle-sum home fs in
      let sums = sum_by-remove_entry (idle_one home) (is_at (nat_cmp c)) es in
      let nothing : unwrap_or (option_map (idle_one home) (lookup (is_at (nat_cmp c)) es)) 0 ≡ 0 = ap (λ o. unwrap_or (option_map (idle_one home) o) 0) none in
      let same = ap (λ m. sum_by (idle_one home) (values_of m)) is in
      omega (arith, old, new, sums, nothing, same)

-- Those that come to wait are there, so that they stand among those that wait and are there.
use Rattle.std.proofs.Common.{◌≡◌, ℕ, ◌<◌, List, [], ◌∷◌, ◌++◌, sym, refl, ap, ◌∙◌, Bool, true, false, cond, filter, arith}
use Rattle.std.specs.Prelude.{Some, None, if◌then◌else◌}
use Rattle.std.specs.Ordering.{nat_cmp}
use Rattle.std.specs.BTreeMap.{is_at}
use Rattle.std.specs.Map.{lookup}
use Rattle.std.proofs.lemmas.List.Elements.{filter-append}
use Rattle.std.proofs.lemmas.Bool.{and_parts}
use Rattle.line_words.specs.Table.{ByNumber, same_number}
use Rattle.lobby_model.proofs.Splits.{lookup-values}
use Rattle.lobby_post.specs.Mail.{Mailbox, Line}
use Rattle.lobby_post.specs.Dirty.{IsNewly, Roomy, is_of, line_of, listing_of, listings_of, news, news_of, stands, times}
use Rattle.lobby_post.specs.Crowd.{line_at, lines_of}
use Rattle.lobby_post.proofs.Counts.{times-first}
use Rattle.lobby_post.proofs.Homes.{line-at}

-- a test that each number of a list passes
filter_every : (p : ℕ → Bool) (xs : List ℕ) → ((c : ℕ) → 0 < times c xs → p c ≡ true) → filter p xs ≡ xs
filter_every p [] all = refl
filter_every p (d ∷ xs) all =
    let one = times-first d xs in
    ap (λ b. cond b (d ∷ filter p xs) (filter p xs)) (all d (omega (arith, one)))
    ∙ ap (λ ys. d ∷ ys) (filter_every p xs (λ c more. all c (omega (arith, more))))

counts_yes : (b : Bool) → 0 < (if b then 1 else 0) → b ≡ true
counts_yes true more = refl
counts_yes false more = absurd (omega (arith, more))

module _ (pieces : ByNumber (List ℕ)) (slots : ByNumber Mailbox) (home : ℕ) where
  news_stand : (c : ℕ) → 0 < news pieces slots home c → stands (listings_of slots) home c ≡ true
  news_stand c more =
      elim (lookup (is_at (nat_cmp c)) slots) as (λ o. lookup (is_at (nat_cmp c)) slots ≡ o → 0 < news_of pieces home c o → stands (listings_of slots) home c ≡ true) [
        | None ↦ λ e m. absurd (omega (arith, m))
        | Some held ↦ λ e m. ap (is_of home) (lookup-values listing_of (is_at (nat_cmp c)) held slots e)
            ∙ (and_parts (same_number held.client.home home) _ (counts_yes _ m)).0
      ] refl more

  module _ (after : ByNumber Mailbox) (same : (c : ℕ) → stands (listings_of after) home c ≡ stands (listings_of slots) home c) where
    newly_there : (old new : List ℕ) → IsNewly pieces slots home old new
        → IsNewly pieces slots home (filter (stands (listings_of slots) home) old) (filter (stands (listings_of after) home) new)
    newly_there old new newly =
        let all = filter_every (stands (listings_of slots) home) newly.behind (λ c more. news_stand c (let e = newly.exact c in omega (arith, more, e))) in
        record {
          behind = newly.behind;
          waiting = (λ i. filter (λ c. same c i) (newly.waiting i)) ∙ filter-append (stands (listings_of slots) home) old newly.behind
              ∙ ap (λ ys. filter (stands (listings_of slots) home) old ++ ys) all;
          rising = newly.rising;
          exact = newly.exact;
        }

    pub newly_waits : (before lists : List Roomy) → home < 64 → IsNewly pieces slots home (line_of before home).waiting (line_of lists home).waiting
        → IsNewly pieces slots home (filter (stands (listings_of slots) home) (line_at (lines_of before) home).waiting)
        (filter (stands (listings_of after) home) (line_at (lines_of lists) home).waiting)
    newly_waits before lists small newly =
        let there = newly_there (line_of before home).waiting (line_of lists home).waiting newly in
        let first : (line_at (lines_of before) home).waiting ≡ (line_of before home).waiting = ap (λ (l : Line). l.waiting) (line-at before home small) in
        let last : (line_at (lines_of lists) home).waiting ≡ (line_of lists home).waiting = ap (λ (l : Line). l.waiting) (line-at lists home small) in
        record {
          behind = there.behind;
          waiting = ap (filter (stands (listings_of after) home)) last ∙ there.waiting
              ∙ ap (λ ws. filter (stands (listings_of slots) home) ws ++ there.behind) (sym first);
          rising = there.rising;
          exact = there.exact;
        }

-- The clients stand in the order of their numbers.
use Rattle.std.proofs.Common.{◌≡◌, ℕ, [], ◌∷◌, sym, subst, T, map}
use Rattle.std.specs.declared.cmp.Ordering.TheVariants.{Less}
use Rattle.std.specs.Ordering.{nat_cmp, is_lt}
use Rattle.std.specs.List.{AllByRecursion}
use Rattle.std.specs.List.Sorted.{IsStrictlySortedBy}
use Rattle.std.specs.FinMap.Entries.{is_sorted, below_all}
use Rattle.line_words.specs.Table.{ByNumber}
use Rattle.line_words.proofs.Tables.{both}
use Rattle.lobby_model.proofs.Splits.{keys-values}
use Rattle.lobby_post.specs.Mail.{Mailbox, plain}

below : {X : Type 0} (k : ℕ) (es : ByNumber X) → AllByRecursion (λ y. nat_cmp k y ≡ Less) (map (λ e. e.0) es) → T (below_all nat_cmp k es)
below k [] h = tt
below k (e ∷ es) h = both _ _ (subst (λ r. T (is_lt r)) (sym h.0) tt) (below k es h.1)

pub ordered_is_sorted : {X : Type 0} (es : ByNumber X) → IsStrictlySortedBy nat_cmp (map (λ e. e.0) es) → T (is_sorted nat_cmp es)
unfolding IsStrictlySortedBy
ordered_is_sorted [] h = tt
ordered_is_sorted (e ∷ es) h = both _ _ (below e.0 es h.0) (ordered_is_sorted es h.1)

pub plain_sorted : (es : ByNumber Mailbox) → IsStrictlySortedBy nat_cmp (map (λ e. e.0) es) → T (is_sorted nat_cmp (plain es))
plain_sorted es h = ordered_is_sorted (plain es) (subst (IsStrictlySortedBy nat_cmp) (sym (keys-values (λ held. held.client) es)) h)

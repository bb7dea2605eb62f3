-- A user who is the only one of a channel.
use Rattle.std.proofs.Common.{◌≡◌, ℕ, ◌<◌, ◌≤◌, List, [], ◌∷◌, length, refl, ap, sym, ◌∙◌, Bool, true, false, not, arith}
use Rattle.std.proofs.Math.ListN.{get_or}
use Rattle.std.specs.Prelude.{◌&&◌, ◌||◌, Some, None}
use Rattle.line_words.specs.Table.{is_among, same_name, same_number}
use Rattle.line_words.proofs.Once.{same_name_equiv}
use Rattle.lobby_model.specs.State.{State, name_of}
use Rattle.lobby_model.specs.Outcome.{is_named, users}
use Rattle.lobby_model.specs.Events.{reader_of}
use Rattle.lobby_post.specs.Posted.{but_issuer}
use Rattle.lobby_maps.specs.Fit.{IsSole}

and_none : (b : Bool) → (b && false) ≡ false
and_none true = refl
and_none false = refl

apart : (b : Bool) → (not b && (b || false)) ≡ false
apart true = refl
apart false = refl

-- but for itself nobody of it is told of what is its own
pub nobody_else : (s : State) (c : ℕ) (me : List ℕ) → IsSole s c me → (d : ℕ) → but_issuer (users (me ∷ [])) (reader_of s c d) ≡ false
nobody_else s c me sole d =
    elim (name_of s d) as (λ o. same_number d c ≡ is_named (same_name me) o → (not (same_number d c) && is_named (λ n. is_among n (me ∷ [])) o) ≡ false) [
      | None ↦ λ e. and_none (not (same_number d c))
      | Some n ↦ λ e. (λ i. not (e i) && (sym (same_name_equiv.symm me n) i || false)) ∙ apart (same_name me n)
    ] (sole d)

-- a list of one
pub one_listed : (names : List (List ℕ)) (only : List ℕ) → 1 ≤ length names → length names < 2 → only ≡ get_or names 0 only → names ≡ only ∷ []
one_listed [] only some few is = absurd (omega (arith, some))
one_listed (n ∷ []) only some few is = ap (λ n. n ∷ []) (sym is)
one_listed (n ∷ m ∷ names) only some few is = absurd (omega (arith, few))

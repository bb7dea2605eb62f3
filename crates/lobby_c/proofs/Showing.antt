-- What is shown of one list is shown of an equal one.
use Rattle.std.proofs.Common.{◌≡◌, ℕ, List, subst}
use Rattle.lobby_lines.specs.Answers.{Lent, Shows}

pub shown_as : {X R : Type 0} (row : ℕ → X → R) (shown : X → List ℕ) (xs ys : List X) (status : ℕ) (old new : Lent R) → xs ≡ ys
    → Shows row shown xs status old new → Shows row shown ys status old new
shown_as row shown xs ys status old new is shows = subst (λ zs. Shows row shown zs status old new) is shows

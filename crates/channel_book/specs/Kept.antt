-- How the members of a channel are kept: nobody, one alone, or many with an index.
use Rattle.std.specs.Prelude.{ℕ, List, [], ◌∷◌}
use Rattle.channel_book.specs.declared.members.Kept.{Kept}
use Rattle.channel_book.specs.declared.members.Kept.TheVariants.{Nobody, One, Many}

module _ {M : Type 0} where
  abbrev pub names_kept : Kept M → List (List ℕ)
  names_kept Nobody = []
  names_kept (One name) = name ∷ []
  names_kept (Many box) = box.value

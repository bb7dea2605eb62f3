-- Changes of a list of names, and what undoes them.
use Rattle.std.specs.Prelude.{ℕ, List, [], ◌∷◌, take}
use Rattle.line_words.specs.Table.{all_but}
use Rattle.lobby_view.specs.View.{at_end}
use Rattle.client_view.specs.declared.lists.names.NamesChange.{NamesChange}
use Rattle.client_view.specs.declared.lists.names.NamesChange.TheVariants as change
use Rattle.client_view.specs.declared.lists.names.NamesWere.{NamesWere}
use Rattle.client_view.specs.declared.lists.names.NamesWere.TheVariants as were

abbrev pub names_after : NamesChange → List (List ℕ) → List (List ℕ)
names_after (change.Add name) names = at_end (name ∷ []) names
names_after (change.AddAll more) names = at_end more names
names_after (change.Remove name alloc) names = all_but name.now names

abbrev pub names_back : NamesWere → List (List ℕ) → List (List ℕ)
names_back (were.First count) names = take count names
names_back (were.All known) names = known

-- Who is in a channel, as the ordered map shows it.
use Rattle.std.proofs.Common.{◌≡◌, ℕ, List, [], ap, ◌∙◌}
use Rattle.std.specs.Prelude.{Some, None}
use Rattle.std.specs.BTreeMap.{is_at}
use Rattle.std.specs.Map.{lookup}
use Rattle.line_words.specs.Table.{name_cmp}
use Rattle.line_words.proofs.Tables.{lookup_is_find}
use Rattle.channel_book.specs.Channels.{Channels, names_of, names_in}

module _ (channels : Channels) (channel : List ℕ) where
  pub names_found : (names : List (List ℕ)) → Some names ≡ lookup (is_at (name_cmp channel)) channels → names ≡ names_in channels channel
  names_found names found = ap names_of (found ∙ lookup_is_find name_cmp channel channels)

  pub names_none : None ≡ lookup (is_at (name_cmp channel)) channels → [] ≡ names_in channels channel
  names_none none = ap names_of (none ∙ lookup_is_find name_cmp channel channels)

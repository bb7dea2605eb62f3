-- The numbers of command words.
use Rattle.std.proofs.Common.{◌≡◌, ◌+◌, refl}
use Rattle.std.specs.Prelude.{Some}
use denote.Enum.Declared.{tag_of}
use Rattle.reply_kinds.specs.declared.command_word.CommandWord.{CommandWord}
use Rattle.reply_kinds.specs.declared.command_word.CommandWord.TheVariants as command
use Rattle.reply_kinds.specs.contracts.command_word.CommandWord.{the_type}
use Rattle.lobby_lines.specs.Replies.{numbered}

-- each stands in the list at its number
pub number_again : (c : CommandWord) → numbered (tag_of the_type c + 1) ≡ Some c
number_again command.TasServer = refl
number_again c = refl

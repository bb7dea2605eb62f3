-- A command word that was guessed and compared.
use Rattle.std.proofs.Common.{◌≡◌, ℕ, true, List, Some, ap, ◌∙◌}
use Rattle.reply_kinds.specs.declared.command_word.CommandWord.{CommandWord}
use Rattle.reply_kinds.specs.Replies.{word_of}
use Rattle.reply_grammar.specs.Lines.{same, named}
use Rattle.reply_grammar.proofs.Whole.{same_is, named_again}

pub named_same : (w : List ℕ) (c : CommandWord) → same w (word_of c) ≡ true → named w ≡ Some c
named_same w c is = ap named (same_is w (word_of c) is) ∙ named_again c

use Rattle.std.proofs.Common.{take}
use Rattle.std.specs.Prelude.{flat_map}
use Rattle.lobby_lines.specs.Fields.{Adds}
use Rattle.lobby_lines.specs.Replies.{one_text}
use Rattle.lobby_lines.proofs.reply_arguments.add_words.Given as goal

abbrev pub invariant-loop-word : goal.invariant-loop-word
invariant-loop-word l = Adds (flat_map one_text (take l.word-index l.words)) l.fn.fields l.fields

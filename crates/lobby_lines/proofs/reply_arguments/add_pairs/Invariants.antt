use Rattle.std.proofs.Common.{take}
use Rattle.std.specs.Prelude.{flat_map}
use Rattle.lobby_lines.specs.Fields.{Adds}
use Rattle.lobby_lines.specs.Replies.{two_texts}
use Rattle.lobby_lines.proofs.reply_arguments.add_pairs.Given as goal

abbrev pub invariant-loop-pair : goal.invariant-loop-pair
invariant-loop-pair l = Adds (flat_map two_texts (take l.pair-index l.pairs)) l.fn.fields l.fields

use Rattle.std.proofs.Common.{take}
use Rattle.std.specs.Prelude.{flat_map}
use Rattle.lobby_lines.specs.Fields.{Adds}
use Rattle.lobby_lines.specs.Replies.{one_text}
use Rattle.lobby_lines.proofs.reply_arguments.add_names.Given as goal

abbrev pub invariant-loop-name : goal.invariant-loop-name
invariant-loop-name l = Adds (flat_map one_text (take l.name-index l.names)) l.fn.fields l.fields

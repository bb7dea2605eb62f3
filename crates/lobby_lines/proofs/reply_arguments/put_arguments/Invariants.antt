use Rattle.std.proofs.Common.{drop, map}
use Rattle.lobby_lines.specs.Replies.{kind_of}
use Rattle.lobby_lines.proofs.ReplyGoing.{Going}
use Rattle.lobby_lines.proofs.reply_arguments.put_arguments.Given as goal

abbrev pub invariant-loop-kind : goal.invariant-loop-kind
invariant-loop-kind l = Going (map kind_of (drop l.kind-index l.kinds)) (map kind_of l.kinds) l.rest l.bytes l.fn.fields l.fields

use Rattle.std.proofs.Common.{drop}
use Rattle.lobby_lines.specs.Writing.{words_put}
use Rattle.lobby_lines.proofs.RequestGoing.{Going}
use Rattle.lobby_lines.proofs.request_arguments.add_words.Given as goal

abbrev pub invariant-loop-field : goal.invariant-loop-field
invariant-loop-field l = Going (words_put l.text l.fields) (words_put l.text (drop l.field-index l.fields)) l.fn.line.items l.line.items

use Rattle.std.proofs.Common.{drop, map, false}
use Rattle.lobby_lines.specs.Requests.{kind_of}
use Rattle.lobby_lines.specs.Writing.{parts}
use Rattle.lobby_lines.proofs.RequestGoing.{Going}
use Rattle.lobby_lines.proofs.request_arguments.put_arguments.Given as goal

abbrev pub invariant-loop-kind : goal.invariant-loop-kind
invariant-loop-kind l =
    Going (parts false 32 l.text (map kind_of l.kinds) l.fields) (parts l.is_missing l.separator l.text (map kind_of (drop l.kind-index l.kinds)) l.rest)
    l.fn.line.items l.line.items

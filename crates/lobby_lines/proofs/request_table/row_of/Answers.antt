use Rattle.lobby_lines.proofs.RequestRows.{found}
use Rattle.lobby_lines.proofs.request_table.row_of.Goals as goal

pub returns-in-Some-clause-some : goal.returns-in-Some-clause-some
returns-in-Some-clause-some c =
    (found c.requests.result.now c.args.kind c.in-Some.index c.get.result c.in-Some.ensures c.get.ensures.lookup c.requests.ensures).0

pub returns-in-Some-clause-none : goal.returns-in-Some-clause-none
returns-in-Some-clause-none c =
    (found c.requests.result.now c.args.kind c.in-Some.index c.get.result c.in-Some.ensures c.get.ensures.lookup c.requests.ensures).1

use Rattle.lobby_lines.proofs.RequestGoing.{pairs_goes}
use Rattle.lobby_lines.proofs.request_arguments.add_pairs.Goals as goal

pub loop-rest-preserved : goal.loop-rest-preserved
loop-rest-preserved c =
    pairs_goes _ c.loop-rest.separator c.args.text.now c.loop-rest.rest.now c.in_ok-rest.rest.now c.args.line.now.items c.loop-rest.line.items
    c.put_pair.new.line.items c.loop-rest.invariant c.in_ok-rest.ensures.put

use Rattle.std.proofs.Common.{[], refl}
use Rattle.lobby_turns.proofs.Served.{served_closed}
use Rattle.lobby_connections.proofs.serving.finish_or_shut.Goals as goal

pub returns-then-is_over-clause-serves : goal.returns-then-is_over-clause-serves
returns-then-is_over-clause-serves g c = served_closed _ _ _ _ _ _ refl (c.close.ensures.closes [] c.args.connection.now.link)

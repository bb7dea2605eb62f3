use Rattle.lobby_holds.proofs.Drains.{asks}
use Rattle.lobby_holds.proofs.holds.is_finished.Goals as goal

pub returns : goal.returns
returns g c = λ others wire. asks others c.args.conn.now wire _ _ c.client.result _ _ c.client.ensures c.drain_into-pass.ensures

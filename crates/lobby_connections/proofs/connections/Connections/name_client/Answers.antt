use Rattle.lobby_connections.proofs.Lines.{claims_same}
use Rattle.std.proofs.Common.{refl}
use Rattle.lobby_connections.proofs.connections.Connections.name_client.Goals as goal

pub returns-in_default-clause-claims : goal.returns-in_default-clause-claims
returns-in_default-clause-claims c = claims_same c.args.self.now c.args.self.now refl

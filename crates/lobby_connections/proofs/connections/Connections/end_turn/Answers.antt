use Rattle.std.proofs.Common.{◌∷◌, ◌∙◌, sym, ap, subst}
use Rattle.lobby_connections.proofs.Lines.{finished_all}
use Rattle.lobby_connections.specs.Attended.{AllBut}
use Rattle.lobby_connections.specs.Table.{Table}
use Rattle.lobby_connections.proofs.connections.Connections.end_turn.Goals as goal

pub returns-clause-attended : goal.returns-clause-attended
returns-clause-attended c rest a = record {
  all = c.go_on.ensures.attended rest (finished_all c.args.self.now c.finish.new.self c.key.result c.finish.ensures.rest c.finish.ensures.claims rest (subst (λ k. AllBut c.args.self.now (k ∷ rest)) (sym c.key.ensures) a.all));
  called = c.go_on.ensures.called ∙ (ap (λ (t : Table). t.called) c.finish.ensures.rest ∙ a.called);
}

use Rattle.std.proofs.Common.{[], sym, subst, ◌∙◌}
use Rattle.lobby_connections.specs.Attended.{IsAttended}
use Rattle.lobby_connections.specs.Told.{keys_of}
use Rattle.worker_loop.proofs.worker.WorkerLoop.go_round.Goals as goal

pub wait-waited-requires : goal.wait-waited-requires
wait-waited-requires g c = c.look_for_own-pass.ensures.attended [] c.requires.attended

pub returns-clause-attended : goal.returns-clause-attended
returns-clause-attended g c =
    c.renew_reserve.ensures [] (c.turn_left-pass.ensures.attended [] (c.turn_named-pass.ensures.attended []
    (c.turn_ready-pass.ensures.attended (subst (λ events. IsAttended c.take_in-pass.new.self.connections (keys_of events))
    (sym (c.take_in-pass.ensures.lookout ∙ c.begin_round.ensures.lookout))
    (c.take_in-pass.ensures.attended _ (c.begin_round.ensures.attended _ c.wait-waited.ensures.attended))))))

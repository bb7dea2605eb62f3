use Rattle.std.proofs.Common.{[], ◌∙◌, ap, subst, sym}
use Rattle.lobby_connections.proofs.Lines.{is_lawful_then, wakes_then}
use Rattle.lobby_connections.specs.Attended.{AllBut}
use Rattle.lobby_connections.specs.Table.{Table}
use Rattle.lobby_connections.specs.Told.{keys_of}
use Rattle.lobby_connections.proofs.connections.Connections.wait.Goals as goal

pub wait_within-is_polled-requires-clause-law : goal.wait_within-is_polled-requires-clause-law
wait_within-is_polled-requires-clause-law c =
    let p = c.poll_timeout-timeout in
    let w = c.wake_in_time-rung in
    is_lawful_then c.args.self.now w.new.self p.result c.begin_wait-timeout.result c.requires p.ensures.busy p.ensures.awake w.ensures.rest w.ensures.nobody c.begin_wait-timeout.ensures

pub wait_within-is_polled-requires-clause-woken : goal.wait_within-is_polled-requires-clause-woken
wait_within-is_polled-requires-clause-woken c =
    wakes_then c.wake_in_time-rung.new.self c.poll_timeout-timeout.result c.begin_wait-timeout.result c.wake_in_time-rung.ensures.nobody c.begin_wait-timeout.ensures

pub returns-clause-attended : goal.returns-clause-attended
returns-clause-attended c =
    let e = c.note_all.ensures in
    let w = c.wake_in_time-rung.ensures.rest in
    record {
      all = subst (λ es. AllBut c.note_all.new.self (keys_of es)) c.told.ensures (e.attended (subst (λ t. AllBut t []) (sym w) c.requires.all));
      called = ap (λ (t : Table). t.called) e.rest ∙ (ap (λ (t : Table). t.called) w ∙ c.requires.called);
    }

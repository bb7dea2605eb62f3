use Rattle.std.proofs.Common.{rules, ◌≡◌, Some, ap, ◌∙◌}
use Rattle.std.proofs.lemmas.List.Elements.{All-pop}
use Rattle.lobby_workers.proofs.Pushed.{all_pushed}
use Rattle.lobby_workers.proofs.server.start_all.Goals as goal

pub loop-worker-preserved : goal.loop-worker-preserved
loop-worker-preserved g c = (
  ap (λ pass. pass.desk) c.take_back-pass.ensures.pass ∙ c.loop-worker.invariant.0,
  ap (λ pass. pass.worker.number) c.take_back-pass.ensures.pass ∙ c.loop-worker.invariant.1,
  (All-pop (λ worker. worker.pass.desk ≡ c.args.shared.now.desk.now) _ _ (Some c.in-Some.worker) c.in-Some.ensures.items c.loop-worker.invariant.2).0,
  c.loop-worker.invariant.3,
  search rules,
)

pub loop-worker-preserved-in-Ok : goal.loop-worker-preserved-in-Ok
loop-worker-preserved-in-Ok g c = (
  c.loop-worker.invariant.0,
  c.loop-worker.invariant.1,
  (All-pop (λ worker. worker.pass.desk ≡ c.args.shared.now.desk.now) _ _ (Some c.in-Some.worker) c.in-Some.ensures.items c.loop-worker.invariant.2).0,
  all_pushed (λ thread. thread.promise.0.value.desk ≡ c.args.shared.now.desk.now) _ _ _ c.push_reserved.ensures.items c.loop-worker.invariant.3 c.in-Ok.ensures.desk,
  search rules,
)

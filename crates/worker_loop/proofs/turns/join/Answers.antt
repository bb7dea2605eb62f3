use Rattle.std.proofs.Common.{◌++◌, ◌∷◌, sym, subst}
use Rattle.lobby_connections.specs.Attended.{IsAttended}
use Rattle.lobby_connections.specs.Joined.{keys_in}
use Rattle.lobby_connections.proofs.Lines.{attends_none}
use Rattle.worker_loop.proofs.Joined.{ahead, joins}
use Rattle.worker_loop.proofs.turns.join.Goals as goal

pub returns-then-not-begins_turn : goal.returns-then-not-begins_turn
returns-then-not-begins_turn c rest a =
    attends_none _ _ (c.begins_turn.ensures.no c.if-not-begins_turn.true) _ (ahead _ (keys_in c.args.together.now) c.args.key rest a)

pub returns-then-is_put_off : goal.returns-then-is_put_off
returns-then-is_put_off c rest a =
    c.is_put_off.ensures.attended c.if-is_put_off.true _ (ahead _ (keys_in c.args.together.now) c.args.key rest a)

pub returns : goal.returns
returns c rest a =
    let keys = keys_in c.args.together.now in
    subst (λ ks. IsAttended c.is_put_off.new.self (ks ++ rest)) (sym c.join.ensures)
    (joins _ keys c.args.key rest
    (subst (λ t. IsAttended t (keys ++ (c.args.key ∷ rest))) (sym (c.is_put_off.ensures.now c.if-is_put_off.false)) a))

use Rattle.std.proofs.Common.{[], ◌∷◌, if◌then◌else◌, decimal}
use Rattle.std.proofs.lemmas.Result.{IfOk-equal}
use Rattle.std.specs.Fmt.{signed_decimal}
use Rattle.reply_printer.proofs.Parts.{regroup}
use Rattle.reply_printer.proofs.opened.put_opened.Goals as goal

pub returns-clause-ok : goal.returns-clause-ok
returns-clause-ok c =
    let b = c.args.opened.now in
    IfOk-equal _ _ _ _ c.put_titles.ensures.ok (rw (c.in_ok-put_entry.ensures.ok, c.in_ok-put_host.ensures.ok)
    (regroup c.args.out.now.items (32 ∷ decimal b.battle_type) (32 ∷ decimal b.nat_type) (32 ∷ b.founder) (32 ∷ b.ip) (32 ∷ decimal b.port)
    (32 ∷ decimal b.max_players) (32 ∷ (if b.passworded then 49 else 48) ∷ []) (32 ∷ signed_decimal b.rank) (32 ∷ signed_decimal b.map_hash)
    (32 ∷ b.engine_name) (9 ∷ b.engine_version) (9 ∷ b.map) (9 ∷ b.title) (9 ∷ b.game_name)))

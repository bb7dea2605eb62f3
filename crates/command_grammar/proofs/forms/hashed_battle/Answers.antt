use Rattle.std.proofs.Common.{◌≡◌, rules, w64, to_z, of_z}
use Rattle.command_grammar.proofs.forms.hashed_battle.Goals as goal

pub returns : goal.returns
returns c =
    let game : to_z w64 (of_z w64 c.in_ok-game_hash.game_hash) ≡ c.in_ok-game_hash.game_hash = search rules in
    let rank : to_z w64 (of_z w64 c.in_ok-rank.rank) ≡ c.in_ok-rank.rank = search rules in
    let map : to_z w64 (of_z w64 c.in_ok-map_hash.map_hash) ≡ c.in_ok-map_hash.map_hash = search rules in
    rw (c.in_ok-game_hash.ensures.value, c.in_ok-rank.ensures.value, c.in_ok-map_hash.ensures.value) (simp (game, rank, map) at c.named_battle.ensures)

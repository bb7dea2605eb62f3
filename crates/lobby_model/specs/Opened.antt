-- What all know of a battle that was told of as it opened.
use Rattle.std.specs.Prelude.{ℕ, Bool}
use Rattle.reply_kinds.specs.declared.opened_battle.OpenedBattle.{OpenedBattle}
use Rattle.lobby_model.specs.State.{Info}

-- what was told of it as it opened, and the rest
abbrev pub info_of : OpenedBattle → ℕ → Bool → Info
info_of opened spectators locked = record {
  battle_type = opened.battle_type;
  nat_type = opened.nat_type;
  founder = opened.founder;
  ip = opened.ip;
  port = opened.port;
  max_players = opened.max_players;
  passworded = opened.passworded;
  rank = opened.rank;
  map_hash = opened.map_hash;
  engine_name = opened.engine_name;
  engine_version = opened.engine_version;
  map = opened.map;
  title = opened.title;
  game_name = opened.game_name;
  spectators = spectators;
  locked = locked;
}

-- what is told of it as it opens
abbrev pub told_of : Info → OpenedBattle
told_of info = record {
  battle_type = info.battle_type;
  nat_type = info.nat_type;
  founder = info.founder;
  ip = info.ip;
  port = info.port;
  max_players = info.max_players;
  passworded = info.passworded;
  rank = info.rank;
  map_hash = info.map_hash;
  engine_name = info.engine_name;
  engine_version = info.engine_version;
  map = info.map;
  title = info.title;
  game_name = info.game_name;
}

-- What a command that opens a battle says of it.
use Rattle.std.specs.Prelude.{◌≡◌, ℕ, ℤ, List, false}
use Rattle.reply_kinds.specs.declared.opened_battle.OpenedBattle.{OpenedBattle}
use Rattle.command_grammar.specs.declared.command.Command.{Command}
use Rattle.command_grammar.specs.declared.command.Command.TheVariants as command
use Rattle.room_lists.specs.Room.{Room}
use Rattle.lobby_model.specs.State.{Battle}
use Rattle.lobby_model.specs.Opened.{info_of}
use Rattle.battle_rules.specs.declared.battles.Opening.{Opening}
use Rattle.battle_rules.specs.declared.battles.Texts.{Texts}

-- the command whose arguments are lent
abbrev pub command_of : Opening → Command
command_of asked =
    command.OpenBattle asked.battle_type asked.nat_type asked.password.now asked.port asked.max_players
    asked.game_hash asked.rank asked.map_hash asked.engine_name.now asked.engine_version.now asked.map.now
    asked.title.now asked.game_name.now

-- the engine, the map, the title and the game are those of the command
abbrev pub HasTexts : Opening → Texts → Type 0
HasTexts asked texts =
    (texts.engine.name ≡ asked.engine_name.now) × (texts.engine.version ≡ asked.engine_version.now)
    × (texts.labels.map ≡ asked.map.now) × (texts.labels.title ≡ asked.title.now)
    × (texts.labels.game_name ≡ asked.game_name.now)

-- a battle as it opens: nobody watches it, and all may join it
abbrev pub started : OpenedBattle → List ℕ → ℤ → Room → Battle
started opened password game_hash room = record {
  info = info_of opened 0 false;
  password = password;
  game_hash = game_hash;
  room = room;
}

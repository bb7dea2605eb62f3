-- The rows of each table, and the texts of a row in their order. The first stands at n.
use Rattle.std.specs.Prelude.{◌+◌, ◌++◌, ℕ, Bool, true, false, List, length}
use Rattle.line_words.specs.declared.lists.Pair.{Pair}
use Rattle.room_lists.specs.Room.{Member, Bot, Rect}
use Rattle.lobby_view.specs.View.{Known, Listed}
use Rattle.lobby_lines.specs.Layout.{place}
use Rattle.lobby_lines.specs.declared.rows.UserRow.{UserRow}
use Rattle.lobby_lines.specs.declared.rows.BattleRow.{BattleRow}
use Rattle.lobby_lines.specs.declared.rows.MemberRow.{MemberRow}
use Rattle.lobby_lines.specs.declared.rows.BotRow.{BotRow}
use Rattle.lobby_lines.specs.declared.rows.TagRow.{TagRow}
use Rattle.lobby_lines.specs.declared.rows.RectRow.{RectRow}

abbrev pub bit : Bool → ℕ
bit false = 0
bit true = 1

-- a user by its name
abbrev pub user_shown : List ℕ × Known → List ℕ
user_shown e = e.0 ++ e.1.country

abbrev pub user_row : ℕ → List ℕ × Known → UserRow
user_row n e = record {
  name = place n e.0;
  country = place (n + length e.0) e.1.country;
  cpu = e.1.cpu;
  account = e.1.account;
  status = e.1.status;
}

-- a battle by its number
abbrev pub battle_shown : ℕ × Listed → List ℕ
battle_shown e =
    e.1.info.founder ++ e.1.info.ip ++ e.1.info.engine_name ++ e.1.info.engine_version ++ e.1.info.map
    ++ e.1.info.title ++ e.1.info.game_name

abbrev pub battle_row : ℕ → ℕ × Listed → BattleRow
battle_row n e = record {
  founder = place n e.1.info.founder;
  ip = place (n + length e.1.info.founder) e.1.info.ip;
  engine_name = place (n + length e.1.info.founder + length e.1.info.ip) e.1.info.engine_name;
  engine_version = place (n + length e.1.info.founder + length e.1.info.ip
      + length e.1.info.engine_name) e.1.info.engine_version;
  map = place (n + length e.1.info.founder + length e.1.info.ip + length e.1.info.engine_name
      + length e.1.info.engine_version) e.1.info.map;
  title = place (n + length e.1.info.founder + length e.1.info.ip + length e.1.info.engine_name
      + length e.1.info.engine_version
      + length e.1.info.map) e.1.info.title;
  game_name = place (n + length e.1.info.founder + length e.1.info.ip + length e.1.info.engine_name
      + length e.1.info.engine_version
      + length e.1.info.map + length e.1.info.title) e.1.info.game_name;
  rank = e.1.info.rank;
  map_hash = e.1.info.map_hash;
  number = e.0;
  port = e.1.info.port;
  max_players = e.1.info.max_players;
  spectators = e.1.info.spectators;
  battle_type = e.1.info.battle_type;
  nat_type = e.1.info.nat_type;
  passworded = bit e.1.info.passworded;
  locked = bit e.1.info.locked;
  unused = 0;
}

abbrev pub member_shown : Member → List ℕ
member_shown m = m.name

abbrev pub member_row : ℕ → Member → MemberRow
member_row n m = record { name = place n m.name; colour = m.colour; status = m.status; unused = 0 }

abbrev pub bot_shown : Bot → List ℕ
bot_shown b = b.name ++ b.owner ++ b.ai

abbrev pub bot_row : ℕ → Bot → BotRow
bot_row n b = record {
  name = place n b.name;
  owner = place (n + length b.name) b.owner;
  ai = place (n + length b.name + length b.owner) b.ai;
  colour = b.colour;
  status = b.status;
  unused = 0;
}

abbrev pub tag_shown : Pair → List ℕ
tag_shown t = t.key ++ t.value

abbrev pub tag_row : ℕ → Pair → TagRow
tag_row n t = record { key = place n t.key; value = place (n + length t.key) t.value }

abbrev pub rect_row : Rect → RectRow
rect_row r = record { left = r.left; top = r.top; right = r.right; bottom = r.bottom }

-- The arguments of BATTLEOPENED behind the battle's number.
use Rattle.std.specs.Prelude.{List, [], ◌∷◌}
use Rattle.reply_kinds.specs.declared.opened_battle.OpenedBattle.{OpenedBattle}
use Rattle.reply_kinds.specs.Kinds.{Kind, Word, Name, Number, Wide, Flag, Sentence, NextSentence, Values}

-- the engine, the map, the title and the game
abbrev pub title_kinds : List Kind
title_kinds = Sentence ∷ NextSentence ∷ NextSentence ∷ NextSentence ∷ NextSentence ∷ []

abbrev pub title_values : OpenedBattle → Values title_kinds
title_values b = (b.engine_name, (b.engine_version, (b.map, (b.title, (b.game_name, tt)))))

-- who may enter, the hash of the map, and these
abbrev pub entry_kinds : List Kind
entry_kinds = Number 0 65535 ∷ Flag ∷ Wide ∷ Wide ∷ title_kinds

abbrev pub entry_values : OpenedBattle → Values entry_kinds
entry_values b = (b.max_players, (b.passworded, (b.rank, (b.map_hash, title_values b))))

-- all: what the battle is, who hosts it where, and these
abbrev pub opened_kinds : List Kind
opened_kinds = Number 0 1 ∷ Number 0 2 ∷ Name ∷ Word ∷ Number 0 65535 ∷ entry_kinds

abbrev pub opened_values : OpenedBattle → Values opened_kinds
opened_values b = (b.battle_type, (b.nat_type, (b.founder, (b.ip, (b.port, entry_values b)))))

-- The status word of a member of a battle, as MYBATTLESTATUS and CLIENTBATTLESTATUS carry it.
use Rattle.std.specs.Prelude.{ℕ, ◌≤◌, true, false, List, [], ◌∷◌}
use Rattle.status_bits.specs.Fields.{Field, number_in, HasNoOtherBit}

-- whether the member is ready
abbrev pub ready : Field
ready = record { first = 1; width = 1; own = true }

-- its team, which shares units, and its ally team, whose teams fight side by side
abbrev pub team : Field
team = record { first = 2; width = 4; own = true }

abbrev pub ally : Field
ally = record { first = 6; width = 4; own = true }

-- 1 for a player, 0 for a spectator
abbrev pub player : Field
player = record { first = 10; width = 1; own = true }

-- percent, which the founder sets
abbrev pub handicap : Field
handicap = record { first = 11; width = 7; own = false }

-- whether the member has the same map and game: 0 not known, 1 yes, 2 no
abbrev pub sync : Field
sync = record { first = 22; width = 2; own = true }

-- the faction that it plays
abbrev pub side : Field
side = record { first = 24; width = 4; own = true }

abbrev pub battle_table : List Field
battle_table = ready ∷ team ∷ ally ∷ player ∷ handicap ∷ sync ∷ side ∷ []

-- Each bit outside the fields is clear, and the handicap is a percentage
abbrev pub IsBattleStatus : ℕ → Type 0
IsBattleStatus word = HasNoOtherBit battle_table word × (number_in handicap word ≤ 100)

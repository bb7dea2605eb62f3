-- What is told of words in a battle's room, and what its founder forces on a member.
use Rattle.std.specs.Prelude.{ℕ, ℤ, ◌<◌, ◌≤◌, List}
use Rattle.reply_kinds.specs.declared.Reply.{Reply}
use Rattle.reply_kinds.specs.declared.Reply.TheVariants as reply
use Rattle.status_bits.specs.Fields.{with_number}
use Rattle.status_bits.specs.BattleWord.{battle_table, team, ally, player, handicap}
use Rattle.lobby_model.specs.State.{State}
use Rattle.lobby_model.specs.Outcome.{Outcome}
use Rattle.lobby_model.specs.Rooms.{force_number, force_colour, removed_line, disabled_line, enabled_line}
use Rattle.battle_rules.specs.declared.rooms.Wording.{Wording}
use Rattle.battle_rules.specs.declared.rooms.Wording.TheVariants.{TagsGone, UnitsDisabled, UnitsEnabled}
use Rattle.battle_rules.specs.declared.rooms.Force.{Force}
use Rattle.battle_rules.specs.declared.rooms.Force.TheVariants as force

-- what the members are told of words, and what they are told where there may be none
abbrev pub words_line : Wording → List (List ℕ) → Reply
words_line TagsGone words = reply.RemoveScriptTags words
words_line UnitsDisabled words = reply.DisableUnits words
words_line UnitsEnabled words = reply.EnableUnits words

abbrev pub words_told : Wording → List (List ℕ) → List Reply
words_told TagsGone = removed_line
words_told UnitsDisabled = disabled_line
words_told UnitsEnabled = enabled_line

-- what a founder forces on a member, in the ranges of its argument
abbrev pub FitsForce : Force → Type 0
FitsForce (force.Handicap percent) = percent ≤ 100
FitsForce (force.Team number) = number < 16
FitsForce (force.Ally number) = number < 16
FitsForce (force.Colour colour) = Unit {0}
FitsForce force.Spectator = Unit {0}

abbrev pub forced : State → List ℕ → List ℕ → Force → Outcome
forced s me name (force.Handicap percent) = force_number s me name handicap percent
forced s me name (force.Team number) = force_number s me name team number
forced s me name (force.Ally number) = force_number s me name ally number
forced s me name (force.Colour colour) = force_colour s me name colour
forced s me name force.Spectator = force_number s me name player 0

abbrev pub forced_status : Force → ℕ → ℕ
forced_status (force.Handicap percent) status = with_number battle_table handicap percent status
forced_status (force.Team number) status = with_number battle_table team number status
forced_status (force.Ally number) status = with_number battle_table ally number status
forced_status (force.Colour colour) status = status
forced_status force.Spectator status = with_number battle_table player 0 status

abbrev pub forced_colour : Force → ℤ → ℤ
forced_colour (force.Handicap percent) colour = colour
forced_colour (force.Team number) colour = colour
forced_colour (force.Ally number) colour = colour
forced_colour (force.Colour asked) colour = asked
forced_colour force.Spectator colour = colour

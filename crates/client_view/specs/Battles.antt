-- Changes of a listed battle, and what undoes them.
use Rattle.lobby_model.specs.State.{updated}
use Rattle.lobby_view.specs.View.{Listed, change_members, change_listed_info}
use Rattle.client_view.specs.Names.{names_after, names_back}
use Rattle.client_view.specs.declared.lists.battles.Update.{Update}
use Rattle.client_view.specs.declared.lists.battles.BattleChange.{BattleChange}
use Rattle.client_view.specs.declared.lists.battles.BattleChange.TheVariants as change
use Rattle.client_view.specs.declared.lists.battles.BattleWas.{BattleWas}
use Rattle.client_view.specs.declared.lists.battles.BattleWas.TheVariants as was

abbrev pub with_update : Update → Listed → Listed
with_update u = change_listed_info (updated u.spectators u.locked u.map_hash u.map)

abbrev pub battle_after : BattleChange → Listed → Listed
battle_after (change.Info update) battle = with_update update battle
battle_after (change.Members names) battle = change_members (names_after names) battle

abbrev pub battle_back : BattleWas → Listed → Listed
battle_back (was.Info update) battle = with_update update battle
battle_back (was.Members names) battle = change_members (names_back names) battle

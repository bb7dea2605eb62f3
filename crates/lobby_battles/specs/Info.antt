-- What all know of a battle, changed.
use Rattle.lobby_model.specs.State.{Info, Battle}

abbrev pub info_changed : (Info → Info) → Battle → Battle
info_changed f battle = record battle { info = f battle.info }

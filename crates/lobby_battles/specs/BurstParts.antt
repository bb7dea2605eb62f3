-- What a login tells of users and battles, part by part.
use Rattle.std.specs.Prelude.{ℕ, List, [], ◌∷◌, map, flat_map, None}
use Rattle.reply_kinds.specs.declared.Reply.{Reply}
use Rattle.reply_kinds.specs.declared.Reply.TheVariants as reply
use Rattle.line_words.specs.Table.{ByName, all_but}
use Rattle.room_lists.specs.Room.{member_names}
use Rattle.lobby_model.specs.State.{User, Battle}
use Rattle.lobby_model.specs.Sessions.{added, shown_status}
use Rattle.lobby_battles.specs.declared.burst_parts.Part.{Part}
use Rattle.lobby_battles.specs.declared.burst_parts.Part.TheVariants.{Presence, Status}

abbrev pub part_of : Part → List ℕ → User → List Reply
part_of Presence name user = added name user ∷ []
part_of Status name user = shown_status name user

abbrev pub parts_of : Part → ByName User → List Reply
parts_of part users = flat_map (λ e. part_of part e.0 e.1) users

-- the members of a battle besides its founder
abbrev pub guest_lines : ℕ → Battle → List Reply
guest_lines number battle = map (λ name. reply.JoinedBattle number name None)
    (all_but battle.info.founder (member_names battle.room))

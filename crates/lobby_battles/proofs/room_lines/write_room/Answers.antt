use Rattle.lobby_battles.proofs.Written.{settled}
use Rattle.lobby_battles.proofs.room_lines.write_room.Goals as goal

pub write_bots-requires : goal.write_bots-requires
write_bots-requires c = settled c.args.recipient _ _ _ c.in_ok-write_statuses.ensures

pub write_rects-requires : goal.write_rects-requires
write_rects-requires c = settled c.args.recipient _ _ _ c.in_ok-write_bots.ensures

pub write_tags-requires : goal.write_tags-requires
write_tags-requires c = settled c.args.recipient _ _ _ c.in_ok-write_rects.ensures

pub write_units-requires : goal.write_units-requires
write_units-requires c = settled c.args.recipient _ _ _ c.in_ok-write_tags.ensures

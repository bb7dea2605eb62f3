use Rattle.std.specs.Ordering.{nat_cmp}
use Rattle.line_words.proofs.Once.{contradiction}
use Rattle.room_lists.specs.Room.{has_member}
use Rattle.lobby_model.proofs.Finding.{none_at}
use Rattle.lobby_model.specs.State.{Battle}
use Rattle.lobby_machine.proofs.rules.session.tell_battle_left.Goals as goal

pub returns-in_default-clause-only : goal.returns-in_default-clause-only
returns-in_default-clause-only c = λ number b there in_it.
    contradiction (has_member c.args.me.now b.room) in_it
    (none_at nat_cmp (λ (x : Battle). has_member c.args.me.now x.room) c.args.maps.now.plain.battles (c.battle_of.ensures.none c.in_default.is) number b there)

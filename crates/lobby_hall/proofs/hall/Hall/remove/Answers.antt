use Rattle.lobby_hall.proofs.Following.{follows_shut}
use Rattle.lobby_hall.proofs.Logs.{completed_within}
use Rattle.lobby_hall.proofs.hall.Hall.remove.Goals as goal

pub returns-clause-within : goal.returns-clause-within
returns-clause-within c = rw (← c.self.view_is) (completed_within 1 c.self.inside.logs c.self.inside.lobby.plain c.self.invariant.within)

pub invariant_of-self-2 : goal.invariant_of-self-2
invariant_of-self-2 c =
    follows_shut c.self.inside.homes c.catch_up_changed.new.lobby c.catch_up_changed.new.behind c.catch_up_changed.new.self c.catch_up_changed.ensures.follows
    c.args.client c.shut.new.self c.in_ok-catch_up_changed.ensures.full c.in_ok-shut.ensures.ok c.in_ok-shut.ensures.dirty

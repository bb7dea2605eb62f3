use Rattle.lobby_hall.proofs.Following.{follows_say}
use Rattle.lobby_hall.proofs.Logs.{completed_within}
use Rattle.lobby_hall.proofs.hall.Hall.say.Goals as goal

pub returns-clause-within : goal.returns-clause-within
returns-clause-within c = rw (← c.self.view_is) (completed_within 1 c.self.inside.logs c.self.inside.lobby.plain c.self.invariant.within)

pub invariant_of-self-2 : goal.invariant_of-self-2
invariant_of-self-2 c =
    follows_say c.self.inside.homes c.catch_up_changed.new.lobby c.catch_up_changed.new.behind c.catch_up_changed.new.self c.catch_up_changed.ensures.follows
    c.args.client c.args.request.now c.say.new.self c.in_ok-catch_up_changed.ensures.full c.in_ok-say.ensures.ok c.in_ok-say.ensures.dirty

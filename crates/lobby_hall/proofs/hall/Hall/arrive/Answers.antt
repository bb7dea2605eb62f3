use Rattle.std.proofs.Common.{subst}
use Rattle.std.specs.Prelude.{OnErr}
use Rattle.lobby_hall.specs.Copied.{completed}
use Rattle.lobby_hall.specs.Standing.{Kept, session_at}
use Rattle.lobby_hall.specs.Wanting.{TakesIn}
use Rattle.lobby_hall.proofs.Answered.{fed_ok}
use Rattle.lobby_hall.proofs.hall.Hall.arrive.Goals as goal

pub returns-clause-ok : goal.returns-clause-ok
returns-clause-ok c =
    rw (← c.self.view_is) (fed_ok c.self.inside.lobby.plain c.self.inside.sessions.items (completed c.self.inside.logs c.self.inside.lobby.plain) c.feed.result c.args.client c.args.bytes.now c.feed.new.sessions.items c.feed.ensures.fed c.feed.ensures.others c.feed.ensures.same_length)

pub returns-clause-wanted : goal.returns-clause-wanted
returns-clause-wanted c = subst (λ (h : Kept). OnErr c.feed.result (TakesIn (session_at h.sessions c.args.client) c.args.bytes.now)) c.self.view_is c.feed.ensures.wanted

use Rattle.std.proofs.Common.{ap, refl, sym}
use Rattle.std.specs.Prelude.{None, Some}
use Rattle.lobby_model.specs.Battles.{is_authorising}
use Rattle.lobby_battles.specs.OnlineUsers.{users_of}
use Rattle.lobby_battles.proofs.Users.{user_at}
use Rattle.lobby_battles.proofs.online_users.OnlineUsers.is_authorising.Goals as goal

pub returns-in-Some : goal.returns-in-Some
returns-in-Some c =
    sym (ap is_authorising (user_at c.args.self.now.users.entries (users_of c.args.self.now.users.entries) c.args.name.now (Some c.in-Some.online_user.now) refl
    c.in-Some.ensures.value))

pub returns-in-None : goal.returns-in-None
returns-in-None c =
    sym (ap is_authorising (user_at c.args.self.now.users.entries (users_of c.args.self.now.users.entries) c.args.name.now None refl
    c.in-None.ensures.value))

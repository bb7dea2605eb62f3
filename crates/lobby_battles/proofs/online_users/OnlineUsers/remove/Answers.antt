use Rattle.std.proofs.Common.{◌∙◌}
use Rattle.line_words.specs.Table.{name_cmp}
use Rattle.line_words.proofs.Tables.{name_cmp_total}
use Rattle.line_words.proofs.Written.{remove_is_without}
use Rattle.lobby_battles.proofs.online_users.OnlineUsers.remove.Goals as goal

pub returns-in-Some-clause-users : goal.returns-in-Some-clause-users
returns-in-Some-clause-users c = rw c.in-Some.is (c.remove-in-Some.ensures.entries
    ∙ remove_is_without name_cmp name_cmp_total c.in-Some.name c.args.self.now.users.entries c.len.ensures.ordered)

pub returns-in-Some-clause-clients : goal.returns-in-Some-clause-clients
returns-in-Some-clause-clients c = c.remove.ensures.updates.0

pub returns-in_default-clause-clients : goal.returns-in_default-clause-clients
returns-in_default-clause-clients c = c.remove.ensures.updates.0

use Rattle.std.proofs.Common.{◌∙◌, sym}
use Rattle.line_words.specs.Table.{name_cmp}
use Rattle.line_words.proofs.Tables.{name_cmp_total}
use Rattle.lobby_battles.specs.OnlineUsers.{online_user_with}
use Rattle.line_words.proofs.Ties.{none_of}
use Rattle.line_words.proofs.Written.{set_is_change, none_is_change}
use Rattle.lobby_battles.proofs.online_users.OnlineUsers.set_status.Goals as goal

pub returns-in-Some-clause-users : goal.returns-in-Some-clause-users
returns-in-Some-clause-users c =
    (c.get_mut.follows.holds (online_user_with c.args.status c.in-Some.online_user.now)).0
    ∙ set_is_change name_cmp name_cmp_total (online_user_with c.args.status) c.args.name.now c.in-Some.online_user.now c.args.self.now.users.entries
    c.get_mut.ensures.ordered (sym c.in-Some.ensures.value)

pub returns-in_default-clause-users : goal.returns-in_default-clause-users
returns-in_default-clause-users c =
    (λ i. (c.get_mut.follows.holds-at-none i).entries)
    ∙ none_is_change name_cmp name_cmp_total (online_user_with c.args.status) c.args.name.now c.args.self.now.users.entries
    (sym (none_of c.get_mut.result c.in_default.not-Some ∙ c.get_mut.ensures.value))

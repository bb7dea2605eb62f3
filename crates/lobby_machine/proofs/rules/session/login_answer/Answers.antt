use Rattle.std.proofs.Common.{◌≡◌, None, rules}
use Rattle.lobby_model.specs.State.{name_of}
use Rattle.lobby_machine.proofs.Logins.{let_in}
use Rattle.lobby_machine.proofs.rules.session.login_answer.Goals as goal

pub returns-in-Some-name_if_free : goal.returns-in-Some-name_if_free
returns-in-Some-name_if_free c =
    let nobody : name_of c.args.maps.now.plain c.args.client ≡ None = search rules in
    let_in c.args.maps.now.plain c.args.client c.args.user_name.now c.args.password.now c.in-Some.account.now nobody
    c.in-Some.ensures.some c.in-Some-name_if_free.ensures.some.1

use Rattle.std.proofs.Common.{◌≡◌, ◌∙◌, ap, subst, sym, true}
use Rattle.std.specs.Prelude.{is_some, ◌&&◌}
use Rattle.command_grammar.specs.declared.command.Command.{Command}
use Rattle.lobby_model.specs.State.{State, hears, name_of}
use Rattle.lobby_model.specs.Commands.{answer}
use Rattle.lobby_machine.specs.declared.lobby.Parts.{Parts}
use Rattle.lobby_machine.specs.Logins.{ComesTo, is_heard_login}
use Rattle.lobby_machine.proofs.lobby.Lobby.login_answer.Goals as goal

pub returns : goal.returns
returns c =
    let r = c.in-Login in
    let s : State = c.deref.result.now.maps.plain in
    let heard : hears s c.args.client ≡ true = sym c.issuer.ensures.hears ∙ ap is_some c.in-Some.is in
    rw (← ap (λ (p : Parts). p.maps) c.deref.ensures ∙ c.self.view_is)
    (subst (λ (x : Command). (is_heard_login s c.args.client x ≡ true)
    × ComesTo s c.args.client x (answer s c.args.client (name_of s c.args.client) x) c.login_answer.result) (sym r.is)
    (ap (λ b. b && true) heard, c.login_answer.ensures r.cpu r.local_ip r.lobby r.authorises))

use Rattle.std.proofs.Common.{◌∙◌, ap, sym}
use Rattle.std.specs.Prelude.{is_some}
use Rattle.line_words.specs.Table.{at_number}
use Rattle.lobby_hall.specs.Standing.{Kept}
use Rattle.lobby_hall.proofs.Answered.{shut_ok}
use Rattle.lobby_hall.proofs.Wanted.{always_err}
use Rattle.lobby_hall.proofs.hall.Hall.shut.Goals as goal

pub returns-clause-ok : goal.returns-clause-ok
returns-clause-ok c =
    shut_ok c.args.self.now.lobby c.args.self.now.sessions c.args.self.now.record_so_far c.remove.new.self c.args.client c.remove.result
    (ap (λ (h : Kept). is_some (at_number h.lobby.clients c.args.client)) (sym c.self.view_is) ∙ sym c.has_client.ensures ∙ c.if-not-has_client.false)
    c.remove.ensures.lobby c.remove.ensures.sessions c.remove.ensures.logs c.remove.ensures.within

pub returns-clause-wanted : goal.returns-clause-wanted
returns-clause-wanted c =
    always_err c.remove.result (ap (λ (h : Kept). is_some (at_number h.lobby.clients c.args.client)) (sym c.self.view_is) ∙ sym c.has_client.ensures ∙ c.if-not-has_client.false)

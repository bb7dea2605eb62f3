use Rattle.std.proofs.Common.{◌≡◌, [], List, filter, sym, subst}
use Rattle.line_words.specs.Table.{ByNumber}
use Rattle.lobby_post.specs.Mail.{Mailbox}
use Rattle.lobby_post.specs.Dirty.{AreKnown, Roomy, listings_of, stands}
use Rattle.lobby_post.specs.Crowd.{line_at, lines_of}
use Rattle.lobby_post.proofs.Counts.{filter_none}
use Rattle.lobby_post.proofs.Homes.{known_of_nobody}
use Rattle.lobby_post.proofs.clients.Clients.new.Goals as goal

pub returns-clause-known : goal.returns-clause-known
returns-clause-known c =
    subst (λ (es : ByNumber Mailbox). AreKnown (listings_of es) (line_at (lines_of c.new-3.result)) 0) (sym c.new.ensures)
    (subst (λ (ds : List Roomy). AreKnown [] (line_at (lines_of ds)) 0) (sym c.new-3.ensures) known_of_nobody)

pub returns-clause-waits : goal.returns-clause-waits
returns-clause-waits c = λ h.
    subst (λ (es : ByNumber Mailbox). filter (stands (listings_of es) h) (line_at (lines_of c.new-3.result) h).waiting ≡ []) (sym c.new.ensures)
    (filter_none (line_at (lines_of c.new-3.result) h).waiting)

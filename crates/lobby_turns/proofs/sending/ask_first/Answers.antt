use Rattle.std.proofs.Common.{◌∙◌, [], refl, sym, subst, true≢false}
use Rattle.lobby_holds.specs.Snapshot.{among}
use Rattle.lobby_holds.specs.Wire.{untouched}
use Rattle.lobby_holds.specs.Holds.{Asks}
use Rattle.lobby_holds.proofs.Kept.{kept}
use Rattle.lobby_turns.proofs.Sendings.{no_write, sending_none, sending_asked}
use Rattle.lobby_turns.proofs.sending.ask_first.Goals as goal

pub returns-then-is_written-clause-on : goal.returns-then-is_written-clause-on
returns-then-is_written-clause-on g c = λ _ others wire. sending_none (among others c.args.conn.now wire c.args.pass) (c.is_written.ensures.0 c.if-is_written.true)

pub returns-clause-on : goal.returns-clause-on
returns-clause-on g c = λ goes_on others wire.
    sending_asked _ _ _ (λ none. true≢false (sym (c.is_written.ensures.1 none) ∙ c.if-is_written.false)) goes_on (no_write _ _ refl refl refl) (c.is_finished.ensures others wire)

pub returns-clause-finished : goal.returns-clause-finished
returns-clause-finished g c = λ is_so. (
  λ none. true≢false (sym (c.is_written.ensures.1 none) ∙ c.if-is_written.false),
  λ others wire. subst (λ b. Asks (among others c.args.conn.now wire c.args.pass) (among others c.args.conn.now wire c.is_finished.result.0) b) is_so (c.is_finished.ensures others wire),
)

pub returns-clause-desk : goal.returns-clause-desk
returns-clause-desk g c = (kept _ _ _ (c.is_finished.ensures [] untouched).went.joined.joined).0

pub returns-clause-number : goal.returns-clause-number
returns-clause-number g c = (kept _ _ _ (c.is_finished.ensures [] untouched).went.joined.joined).1

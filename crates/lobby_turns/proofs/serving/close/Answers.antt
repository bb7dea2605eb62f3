use Rattle.std.proofs.Common.{[], refl}
use Rattle.lobby_holds.specs.Wire.{untouched}
use Rattle.lobby_holds.proofs.Kept.{kept}
use Rattle.lobby_holds.proofs.Talks.{from_ok, from_err}
use Rattle.lobby_turns.proofs.Turns.{closes_shut}
use Rattle.lobby_turns.proofs.serving.close.Goals as goal

pub returns-in-Ok-clause-closes : goal.returns-in-Ok-clause-closes
returns-in-Ok-clause-closes g c = λ others wire. closes_shut _ _ _ _ _ _ (from_ok _ _ _ c.in-Ok.is c.shut-pass.ensures.ok others wire) c.union.ensures

pub returns-in-Err-clause-closes : goal.returns-in-Err-clause-closes
returns-in-Err-clause-closes g c = λ others wire. (from_err _ _ _ c.in-Err.is c.shut-pass.ensures.err others wire, refl, from_err _ _ _ c.in-Err.is c.shut-pass.ensures.untold)

pub returns-in-Ok-clause-desk : goal.returns-in-Ok-clause-desk
returns-in-Ok-clause-desk g c = (kept _ _ _ (from_ok _ _ _ c.in-Ok.is c.shut-pass.ensures.ok [] untouched).went.joined.joined).0

pub returns-in-Ok-clause-number : goal.returns-in-Ok-clause-number
returns-in-Ok-clause-number g c = (kept _ _ _ (from_ok _ _ _ c.in-Ok.is c.shut-pass.ensures.ok [] untouched).went.joined.joined).1

pub returns-in-Err-clause-desk : goal.returns-in-Err-clause-desk
returns-in-Err-clause-desk g c = (kept _ _ _ (from_err _ _ _ c.in-Err.is c.shut-pass.ensures.err [] untouched).joined.joined).0

pub returns-in-Err-clause-number : goal.returns-in-Err-clause-number
returns-in-Err-clause-number g c = (kept _ _ _ (from_err _ _ _ c.in-Err.is c.shut-pass.ensures.err [] untouched).joined.joined).1

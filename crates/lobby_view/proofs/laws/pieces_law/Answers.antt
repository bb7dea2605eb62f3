use Rattle.lobby_view.proofs.Pieces.{view_goes_on, view_stays}
use Rattle.lobby_view.proofs.laws.pieces_law.Goals as goal

pub returns-clause-sound : goal.returns-clause-sound
returns-clause-sound c = view_goes_on

pub returns-clause-spoilt : goal.returns-clause-spoilt
returns-clause-spoilt c = view_stays

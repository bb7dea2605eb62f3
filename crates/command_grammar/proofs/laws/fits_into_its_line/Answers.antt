use Rattle.command_grammar.proofs.Bounds.{request_fits}
use Rattle.command_grammar.proofs.laws.fits_into_its_line.Goals as goal

pub returns : goal.returns
returns c = request_fits

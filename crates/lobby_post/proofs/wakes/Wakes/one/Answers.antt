use Rattle.lobby_post.proofs.Masks.{home_bit}
use Rattle.lobby_post.proofs.wakes.Wakes.one.Goals as goal

pub returns : goal.returns
returns c = λ other. home_bit c.args.home other c.requires

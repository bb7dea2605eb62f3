use Rattle.std.proofs.Common.{◌∙◌}
use Rattle.std.specs.Prelude.{◌||◌}
use Rattle.lobby_post.specs.Mask.{has_home}
use Rattle.lobby_post.proofs.Masks.{has_home_or}
use Rattle.lobby_post.proofs.wakes.Wakes.union.Goals as goal

pub returns : goal.returns
returns c = λ home. has_home_or c.self.inside.mask c.other.inside.mask home ∙ (λ i. has_home (c.self.view_is i) home || has_home (c.other.view_is i) home)

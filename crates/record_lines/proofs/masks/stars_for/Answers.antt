use Rattle.std.proofs.Common.{◌∙◌, take}
use Rattle.record_lines.proofs.Masked.{stars_kept}
use Rattle.record_lines.proofs.masks.stars_for.Goals as goal

pub copy_of-requires : goal.copy_of-requires
copy_of-requires c =
    rw (c.deref.ensures.value ∙ c.loop.invariant) (stars_kept (take c.loop.index c.as_slice-items.result.now))

use Rattle.std.proofs.Common.{◌∙◌, ap, refl}
use Rattle.account_faults.specs.Names.{place_of}
use Rattle.account_faults.proofs.Places.{lookup-place_of}
use Rattle.account_faults.proofs.names.Names.place_of.Goals as goal

pub returns : goal.returns
returns c =
    c.copied.ensures ∙ c.get.ensures.value ∙ lookup-place_of _ c.args.name.now (λ key. refl) c.self.inside.places.entries
    ∙ ap (place_of c.args.name.now) c.self.view_is

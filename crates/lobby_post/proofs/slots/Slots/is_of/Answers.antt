use Rattle.std.proofs.Common.{◌∙◌, ap, sym}
use Rattle.std.specs.Ordering.{nat_cmp}
use Rattle.std.specs.BTreeMap.{is_at}
use Rattle.line_words.specs.Table.{same_number}
use Rattle.lobby_model.proofs.Splits.{lookup-values, lookup-values-none}
use Rattle.lobby_post.specs.Dirty.{is_of, listing_of}
use Rattle.lobby_post.proofs.Listed.{same_is_eq}
use Rattle.lobby_post.proofs.slots.Slots.is_of.Goals as goal

pub returns-in-Some : goal.returns-in-Some
returns-in-Some c =
    same_is_eq c.home.result c.args.home ∙ ap (λ h. same_number h c.args.home) c.home.ensures.home
    ∙ sym (ap (is_of c.args.home) (lookup-values listing_of (is_at (nat_cmp c.args.client)) c.in-Some.slot.now c.args.self.now (sym c.in-Some.ensures.value)))

pub returns-in-None : goal.returns-in-None
returns-in-None c =
    sym (ap (is_of c.args.home) (lookup-values-none listing_of (is_at (nat_cmp c.args.client)) c.args.self.now (sym c.in-None.ensures.value)))

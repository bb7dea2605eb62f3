use Rattle.std.proofs.Common.{◌∙◌, ap, sym, refl, true, ◌++◌}
use Rattle.client_view.specs.Following.{Following}
use Rattle.client_view.proofs.Feeding.{is_long, is_short, rest_taken, rest_count, rest_long}
use Rattle.client_view.proofs.view.View.feed_unfinished.Goals as goal

pub returns-then-is_too_long-clause-too_long : goal.returns-then-is_too_long-clause-too_long
returns-then-is_too_long-clause-too_long c = λ _.
    let long = is_long c.args.self.now.rest c.args.more.now (sym c.is_too_long.ensures ∙ c.if-is_too_long.true) in (
      rest_long c.args.self.now c.args.more.now c.requires.line c.requires.live long
          (record { known = c.self.inside.known.now; rest = c.self.inside.rest.items; spoilt = true })
          (ap (λ (f : Following). f.known) c.self.view_is) refl,
      refl,
    )

pub returns-clause-ok : goal.returns-clause-ok
returns-clause-ok c =
    let short = is_short c.args.self.now.rest c.args.more.now (sym c.is_too_long.ensures ∙ c.if-is_too_long.false) in (
      rest_taken c.args.self.now c.args.more.now c.requires.line c.requires.live short
          (record { known = c.self.inside.known.now; rest = c.extend_from_slice.new.self.items; spoilt = c.self.inside.spoilt })
          (ap (λ (f : Following). f.known) c.self.view_is)
          (c.in_ok-extend_from_slice.ensures.items ∙ ap (λ (f : Following). f.rest ++ c.args.more.now) c.self.view_is)
          (ap (λ (f : Following). f.spoilt) c.self.view_is),
      ap (λ (f : Following). f.spoilt) c.self.view_is ∙ c.requires.live,
      rest_count c.args.self.now c.args.more.now c.requires.line c.requires.live short,
    )

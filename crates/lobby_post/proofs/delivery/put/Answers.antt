use Rattle.std.proofs.Common.{◌≡◌, ◌∙◌, ap, sym, Bool, true, false, refl}
use Rattle.std.specs.Prelude.{◌&&◌}
use Rattle.line_words.specs.Table.{same_number}
use Rattle.lobby_post.proofs.delivery.put.Goals as goal

with_true : (s t : Bool) → t ≡ true → s ≡ (s && t)
with_true true t e = sym e
with_true false t e = refl

pub returns-clause-home : goal.returns-clause-home
returns-clause-home c = λ home.
    c.one.ensures home ∙ ap (λ h. same_number h home) (c.home-home.ensures.home ∙ c.put.ensures.client.home)
    ∙ with_true _ _ (sym c.put.ensures.touched ∙ c.if-not-put.false)

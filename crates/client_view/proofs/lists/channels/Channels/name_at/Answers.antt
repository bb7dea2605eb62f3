use Rattle.std.proofs.Common.{◌∙◌, ap, sym, List, ℕ, Bor}
use Rattle.std.specs.Prelude.{Option}
use Rattle.std.specs.Option.{option_map}
use Rattle.client_view.proofs.NthKey.{nth_key}
use Rattle.client_view.proofs.lists.channels.Channels.name_at.Goals as goal

pub returns-in-Some-clause-name : goal.returns-in-Some-clause-name
returns-in-Some-clause-name c =
    ap (λ (r : Option (Bor (List ℕ) × Bor (List (List ℕ)))). option_map (λ p. p.0.now) r) (sym c.in-Some.is)
    ∙ nth_key c.iter.result c.args.self.now c.args.k c.nth.result c.nth.new.self c.nth.ensures.ran (c.iter.ensures.rest ∙ c.self.view_is)

pub returns-in-None-clause-name : goal.returns-in-None-clause-name
returns-in-None-clause-name c =
    ap (λ (r : Option (Bor (List ℕ) × Bor (List (List ℕ)))). option_map (λ p. p.0.now) r) (sym c.in-None.is)
    ∙ nth_key c.iter.result c.args.self.now c.args.k c.nth.result c.nth.new.self c.nth.ensures.ran (c.iter.ensures.rest ∙ c.self.view_is)

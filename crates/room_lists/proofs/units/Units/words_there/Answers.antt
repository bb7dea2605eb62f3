use Rattle.std.proofs.Common.{◌∙◌, ap}
use Rattle.std.specs.Prelude.{ℕ, List}
use Rattle.std.proofs.lemmas.Result.{IfOk-weaker}
use Rattle.room_lists.specs.Units.{unit_key, without_units, words_there}
use Rattle.room_lists.proofs.Removed.{there_alone}
use Rattle.room_lists.proofs.units.Units.words_there.Goals as goal

pub returns-clause-alike : goal.returns-clause-alike
returns-clause-alike c =
    IfOk-weaker c.keys_there.result _ _ (λ there is.
    ap (without_units c.args.self.now) (is ∙ ap (λ (us : List (List ℕ)). words_there us c.args.words.now) c.self.view_is)
    ∙ there_alone unit_key c.args.words.now c.args.self.now) c.keys_there.ensures

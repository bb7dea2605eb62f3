use Rattle.std.proofs.Common.{◌∙◌, ap}
use Rattle.std.specs.Prelude.{List}
use Rattle.std.proofs.lemmas.Result.{IfOk-weaker}
use Rattle.line_words.specs.declared.lists.Pair.{Pair}
use Rattle.room_lists.specs.Tags.{keys_there, tag_key, without_tags}
use Rattle.room_lists.proofs.Removed.{there_alone}
use Rattle.room_lists.proofs.tags.Tags.keys_there.Goals as goal

pub returns-clause-alike : goal.returns-clause-alike
returns-clause-alike c =
    IfOk-weaker c.keys_there.result _ _ (λ there is.
    ap (without_tags c.args.self.now) (is ∙ ap (λ (ts : List Pair). keys_there ts c.args.keys.now) c.self.view_is)
    ∙ there_alone tag_key c.args.keys.now c.args.self.now) c.keys_there.ensures

use Rattle.std.proofs.Common.{◌∙◌, ap, rules, not}
use Rattle.std.specs.Prelude.{List, filter}
use Rattle.std.proofs.lemmas.Fn.{filter_same}
use Rattle.line_words.specs.Table.{same_name}
use Rattle.room_lists.specs.Room as room
use Rattle.room_lists.proofs.bots.Bots.remove_owned.Goals as goal

pub returns : goal.returns
returns g c =
    filter_same _ (λ b. not (same_name c.args.owner.now b.owner)) _ (λ x b f' k. search rules) _ _ c.retain.ensures.filtered
    ∙ ap (λ (bots : List room.Bot). filter (λ b. not (same_name c.args.owner.now b.owner)) bots) c.self.view_is

use Rattle.std.proofs.Common.{◌∙◌, ap, rules, not}
use Rattle.std.specs.Prelude.{List, filter}
use Rattle.std.proofs.lemmas.Fn.{filter_same}
use Rattle.line_words.specs.Table.{same_name}
use Rattle.room_lists.specs.Room as room
use Rattle.view_room.proofs.members.Members.remove.Goals as goal

pub returns : goal.returns
returns c =
    filter_same _ (λ m. not (same_name c.args.name.now m.name)) _ (λ x b f' k. search rules) _ _ c.retain.ensures.filtered
    ∙ ap (λ (ms : List room.Member). filter (λ m. not (same_name c.args.name.now m.name)) ms) c.self.view_is

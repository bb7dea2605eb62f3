use Rattle.std.proofs.Common.{◌∙◌, ap}
use Rattle.std.specs.Ordering.{nat_cmp}
use Rattle.line_words.specs.Table.{put_number}
use Rattle.line_words.proofs.Tables.{insert_is_put}
use Rattle.lobby_battles.proofs.battles.Battles.add.Goals as goal

pub returns-clause-battles : goal.returns-clause-battles
returns-clause-battles c =
    c.in-Ok.ensures.entries
    ∙ insert_is_put nat_cmp c.args.self.now.by_number.entries c.args.number c.into_inner.result
    ∙ ap (put_number c.args.self.now.by_number.entries c.args.number) c.into_inner.ensures

use Rattle.std.proofs.Common.{[], ◌∷◌, ap, sym, ◌∙◌}
use Rattle.std.specs.Cmp.Lexicographic.{texts_ties}
use Rattle.line_words.proofs.Tables.{same_name_is}
use Rattle.lobby_machine.proofs.Alone.{one_listed}
use Rattle.lobby_machine.proofs.rules.channels.is_alone.Goals as goal

pub returns-in-len1 : goal.returns-in-len1
returns-in-len1 c = λ same.
    one_listed c.args.names.now c.only-item.result c.in-len1.len_at_least c.in-len1.len_below c.only-item.is
    ∙ ap (λ name. name ∷ []) (same_name_is c.only-item.result c.args.me.now (sym (texts_ties c.only-item.result c.args.me.now) ∙ sym c.eq.ensures ∙ same))

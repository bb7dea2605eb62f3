use Rattle.std.proofs.Common.{◌∙◌, ap, sym, subst, rules}
use Rattle.line_words.specs.Table.{all_but}
use Rattle.line_words.proofs.Written.{retained}
use Rattle.channel_book.specs.Channels.{has_names, all_left}
use Rattle.channel_book.specs.Book.{AreLively}
use Rattle.channel_book.proofs.Lively.{AreLively-all_left}
use Rattle.channel_book.proofs.lists.Lists.remove_from_all.Goals as goal

pub invariant_of-self : goal.invariant_of-self
invariant_of-self g c =
    subst AreLively (sym (retained _ (all_but c.args.user.now) has_names _ (λ k v b w f' t. search rules) _ _ c.retain.ensures.filtered))
    (AreLively-all_left c.args.user.now c.self.inside.channels.entries)

pub returns : goal.returns
returns g c =
    retained _ (all_but c.args.user.now) has_names _ (λ k v b w f' t. search rules) _ _ c.retain.ensures.filtered
    ∙ ap (all_left c.args.user.now) c.self.view_is

use Rattle.std.proofs.Common.{◌∙◌, ap, refl}
use Rattle.account_book.proofs.Index.{lookup-account_of}
use Rattle.account_book.specs.Book.{account_of}
use Rattle.account_book.proofs.book.AccountBook.get.Goals as goal

pub returns : goal.returns
returns c =
    c.get.ensures.value
    ∙ lookup-account_of _ c.args.name.now
    (λ key. refl) c.self.inside.accounts.entries c.self.invariant.0
    ∙ ap (account_of c.args.name.now) c.self.view_is

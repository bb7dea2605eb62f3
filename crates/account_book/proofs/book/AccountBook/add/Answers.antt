use Rattle.std.proofs.Common.{◌≡◌, ◌∙◌, [], ◌∷◌, ◌++◌, ap, subst, sym, rules, None, is_some, false}
use Rattle.std.specs.Str.{bytes_eq}
use Rattle.std.proofs.lemmas.List.{map-append}
use Rattle.account_book.specs.Book.{account_of}
use Rattle.line_words.proofs.Options.{none_from_is_some}
use Rattle.account_book.proofs.Index.{Entry, accounts_in, insert_entry-push, IsIndex-push, from_ok}
use Rattle.account_book.proofs.book.AccountBook.add.Goals as goal

-- no account has the new one's name
unknown : (c : goal.Else-is_err)
    → account_of c.args.account.name (accounts_in c.self.inside.accounts.entries) ≡ None
unknown c =
    let nowhere : is_some (account_of c.args.account.name c.args.self.now) ≡ false = search rules in
    none_from_is_some _ (subst (λ accounts. is_some (account_of c.args.account.name accounts)
    ≡ false) (sym c.self.view_is) nowhere)

-- so it goes last
grown : (c : goal.Else-is_err) → c.insert.new.self.entries
    ≡ c.self.inside.accounts.entries ++ (c.in-Ok.name, c.args.account) ∷ []
grown c =
    let key : c.in-Ok.name.items ≡ c.args.account.name = c.in-Ok.ensures.items
    ∙ c.name-2.ensures.value in
    from_ok c.insert.result _ (sym c.if-is_err.ensures.value) c.insert.ensures.entries
    ∙ insert_entry-push _ c.in-Ok.name c.args.account.name (λ other. ap
    (λ name. bytes_eq name other.items) key) c.args.account
    c.self.inside.accounts.entries c.self.invariant.0 (unknown c)

pub invariant_of-self-2 : goal.invariant_of-self-2
invariant_of-self-2 c =
    IsIndex-push _ _ (c.in-Ok.name, c.args.account) (grown c) c.self.invariant
    (record { named = c.in-Ok.ensures.items ∙ c.name-2.ensures.value; held = c.keeps_its_rules.ensures }) (unknown c)

pub returns-clause-ok : goal.returns-clause-ok
returns-clause-ok c =
    ap accounts_in (grown c)
    ∙ map-append (λ (entry : Entry). entry.1) c.self.inside.accounts.entries
    ((c.in-Ok.name, c.args.account) ∷ [])
    ∙ ap (λ accounts. accounts ++ c.args.account ∷ []) c.self.view_is

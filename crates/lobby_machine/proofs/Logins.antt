-- What a login comes to.
use Rattle.std.proofs.Common.{◌≡◌, ℕ, List, [], ◌∷◌, refl, sym, ap, ◌∙◌, true, false}
use Rattle.std.specs.Prelude.{Bool, Option, Some, None, Ok, Err, is_some, if◌then◌else◌}
use Rattle.std.specs.Option.{option_map_or}
use Rattle.std.specs.Str.{bytes_eq}
use Rattle.std.proofs.lemmas.Slice.Eq.{bytes_eq-Decides}
use Rattle.account_book.specs.Account.{Account}
use Rattle.account_book.specs.Book.{account_of, login}
use Rattle.account_book.specs.declared.error.LoginFault.TheVariants.{NoAccount, BadPassword}
use Rattle.command_grammar.specs.declared.command.Command.TheVariants as command
use Rattle.reply_kinds.specs.declared.Reply.TheVariants as reply
use Rattle.line_words.specs.Table.{at_name}
use Rattle.lobby_model.specs.State.{State, name_of}
use Rattle.lobby_model.specs.Texts.{user_is_in}
use Rattle.lobby_model.specs.Outcome.{done, refuse_if}
use Rattle.lobby_model.specs.Sessions.{log_in, logs_in, user_of}
use Rattle.lobby_model.specs.Commands.{answer}
use Rattle.lobby_machine.specs.declared.login_answer.LoginAnswer.TheVariants.{LetIn}
use Rattle.lobby_machine.specs.Logins.{AnswersWith}

-- the account that is found for a name has that name
found_named : (name : List ℕ) (accounts : List Account) (account : Account) → account_of name accounts ≡ Some account
    → name ≡ account.name
found_named name [] account h = absurd (cc)
found_named name (a ∷ accounts) account h = at (bytes_eq name a.name) refl (λ is. found_named name accounts account is) h where
  at : (b : Bool) → bytes_eq name a.name ≡ b → (account_of name accounts ≡ Some account → name ≡ account.name)
      → (if b then Some a else account_of name accounts) ≡ Some account → name ≡ account.name
  at true same rest is =
      let found : a ≡ account = cc in
      (bytes_eq-Decides name a.name).0 same ∙ ap (λ (o : Account). o.name) found
  at false other rest is = rest is

-- and so has the one that is let in
let_in_named : (name word : List ℕ) (accounts : List Account) (account : Account) → login accounts name word ≡ Ok account
    → name ≡ account.name
let_in_named name word accounts account h = at (account_of name accounts) refl h where
  same : (a : Account) (b : Bool) → (if b then Ok a else Err BadPassword) ≡ Ok account → a ≡ account
  same a true is = cc
  same a false is = absurd (cc)

  at : (found : Option Account) → account_of name accounts ≡ found
      → option_map_or (λ a. if bytes_eq a.password word then Ok a else Err BadPassword) found (Err NoAccount) ≡ Ok account → name ≡ account.name
  at None is h = absurd (cc)
  at (Some a) is h = found_named name accounts account (is ∙ ap Some (same a (bytes_eq a.password word) h))

pub let_in : (s : State) (c : ℕ) (name word : List ℕ) (account : Account) → name_of s c ≡ None
    → login s.accounts name word ≡ Ok account → is_some (at_name s.users account.name) ≡ false
    → AnswersWith s c name word LetIn
let_in s c name word account nobody is free = λ cpu local_ip lobby authorises. record {
  name = name;
  user = user_of account cpu authorises;
  asked = refl;
  is = ap (λ o. answer s c o (command.Login name word cpu local_ip lobby authorises)) nobody
      ∙ ap (log_in s c cpu authorises) is
      ∙ ap (λ b. refuse_if b (reply.Denied user_is_in) (done (logs_in c account.name (user_of account cpu authorises) s))) free
      ∙ ap (λ n. done (logs_in c n (user_of account cpu authorises) s)) (sym (let_in_named name word s.accounts account is));
}

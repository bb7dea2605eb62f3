-- What a script has set before its first open.
use Rattle.std.specs.Prelude.{ℕ, Bool, not, List, [], ◌∷◌, ◌++◌, is_some, codes}
use Rattle.account_book.specs.Account.{Account}
use Rattle.account_book.specs.Book.{account_of}
use Rattle.lobby_model.specs.Configuration.{Configuration, configuration, is_configuration}
use Rattle.lobby_script.specs.declared.action.Setting.{Setting}
use Rattle.lobby_script.specs.declared.action.Setting.TheVariants as setting

pub record Prepared : Type 0 where
  pub settings : Configuration
  pub accounts : List Account

-- all settings but these two are the default
abbrev pub with_defaults : List (List ℕ) → ℕ → Configuration
with_defaults motd outbox_limit = configuration (codes "0.38") (codes "*") 8201 0 motd outbox_limit

-- what a script starts from
abbrev pub nothing_set : Prepared
nothing_set = record { settings = with_defaults [] 4194304; accounts = [] }

abbrev pub with_limit : Configuration → ℕ → Configuration
with_limit settings bytes = record settings { outbox_limit = bytes }

abbrev pub with_line : Configuration → List ℕ → Configuration
with_line settings line = record settings { motd = settings.motd ++ line ∷ [] }

-- The settings stay within their bounds, and no name has two accounts
abbrev pub can_be_set : Prepared → Setting → Bool
can_be_set p (setting.Account account) = not (is_some (account_of account.name p.accounts))
can_be_set p (setting.Motd line) = is_configuration (with_line p.settings line)
can_be_set p (setting.Limit bytes) = is_configuration (with_limit p.settings bytes)

abbrev pub with_setting : Prepared → Setting → Prepared
with_setting p (setting.Account account) = record p { accounts = p.accounts ++ account ∷ [] }
with_setting p (setting.Motd line) = record p { settings = with_line p.settings line }
with_setting p (setting.Limit bytes) = record p { settings = with_limit p.settings bytes }

-- The head of a record: the settings and the accounts by which its events are played, as files have them.
use Rattle.std.specs.Prelude.{◌≡◌, ℕ, pos, Bool, IsTrue, ◌&&◌, nat_le, List, [], ◌∷◌, ◌++◌, map, codes, false, ⊤}
use Rattle.std.specs.Prelude.{Result, Ok, Err}
use Rattle.std.specs.Cmp.Lexicographic.{slice_cmp}
use Rattle.std.specs.Ordering.{nat_cmp, match_ordering}
use Rattle.std.specs.Str.{is_utf8}
use Rattle.std.specs.Str.Lossy.{utf8_lossy}
use Rattle.toml.specs.Data.{Data, string, integer, boolean, array, table, Items, no_items, item}
use Rattle.toml.specs.Data.{Members, no_members, member}
use Rattle.toml.specs.Text.{IsDocumentText}
use Rattle.account_book.specs.Account.{Account, stated}
use Rattle.lobby_model.specs.Configuration.{Configuration, configuration}
use Rattle.lobby_setup.specs.Answers.{Tells}
use Rattle.lobby_setup.specs.Choices.{Choices}
use Rattle.lobby_setup.specs.declared.error.Refusal.{Refusal}
use Rattle.lobby_setup.specs.declared.error.SetupFault.{SetupFault}
use Rattle.lobby_setup.specs.declared.error.SetupFault.TheVariants.{Memory, Unusable}
use Rattle.lobby_setup.specs.declared.setup.Setup.{Setup}
use Rattle.record_lines.specs.Masks.{all_hidden}

-- the members of a table with one more, at its place, or with another value for one that was there
abbrev pub with_member : List ℕ → Data → Members → Members
with_member key value no_members = member key value no_members
with_member key value (member first other rest) =
    match_ordering (slice_cmp nat_cmp key first) (member key value (member first other rest)) (member first value rest)
    (member first other (with_member key value rest))

abbrev pub text_items : List (List ℕ) → Items
text_items [] = no_items
text_items (text ∷ texts) = item (string text) (text_items texts)

-- what a file of settings says that sets a lobby up to these, and listens nowhere
abbrev pub settings_members : Configuration → Members
settings_members settings =
    member (codes "address") (string (codes "0.0.0.0:0"))
    (member (codes "motd") (array (text_items settings.motd))
    (member (codes "outbox_limit") (integer (pos settings.outbox_limit))
    (member (codes "protocol_version") (string settings.protocol_version)
    (member (codes "server_mode") (integer (pos settings.server_mode))
    (member (codes "spring_version") (string settings.spring_version)
    (member (codes "udp_port") (integer (pos settings.udp_port)) no_members))))))

-- settings as a file can say them: texts of a file are UTF-8
abbrev pub spelled : Configuration → Configuration
spelled settings =
    configuration (utf8_lossy settings.protocol_version) (utf8_lossy settings.spring_version) settings.udp_port
    settings.server_mode (map utf8_lossy settings.motd) settings.outbox_limit

-- the answer is a setup with these settings
abbrev pub HasSettings : Configuration → Result Choices Refusal → Type 0
HasSettings settings (Ok choices) = choices.settings ≡ settings
HasSettings settings (Err refusal) = ⊥

-- A file of settings that sets a lobby up to these: whatever it tells is that
abbrev pub SetsUp : Configuration → List ℕ → Type 0
SetsUp settings file = (answer : Result Choices Refusal) → Tells file answer → HasSettings settings answer

-- what a server reads of such a file: these settings, if memory is not refused
abbrev pub ReadsSettings : Configuration → Result Setup SetupFault → Type 0
ReadsSettings settings (Ok setup) = setup.settings ≡ settings
ReadsSettings settings (Err (Unusable refusal)) = ⊥
ReadsSettings settings (Err Memory) = ⊤

-- from space to `~`
abbrev pub is_printed : ℕ → Bool
is_printed byte = nat_le 32 byte && nat_le byte 126

-- a line of comment
abbrev pub comment_line : List ℕ → List ℕ
comment_line words = 35 ∷ (words ++ 10 ∷ [])

-- what a file of accounts says of one
abbrev pub account_members : Account → Members
account_members account =
    member (codes "access") (boolean account.access)
    (member (codes "bot") (boolean account.bot)
    (member (codes "country") (string account.country)
    (member (codes "id") (integer (pos account.id))
    (member (codes "name") (string account.name)
    (member (codes "password") (string account.password)
    (member (codes "rank") (integer (pos account.rank)) no_members))))))

abbrev pub account_items : List Account → Items
account_items [] = no_items
account_items (account ∷ accounts) = item (table (account_members account)) (account_items accounts)

-- what a file of accounts says
abbrev pub accounts_members : List Account → Members
accounts_members [] = no_members
accounts_members (account ∷ accounts) =
    member (codes "account") (array (account_items (account ∷ accounts))) no_members

-- an account as a file can say it
abbrev pub spelled_account : Account → Account
spelled_account account =
    stated (utf8_lossy account.name) account.password account.id account.rank account.access account.bot
    (utf8_lossy account.country)

-- A file of TOML that lists these accounts, each with the word that each account of a record has
abbrev pub IsAccountsText : List Account → List ℕ → Type 0
IsAccountsText accounts text =
    IsDocumentText false (accounts_members (all_hidden accounts)) text × IsTrue (is_utf8 text)

-- an empty line stands before what comes behind a table
abbrev pub gap_behind : List ℕ → List ℕ
gap_behind [] = []
gap_behind (byte ∷ bytes) = 10 ∷ []

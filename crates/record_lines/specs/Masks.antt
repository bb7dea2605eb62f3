-- What of a request is not written as it is.
use Rattle.std.specs.Prelude.{ℕ, ℤ, Bool, true, false, not, ◌||◌, List, [], ◌∷◌, map, codes, is_ok, is_some}
use Rattle.std.specs.Prelude.{if◌then◌else◌, Option, Some, None, Result, Ok, Err}
use Rattle.line_words.specs.Bytes.{is_name}
use Rattle.account_book.specs.Account.{Account}
use Rattle.account_book.specs.Book.{login}
use Rattle.account_book.specs.declared.error.LoginFault.{LoginFault}
use Rattle.command_grammar.specs.declared.command.Command.{Command}
use Rattle.command_grammar.specs.declared.command.Command.TheVariants as command
use Rattle.command_grammar.specs.declared.command.ReadFault.{ReadFault}
use Rattle.command_grammar.specs.declared.command.ReadFault.TheVariants as fault
use Rattle.command_grammar.specs.declared.command.Request.{Request}

-- the word that each account of a record has, and one that no account can have
abbrev pub passes : List ℕ
passes = codes "AAAAAAAAAAAAAAAAAAAAAA=="

abbrev pub fails : List ℕ
fails = codes "B"

-- an account as a record has it
abbrev pub hidden : Account → Account
hidden account = record account { password = passes }

abbrev pub all_hidden : List Account → List Account
all_hidden = map hidden

abbrev pub hidden_answer : Result Account LoginFault → Result Account LoginFault
hidden_answer (Ok account) = Ok (hidden account)
hidden_answer (Err why) = Err why

-- the account that a login is let in to: all that the lobby looks at of an answer
abbrev pub account_let_in : Result Account LoginFault → Option Account
account_let_in (Ok account) = Some account
account_let_in (Err why) = None

-- the word in place of a login's
abbrev pub word_for : List Account → List ℕ → List ℕ → List ℕ
word_for accounts name word = if is_ok (login accounts name word) then passes else fails

-- what stands in place of a name that is none, and of an address
abbrev pub no_name : List ℕ
no_name = codes "?"

abbrev pub no_address : List ℕ
no_address = codes "*"

-- the name in place of a login's: its own, if that is a name or the login passes
abbrev pub name_for : List Account → List ℕ → List ℕ → List ℕ
name_for accounts name word = if is_name name || is_ok (login accounts name word) then name else no_name

-- a login as it is written: its cpu and its flag stay, which the lobby reads
abbrev pub masked_login : List Account → List ℕ → List ℕ → ℤ → Bool → Command
masked_login accounts name word cpu authorises =
    command.Login (name_for accounts name word) (word_for accounts name word) cpu no_address [] authorises

-- a text of as many `*`
abbrev pub stars : List ℕ → List ℕ
stars = map (λ byte. 42)

-- the command as it is written: a login as above, a join without its key and, where private talk is not written,
-- that as `*`
abbrev pub masked_command : List Account → Bool → Command → Command
masked_command accounts private (command.Login name word cpu ip lobby authorises) =
    masked_login accounts name word cpu authorises
masked_command accounts private (command.Join channel key) = command.Join channel None
masked_command accounts private (command.SayPrivate user text) =
    command.SayPrivate user (if private then text else stars text)
masked_command accounts private c = c

abbrev pub masked : List Account → Bool → Request → Request
masked accounts private request = record request { command = masked_command accounts private request.command }

-- the command is one that is not written as it is
abbrev pub is_other : Bool → Command → Bool
is_other private (command.Login name word cpu ip lobby authorises) = true
is_other private (command.Join channel key) = is_some key
is_other private (command.SayPrivate user text) = not private
is_other private c = false

-- the text, behind its id, in place of a line that could not be read, by why it could not
abbrev pub unread_text : ReadFault → List ℕ
unread_text fault.UnknownCommand = codes "?"
unread_text fault.MissingArgument = codes "JOIN"
unread_text fault.BadNumber = codes "MYSTATUS ?"
unread_text fault.BadName = codes "JOIN ?"
unread_text fault.BadByte = 63 ∷ 13 ∷ 63 ∷ []
unread_text fault.BadPair = codes "SETSCRIPTTAGS ?"

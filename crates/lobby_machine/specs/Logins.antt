-- How the lobby answers a login, read off what the command comes to.
use Rattle.std.specs.Prelude.{◌≡◌, ℕ, ℤ, Bool, true, false, ◌&&◌, List, Option, Some, None, is_some}
use Rattle.command_grammar.specs.declared.command.Command.{Command}
use Rattle.command_grammar.specs.declared.command.Command.TheVariants as command
use Rattle.reply_kinds.specs.declared.Reply.TheVariants as reply
use Rattle.lobby_model.specs.State.{State, User, hears, name_of}
use Rattle.lobby_model.specs.Texts.{already_in, invalid_login, user_is_in}
use Rattle.lobby_model.specs.Outcome.{Outcome, Refused, done}
use Rattle.lobby_model.specs.Sessions.{logs_in}
use Rattle.lobby_model.specs.Commands.{answer}
use Rattle.lobby_machine.specs.declared.login_answer.LoginAnswer.{LoginAnswer}
use Rattle.lobby_machine.specs.declared.login_answer.LoginAnswer.TheVariants.{LetIn, Invalid, InUse, Again}

-- the name under which a command asks to be logged in
abbrev pub login_name : Command → Option (List ℕ)
login_name (command.Login name password cpu local_ip lobby authorises) = Some name
login_name other = None

-- Client c is logged in under the name for which it asks, and that is told
pub record LogsIn (s : State) (c : ℕ) (login : Command) (outcome : Outcome) : Type 0 where
  pub name : List ℕ
  pub user : User
  pub asked : login_name login ≡ Some name
  pub is : outcome ≡ done (logs_in c name user s)

-- a login of client c comes to this where it is answered so: the client is logged in, or is refused in these words
abbrev pub ComesTo : State → ℕ → Command → Outcome → LoginAnswer → Type 0
ComesTo s c login outcome LetIn = LogsIn s c login outcome
ComesTo s c login outcome Invalid = outcome ≡ Refused (reply.Denied invalid_login)
ComesTo s c login outcome InUse = outcome ≡ Refused (reply.Denied user_is_in)
ComesTo s c login outcome Again = outcome ≡ Refused (reply.Denied already_in)

-- a command of client c is a login, and is looked at
abbrev pub is_heard_login : State → ℕ → Command → Bool
is_heard_login s c command = hears s c && is_some (login_name command)

-- how the lobby answers a command of client c, as far as it is a login that is looked at
abbrev pub AnswersLogin : State → ℕ → Command → Option LoginAnswer → Type 0
AnswersLogin s c command None = is_heard_login s c command ≡ false
AnswersLogin s c command (Some answered) =
    (is_heard_login s c command ≡ true) × ComesTo s c command (answer s c (name_of s c) command) answered

-- the same of any login with this name and this word, whatever else it says
abbrev pub AnswersWith : State → ℕ → List ℕ → List ℕ → LoginAnswer → Type 0
AnswersWith s c name word answered = (cpu : ℤ) (local_ip lobby : List ℕ) (authorises : Bool)
    → ComesTo s c (command.Login name word cpu local_ip lobby authorises)
    (answer s c (name_of s c) (command.Login name word cpu local_ip lobby authorises)) answered

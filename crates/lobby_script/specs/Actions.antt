-- What a line of a script says.
use Rattle.std.specs.Prelude.{◌≡◌, ℕ, List, ◌∷◌, ◌++◌, codes, IsTrue}
use Rattle.line_words.specs.Bytes.{is_text}
use Rattle.account_book.specs.Account.{Account}
use Rattle.lobby_script.specs.declared.action.Action.{Action}
use Rattle.lobby_script.specs.declared.action.Action.TheVariants as action
use Rattle.lobby_script.specs.declared.action.Setting.TheVariants as setting
use Rattle.lobby_script.specs.declared.action.Order.{Order}
use Rattle.lobby_script.specs.declared.action.Order.TheVariants as order
use Rattle.proxy_line.specs.Words.{IsNumber}
use Rattle.lobby_script.specs.Accounts.{WritesAccount}
use Rattle.record_lines.specs.Steps as said
use Rattle.record_lines.specs.Steps.{step_verb, StepArguments}

-- the word that a line begins with; a step that a record may have has the record's
abbrev pub verb_of : Action → List ℕ
verb_of (action.Set (setting.Account account)) = codes "account"
verb_of (action.Set (setting.Motd line)) = codes "motd"
verb_of (action.Set (setting.Limit bytes)) = codes "limit"
verb_of (action.Open label ip) = step_verb (said.Open label ip)
verb_of (action.Client label (order.Send bytes)) = step_verb (said.Send label bytes)
verb_of (action.Client label order.Take) = step_verb (said.Take label)
verb_of (action.Client label order.All) = codes "all"
verb_of (action.Client label (order.Read count)) = step_verb (said.Read label count)
verb_of (action.Client label order.Shut) = step_verb (said.Shut label)
verb_of (action.Client label order.Show) = codes "show"

-- what stands behind that word and one space: an account, a text, a number, a label, or what a step has
abbrev pub Arguments : List ℕ → Action → Type 0
Arguments text (action.Set (setting.Account account)) = WritesAccount text account
Arguments text (action.Set (setting.Motd line)) = (text ≡ line) × IsTrue (is_text line)
Arguments text (action.Set (setting.Limit bytes)) = IsNumber text bytes
Arguments text (action.Open label ip) = StepArguments text (said.Open label ip)
Arguments text (action.Client label (order.Send bytes)) = StepArguments text (said.Send label bytes)
Arguments text (action.Client label order.Take) = StepArguments text (said.Take label)
Arguments text (action.Client label order.All) = IsNumber text label
Arguments text (action.Client label (order.Read count)) = StepArguments text (said.Read label count)
Arguments text (action.Client label order.Shut) = StepArguments text (said.Shut label)
Arguments text (action.Client label order.Show) = IsNumber text label

-- the parts of a line are parted by one space
pub record Says (line : List ℕ) (action : Action) : Type 0 where
  pub rest : List ℕ
  pub whole : line ≡ verb_of action ++ 32 ∷ rest
  pub arguments : Arguments rest action

-- the action that a step is
abbrev pub action_of : said.Step → Action
action_of (said.Open label ip) = action.Open label ip
action_of (said.Send label bytes) = action.Client label (order.Send bytes)
action_of (said.Take label) = action.Client label order.Take
action_of (said.Read label count) = action.Client label (order.Read count)
action_of (said.Shut label) = action.Client label order.Shut

-- the actions of one verb
abbrev pub IsAccount : List ℕ → Action → Type 0
IsAccount text a = (account : Account) × (a ≡ action.Set (setting.Account account)) × WritesAccount text account

abbrev pub IsMotd : List ℕ → Action → Type 0
IsMotd text a = (a ≡ action.Set (setting.Motd text)) × IsTrue (is_text text)

abbrev pub IsLimit : List ℕ → Action → Type 0
IsLimit text a = (bytes : ℕ) × (a ≡ action.Set (setting.Limit bytes)) × IsNumber text bytes

abbrev pub IsOpen : List ℕ → Action → Type 0
IsOpen text a = (label : ℕ) × (ip : List ℕ) × (a ≡ action.Open label ip) × Arguments text a

abbrev pub IsSend : List ℕ → Action → Type 0
IsSend text a = (label : ℕ) × (bytes : List ℕ) × (a ≡ action.Client label (order.Send bytes)) × Arguments text a

abbrev pub IsRead : List ℕ → Action → Type 0
IsRead text a = (label : ℕ) × (count : ℕ) × (a ≡ action.Client label (order.Read count)) × Arguments text a

abbrev pub IsPlain : List ℕ → Order → Action → Type 0
IsPlain text o a = (label : ℕ) × (a ≡ action.Client label o) × IsNumber text label

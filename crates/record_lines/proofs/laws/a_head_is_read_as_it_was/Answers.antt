use Rattle.std.proofs.Common.{List, ℕ, Result, Ok, Err, refl}
use Rattle.lobby_model.specs.Configuration.{Configuration}
use Rattle.lobby_setup.specs.Answers.{IsAnswer}
use Rattle.lobby_setup.specs.declared.error.SetupFault.{SetupFault}
use Rattle.lobby_setup.specs.declared.error.SetupFault.TheVariants.{Memory, Unusable}
use Rattle.lobby_setup.specs.declared.setup.Setup.{Setup}
use Rattle.record_lines.specs.Head.{ReadsSettings, SetsUp}
use Rattle.record_lines.proofs.AccountsRead.{accounts_back}
use Rattle.record_lines.proofs.Spelled.{none_utf8}
use Rattle.record_lines.proofs.laws.a_head_is_read_as_it_was.Goals as goal

reads : (settings : Configuration) (file : List ℕ) (answer : Result Setup SetupFault) → SetsUp settings file
    → IsAnswer file answer → ReadsSettings settings answer
reads settings file (Ok setup) sets is = sets _ is
reads settings file (Err (Unusable refusal)) sets is = sets _ is
reads settings file (Err Memory) sets is = tt

pub returns-clause-settings : goal.returns-clause-settings
returns-clause-settings c = reads

pub returns-clause-accounts : goal.returns-clause-accounts
returns-clause-accounts c = accounts_back

pub returns-clause-none : goal.returns-clause-none
returns-clause-none c = (refl, none_utf8)

-- What was played of a record.
use Rattle.std.specs.Prelude.{◌≡◌, ℕ, ◌+◌, ◌-◌, ◌≤◌, ◌<◌, List, [], ◌∷◌, ◌++◌, drop, take}
use Rattle.std.specs.List.{AllByRecursion}
use Rattle.account_book.specs.Account.{Account}
use Rattle.lobby_model.specs.Configuration.{Configuration}
use Rattle.lobby_model.specs.declared.schedule.Step.{Step}
use Rattle.lobby_hall.specs.Schedules.{StandsFor}
use Rattle.lobby_hall.specs.Standing.{Kept}
use Rattle.record_play.specs.Joined.{Rises}
use Rattle.record_play.specs.Steps.{SayAll, SaysStep}
use Rattle.record_play.specs.declared.file.RecordLine.{RecordLine}
use Rattle.record_play.specs.declared.replay.Replay.{Replay}

-- whatever schedule the old hall stood for, the new one stands for it and one such step more
abbrev pub PlaysStep : Kept → (Step → Type 0) → Kept → Type 0
PlaysStep old IsIt new = (s : Step) × IsIt s
    × ((settings : Configuration) (accounts : List Account) (steps : List Step)
    → StandsFor old settings accounts steps → StandsFor new settings accounts (steps ++ s ∷ []))

-- the hall stands for the lines that were played
pub record IsPlayed (replay : Replay) (settings : Configuration) (accounts : List Account) : Type 0 where
  pub steps : List Step
  pub said : SayAll (take replay.played replay.lines.items) steps
  pub stands : StandsFor replay.hall settings accounts steps

-- one line was played
pub record PlaysNext (old : Replay) (line : RecordLine) (new : Replay) : Type 0 where
  pub lines : new.lines ≡ old.lines
  pub missing : new.missing ≡ old.missing
  pub played : new.played ≡ old.played + 1
  pub plays : PlaysStep old.hall (SaysStep line.step.now) new.hall

-- Some of the next lines were played, all of them before this place: what the old hall stood for by the lines that
-- were played, the new one stands for by those and these, each once
pub record GoesOn (place : ℕ) (old new : Replay) : Type 0 where
  pub lines : new.lines ≡ old.lines
  pub missing : new.missing ≡ old.missing
  pub on : old.played ≤ new.played
  pub only : AllByRecursion (λ (l : RecordLine). l.place < place)
      (take (new.played - old.played) (drop old.played old.lines.items))
  pub stands : (settings : Configuration) (accounts : List Account) → IsPlayed old settings accounts
      → IsPlayed new settings accounts

-- no line before this place is left, where the places of the lines rise as those of joined files do
abbrev pub HasPlayedBefore : ℕ → Replay → Type 0
HasPlayedBefore place replay =
    Rises 0 0 replay.lines.items replay.missing
    → AllByRecursion (λ (l : RecordLine). place ≤ l.place) (drop replay.played replay.lines.items)

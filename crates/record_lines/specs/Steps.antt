-- What a line of a script says of a client, and a line of a record.
use Rattle.std.specs.Prelude.{◌≡◌, ℕ, ◌^◌, ◌<◌, false, List, [], ◌∷◌, ◌++◌, codes, decimal}
use Rattle.line_words.specs.Bytes.{has_byte}
use Rattle.proxy_line.specs.Words.{IsNumber, LeadsWith, IsAddress}
use Rattle.record_lines.specs.Escapes.{StandsForBytes}

-- a step for the client of a label: it connects from an address, bytes come from it, its next line is taken, it reads
-- so many bytes, its connection is closed
pub data Step : Type 0 where
  Open : ℕ → List ℕ → Step
  Send : ℕ → List ℕ → Step
  Take : ℕ → Step
  Read : ℕ → ℕ → Step
  Shut : ℕ → Step

-- the word that its line begins with
abbrev pub step_verb : Step → List ℕ
step_verb (Open label ip) = codes "open"
step_verb (Send label bytes) = codes "send"
step_verb (Take label) = codes "take"
step_verb (Read label count) = codes "read"
step_verb (Shut label) = codes "shut"

-- what stands behind that word and one space: a label, and then the rest behind one space
abbrev pub StepArguments : List ℕ → Step → Type 0
StepArguments text (Open label ip) = (rest : List ℕ) × LeadsWith 32 text label rest × IsAddress rest ip
StepArguments text (Send label bytes) = (rest : List ℕ) × LeadsWith 32 text label rest × StandsForBytes rest bytes
StepArguments text (Take label) = IsNumber text label
StepArguments text (Read label count) = (rest : List ℕ) × LeadsWith 32 text label rest × IsNumber rest count
StepArguments text (Shut label) = IsNumber text label

pub record SaysStep (line : List ℕ) (s : Step) : Type 0 where
  pub rest : List ℕ
  pub whole : line ≡ step_verb s ++ 32 ∷ rest
  pub arguments : StepArguments rest s

-- A line of a record: the place of an event, which is how many were before it, in 64 bits; one space, and a step that
-- the event is played by
pub record IsLine (line : List ℕ) (place : ℕ) (s : Step) : Type 0 where
  pub behind : List ℕ
  pub whole : line ≡ decimal place ++ 32 ∷ behind
  pub small : place < 2 ^ 64
  pub says : SaysStep behind s

-- a line of a record for each of these steps, with its LF
abbrev pub AreLinesOf : ℕ → List Step → List ℕ → Type 0
AreLinesOf place [] text = text ≡ []
AreLinesOf place (s ∷ steps) text = (line : List ℕ) × (rest : List ℕ) × IsLine line place s × (has_byte 10 line ≡ false)
    × (text ≡ line ++ 10 ∷ rest) × AreLinesOf place steps rest

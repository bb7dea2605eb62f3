-- What a feed answers.
use Rattle.std.specs.Prelude.{◌≡◌, ℕ, true, false, List, Result, Ok, Err}
use Rattle.line_framer.specs.declared.FeedError.{FeedError}
use Rattle.line_framer.specs.declared.FeedError.TheVariants.{Memory, Spoilt}
use Rattle.line_framer.specs.Frames.{is_spoilt}

-- Ok only where no line is too long, Spoilt only where one is
abbrev pub IsJudged : List ℕ → ℕ → Result (Unit {0}) FeedError → Type 0
IsJudged bytes limit (Ok _) = is_spoilt bytes limit ≡ false
IsJudged bytes limit (Err Spoilt) = is_spoilt bytes limit ≡ true
IsJudged bytes limit (Err Memory) = Unit {0}

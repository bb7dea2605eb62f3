-- What a call that prints a request answers.
use Rattle.std.specs.Prelude.{◌≡◌, ◌++◌, ◌⊎◌, ℕ, nat_le, List, length, drop, Result, MatchBool}
use Rattle.lobby_lines.specs.Answers.{ok, no_memory, no_room, no_command, bad_fields, out_of_range, nothing_listed}
use Rattle.lobby_lines.specs.Answers.{word_skipped, request_too_long}
use Rattle.command_grammar.specs.declared.command.Request.{Request}
use Rattle.lobby_lines.specs.declared.error.RequestError.{RequestError}
use Rattle.lobby_lines.specs.declared.error.RequestError.TheVariants as error
use Rattle.lobby_lines.specs.Writing.{IsLine, IsRefused}

-- why a request is not printed, as its status
abbrev pub status_of : RequestError → ℕ
status_of error.NoCommand = no_command
status_of error.BadFields = bad_fields
status_of error.OutOfRange = out_of_range
status_of error.NothingListed = nothing_listed
status_of error.Skipped = word_skipped
status_of error.TooLong = request_too_long
status_of error.Memory = no_memory

-- a line is in the front of lent memory, if there is room for it, and its length is told
abbrev pub Gave : List ℕ → ℕ → List ℕ → List ℕ → ℕ → Type 0
Gave made status old new size =
    MatchBool (nat_le (length made) (length old)) ((status ≡ ok)
    × (new ≡ made ++ drop (length made) old)) ((status ≡ no_room) × (new ≡ old))
    × (size ≡ length made)

-- the line of what was asked for is given, or the status says why there is none
abbrev pub Told : Result Request RequestError → ℕ → List ℕ → ℕ → List ℕ → ℕ → Type 0
Told asked status old old_size new new_size =
    ((made : List ℕ) × IsLine asked made × Gave made status old new new_size)
    ⊎ ((e : RequestError) × IsRefused e asked × (status ≡ status_of e) × (new ≡ old) × (new_size ≡ old_size))

-- What a session stands for: the bytes that its client sent, and how many of its lines were accepted.
use Rattle.std.specs.Prelude.{◌≡◌, ℕ, Bool, ◌||◌, List, Option, Some, None, is_some, IsTrue, true, false, slice_get}
use Rattle.line_framer.specs.Frames.{frames, is_spoilt}
use Rattle.line_framer.specs.Framed.{Framed, StandsFor}
use Rattle.command_grammar.specs.declared.command.Request.{Request}
use Rattle.command_grammar.specs.Kinds.{keeps_kinds}
use Rattle.command_grammar.specs.Owning.{owns_bytes}
use Rattle.command_grammar.specs.Reads.{Reads}
use Rattle.lobby_model.specs.Schedule.{line_limit}
use Rattle.client_session.specs.declared.session.Next.{Next}
use Rattle.client_session.specs.declared.session.Next.TheVariants.{Nothing, Line, Spoilt}

-- these bytes came, and so many of their lines were accepted
abbrev pub Heard : Framed → List ℕ → ℕ → Type 0
Heard framed bytes accepted = (framed.limit ≡ line_limit) × StandsFor framed bytes accepted

-- what is next, after a line or none: the request that the line reads as; where no whole line is left, the spoilt place
abbrev pub NextAt : Option (List ℕ) → List ℕ → Next → Type 0
NextAt (Some line) bytes (Line request) = Reads line request
NextAt (Some line) bytes Nothing = ⊥
NextAt (Some line) bytes Spoilt = ⊥
NextAt None bytes (Line request) = ⊥
NextAt None bytes Nothing = is_spoilt bytes line_limit ≡ false
NextAt None bytes Spoilt = is_spoilt bytes line_limit ≡ true

abbrev pub IsNext : List ℕ → ℕ → Next → Type 0
IsNext bytes accepted next = NextAt (slice_get (frames bytes line_limit) accepted) bytes next

-- if a request is next, each of its arguments is of its kind
abbrev pub KeepsKinds : Next → Type 0
KeepsKinds Nothing = Unit {0}
KeepsKinds (Line request) = IsTrue (keeps_kinds request.command)
KeepsKinds Spoilt = Unit {0}

-- a line is next, and the command that it reads as owns bytes
abbrev pub NeedsMemoryAt : Option (List ℕ) → Type 0
NeedsMemoryAt (Some line) = (request : Request) → Reads line request → IsTrue (owns_bytes request.command)
NeedsMemoryAt None = ⊥

abbrev pub NeedsMemory : List ℕ → ℕ → Type 0
NeedsMemory bytes accepted = NeedsMemoryAt (slice_get (frames bytes line_limit) accepted)

-- whether a whole line or a spoilt place is next
abbrev pub has_next : List ℕ → ℕ → Bool
has_next bytes accepted = is_some (slice_get (frames bytes line_limit) accepted) || is_spoilt bytes line_limit

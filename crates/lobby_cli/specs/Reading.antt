-- What the reading of a line gives.
use Rattle.std.specs.Prelude.{ℕ, ◌≡◌, ◌<◌, ◌≤◌, List, [], ◌∷◌, length, take, Option, IfSome, ⊤}
use Rattle.std.specs.Io.KnownBytes.{Keeps, Consumes, IsAtEnd}
use Rattle.lobby_cli.specs.Hash.{first_line, password_in}
use Rattle.lobby_cli.specs.declared.hash.Got.{Got}
use Rattle.lobby_cli.specs.declared.hash.Got.TheVariants.{Byte, End, Interrupted, Fault}
use Rattle.lobby_cli.specs.declared.hash.Line.{Line}
use Rattle.lobby_cli.specs.declared.hash.Line.TheVariants.{Password, TooLong, Fault as Unread}

-- One read took a byte, or nothing: at the end, or because it failed
abbrev pub GivesByte : Option (List ℕ) → Option (List ℕ) → Got → Type 0
GivesByte old new (Byte byte) = Consumes old new (byte ∷ [])
GivesByte old new End = IsAtEnd old
GivesByte old new Interrupted = Keeps old new
GivesByte old new Fault = ⊤

-- The input begins with a password, which stands at the front of a buffer, or with too long a line
abbrev pub Begins : Option (List ℕ) → List ℕ → Line → Type 0
Begins known buffer (Password len) = (len ≤ 8192)
    × IfSome known (λ input. (length (first_line input) ≤ 8192)
    × (take len buffer ≡ password_in input))
Begins known buffer TooLong = IfSome known (λ input. 8192 < length (first_line input))
Begins known buffer Unread = ⊤

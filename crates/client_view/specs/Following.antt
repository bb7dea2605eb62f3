-- What contracts see of a view of the crate, and the bytes that it followed.
use Rattle.std.specs.Prelude.{◌≡◌, ℕ, ◌+◌, Bool, false, List, ◌++◌, length}
use Rattle.line_framer.specs.Frames.{frames, is_spoilt, rest_of}
use Rattle.lobby_view.specs.View.{View}
use Rattle.lobby_view.specs.Bytes.{frame_limit, all_read, view}

-- what is known, the bytes of a line that has not ended yet, and whether a line was too long
pub record Following : Type 0 where
  pub known : View
  pub rest : List ℕ
  pub spoilt : Bool

-- these bytes were taken in, all of them
pub record Followed (f : Following) (bytes : List ℕ) : Type 0 where
  pub known : f.known ≡ view bytes
  pub spoilt : f.spoilt ≡ is_spoilt bytes frame_limit
  pub rest : f.spoilt ≡ false → f.rest ≡ rest_of bytes

-- the new one took in more: whatever bytes the old one had taken in, it took in those and then more
abbrev pub TookIn : Following → List ℕ → Following → Type 0
TookIn old more new = (bytes : List ℕ) → Followed old bytes → Followed new (bytes ++ more)

-- how many frames of these bytes a reply printed
abbrev pub count_read : List ℕ → ℕ
count_read bytes = length (all_read (frames bytes frame_limit))

-- more bytes have so many such frames more
abbrev pub HasNew : Following → List ℕ → ℕ → Type 0
HasNew old more count = (bytes : List ℕ) → Followed old bytes → count_read (bytes ++ more) ≡ count_read bytes + count

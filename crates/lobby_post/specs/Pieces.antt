-- The pieces of a text that clients get.
use Rattle.std.specs.Prelude.{ℕ, ◌-◌, ◌≤◌, List, map, length, take, drop}
use Rattle.lobby_post.specs.declared.delivery.Delivery.{Delivery}
use Rattle.line_words.specs.Table.{ByNumber}

-- the piece is a part of the text
abbrev pub LiesIn : List ℕ → Delivery → Type 0
LiesIn text piece = (piece.from ≤ piece.to) × (piece.to ≤ length text)

-- the bytes of a piece, and who gets which bytes
abbrev pub bytes_of : List ℕ → Delivery → List ℕ
bytes_of text p = take (p.to - p.from) (drop p.from text)

abbrev pub pieces_of : List ℕ → List Delivery → ByNumber (List ℕ)
pieces_of text pieces = map (λ p. (p.key.number, bytes_of text p)) pieces

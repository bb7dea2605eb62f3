-- What is due to a client: short pieces are copied, long ones shared.
use Rattle.std.specs.Prelude.{ℕ, ◌+◌, ◌-◌, ◌^◌, ◌≤◌, min, Bool, nat_le, if◌then◌else◌, List, [], ◌∷◌, length, Option}
use Rattle.std.specs.Prelude.{Some, None}
use Rattle.line_words.specs.Table.{ByNumber, same_number}
use Rattle.lobby_post.specs.declared.due.Due.{Due}

-- a piece of so many bytes is shared
abbrev pub is_long : ℕ → Bool
is_long n = nat_le 2048 n

-- how many bytes of it are shared, and how many pieces it is that are shared
abbrev pub shared_bytes_in : ℕ → ℕ
shared_bytes_in n = if is_long n then n else 0

abbrev pub shared_pieces_in : ℕ → ℕ
shared_pieces_in n = if is_long n then 1 else 0

abbrev pub nothing_due : Due
nothing_due = record { bytes = 0; shared_bytes = 0; shared_pieces = 0 }

-- a count, which stays at its most: that is past the limit of each outbox
abbrev pub counted : ℕ → ℕ
counted n = min n (2 ^ 32 - 1)

-- with a piece of so many bytes more, and without it
abbrev pub due_and : Due → ℕ → Due
due_and due n = record {
  bytes = counted (due.bytes + n);
  shared_bytes = counted (due.shared_bytes + shared_bytes_in n);
  shared_pieces = counted (due.shared_pieces + shared_pieces_in n);
}

abbrev pub due_but : Due → ℕ → Due
due_but due n = record {
  bytes = due.bytes - n;
  shared_bytes = due.shared_bytes - shared_bytes_in n;
  shared_pieces =
      due.shared_pieces - shared_pieces_in n;
}

-- how many bytes of what is due are copied
abbrev pub copied : Due → ℕ
copied due = due.bytes - due.shared_bytes

-- a piece of so many bytes is part of what is due, of the bytes that are copied or of the pieces that are shared
abbrev pub Covers : Due → ℕ → Type 0
Covers due n = (n + due.shared_bytes ≤ due.bytes + shared_bytes_in n) × (shared_bytes_in n ≤ due.shared_bytes)
    × (shared_pieces_in n ≤ due.shared_pieces)

-- of pieces for clients, those of client d: a count of each by its length, in sum
abbrev pub count_for : (ℕ → ℕ) → ByNumber (List ℕ) → ℕ → ℕ
count_for count [] d = 0
count_for count (p ∷ pieces) d = if same_number d p.0 then count (length p.1) + count_for count pieces d
    else count_for count pieces d

-- the share of a piece, which a long one has
abbrev pub share_of : List ℕ → Option (List ℕ)
share_of bytes = if is_long (length bytes) then Some bytes else None

-- the shares of a piece and of those behind it, and of all pieces in their order
abbrev pub with_share : List ℕ → List (List ℕ) → List (List ℕ)
with_share bytes shares = if is_long (length bytes) then bytes ∷ shares else shares

abbrev pub shares_of : ByNumber (List ℕ) → List (List ℕ)
shares_of [] = []
shares_of (p ∷ pieces) = with_share p.1 (shares_of pieces)

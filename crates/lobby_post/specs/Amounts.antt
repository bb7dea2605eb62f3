-- How many bytes an event tells.
use Rattle.std.specs.Prelude.{ℕ, ◌+◌, ◌%◌, ◌^◌, List, [], ◌∷◌, length}

-- what each of these clients gets, in sum
abbrev pub bytes_in_all : (ℕ → List ℕ) → List ℕ → ℕ
bytes_in_all gets [] = 0
bytes_in_all gets (c ∷ clients) = length (gets c) + bytes_in_all gets clients

-- a count that goes on by so many, and begins anew behind 2^64 - 1
abbrev pub counted_on : ℕ → ℕ → ℕ
counted_on count more = (count + more) % 2 ^ 64

-- How numbers and addresses are written, and what finds them.
use Rattle.std.specs.Prelude.{◌≡◌, ℕ, ◌^◌, ◌<◌, false, List, [], ◌∷◌, ◌++◌, decimal, Option, Some, IfSome}
use Rattle.line_words.specs.Bytes.{has_byte}

-- the answer is the one value of which P holds, and None where P holds of none
pub record Finds {X : Type 0} (P : X → Type 0) (answer : Option X) : Type 0 where
  pub sound : IfSome answer P
  pub complete : (x : X) → P x → answer ≡ Some x

-- front is all before the first such byte, and behind is all after it
pub record PartedAt (separator : ℕ) (bytes front behind : List ℕ) : Type 0 where
  pub whole : bytes ≡ front ++ separator ∷ behind
  pub first : has_byte separator front ≡ false

-- 0 to 4294967295 in decimal, without leading zeros
abbrev pub IsNumber : List ℕ → ℕ → Type 0
IsNumber text n = (text ≡ decimal n) × (n < 2 ^ 32)

-- such a number, the byte that ends it, and what stands behind
abbrev pub LeadsWith : ℕ → List ℕ → ℕ → List ℕ → Type 0
LeadsWith separator text n rest = (text ≡ decimal n ++ separator ∷ rest) × (n < 2 ^ 32)

abbrev pub LeadsWithOctet : List ℕ → ℕ → List ℕ → Type 0
LeadsWithOctet text n rest = (text ≡ decimal n ++ 46 ∷ rest) × (n < 2 ^ 8)

-- four numbers in decimal, parted by dots
abbrev pub dotted : ℕ → ℕ → ℕ → ℕ → List ℕ
dotted a b c d = decimal a ++ 46 ∷ (decimal b ++ 46 ∷ (decimal c ++ 46 ∷ decimal d))

-- four numbers 0 to 255 without leading zeros, parted by dots
abbrev pub IsAddress : List ℕ → List ℕ → Type 0
IsAddress text (a ∷ b ∷ c ∷ d ∷ []) = (text ≡ dotted a b c d) × (a < 2 ^ 8) × (b < 2 ^ 8) × (c < 2 ^ 8) × (d < 2 ^ 8)
IsAddress text _ = ⊥

-- a port: 0 to 65535 in decimal, without leading zeros
abbrev pub IsPort : List ℕ → ℕ → Type 0
IsPort text n = (text ≡ decimal n) × (n < 2 ^ 16)

-- an address, a colon and a port
abbrev pub IsSocketAddress : List ℕ → List ℕ × ℕ → Type 0
IsSocketAddress text parts =
    (host : List ℕ) × (rest : List ℕ) × (text ≡ host ++ 58 ∷ rest) × IsAddress host parts.0 × IsPort rest parts.1

-- Where a text parts at a byte that its front lacks.
use Rattle.std.proofs.Common.{◌≡◌, ℕ, false, List, ◌∷◌, ◌++◌, sym, ◌∙◌, subst, arith}
use Rattle.line_words.specs.Bytes.{has_byte}
use Rattle.proxy_line.specs.Words.{PartedAt}
use Rattle.proxy_line.proofs.Parts.{lacks_digits, parted_once}
use Rattle.proxy_line.specs.Routes.{ArePorts, IsSomePort}

-- the part before a byte that the front lacks, and the part behind it
pub same_parts : (separator : ℕ) (text front behind word rest : List ℕ) → PartedAt separator text front behind → has_byte separator word ≡ false
    → text ≡ word ++ separator ∷ rest → (front ≡ word) × (behind ≡ rest)
same_parts separator text front behind word rest parts lacks is =
    parted_once separator front word parts.first lacks (sym parts.whole ∙ is)

portless : (text : List ℕ) → IsSomePort text → has_byte 32 text ≡ false
portless text is =
    subst (λ t. has_byte 32 t ≡ false) (sym is.1.0) (lacks_digits 32 is.0 (omega arith) (omega (arith, is.1.1)))

-- two ports are what stands round the first space
pub ports_round : (text source destination : List ℕ) → PartedAt 32 text source destination → ArePorts text
    → IsSomePort source × IsSomePort destination
ports_round text source destination parts are =
    let same = same_parts 32 text source destination are.0 are.1 parts (portless are.0 are.3) are.2 in
    (subst IsSomePort (sym same.0) are.3, subst IsSomePort (sym same.1) are.4)

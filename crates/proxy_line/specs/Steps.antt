-- What the bytes of a line so far come to.
use Rattle.std.specs.Prelude.{◌≡◌, ℕ, ◌<◌, false, List, length}
use Rattle.line_words.specs.Bytes.{has_byte}
use Rattle.proxy_line.specs.Lines.{IsProxyLine}
use Rattle.proxy_line.specs.declared.line.ProxySource.{ProxySource}
use Rattle.proxy_line.specs.declared.half.Step.{Step}
use Rattle.proxy_line.specs.declared.half.Step.TheVariants.{More, Whole, Refused}

-- it has no LF, and room for one
abbrev pub GoesOn : List ℕ → Type 0
GoesOn line = (has_byte 10 line ≡ false) × (length line < 107)

abbrev pub IsStep : List ℕ → Step → Type 0
IsStep line More = GoesOn line
IsStep line (Whole source) = IsProxyLine line source
IsStep line Refused = (GoesOn line → ⊥) × ((source : ProxySource) → IsProxyLine line source → ⊥)

-- The line with which a front begins a connection.
use Rattle.std.specs.Prelude.{◌≡◌, ℕ, ◌≤◌, ◌⊎◌, false, List, [], ◌∷◌, ◌++◌, codes, length}
use Rattle.line_words.specs.Bytes.{has_byte}
use Rattle.proxy_line.specs.Routes.{IsRoute}
use Rattle.proxy_line.specs.declared.line.ProxySource.{ProxySource}
use Rattle.proxy_line.specs.declared.line.ProxySource.TheVariants.{Given, OwnAddress}

-- a line is a text without LF, and CR LF
abbrev pub IsLineOf : List ℕ → List ℕ → Type 0
IsLineOf line text = (line ≡ text ++ 13 ∷ 10 ∷ []) × (has_byte 10 text ≡ false)

-- What a text says of where the connection comes from
abbrev pub Says : List ℕ → ProxySource → Type 0
Says text (Given source) = (route : List ℕ) × (text ≡ codes "PROXY TCP4 " ++ route) × IsRoute route source
Says text OwnAddress = (text ≡ codes "PROXY UNKNOWN") ⊎ ((rest : List ℕ) × (text ≡ codes "PROXY UNKNOWN " ++ rest))

-- A line, at most 107 bytes with its CR LF, and what it says of where the connection comes from
abbrev pub IsProxyLine : List ℕ → ProxySource → Type 0
IsProxyLine line source = (length line ≤ 107) × ((text : List ℕ) × IsLineOf line text × Says text source)

-- where a connection comes from that comes from an address of its own without the line
abbrev pub address : List ℕ → ProxySource → List ℕ
address own (Given source) = source
address own OwnAddress = own

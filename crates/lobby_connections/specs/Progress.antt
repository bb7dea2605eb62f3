-- What a byte of a front's line comes to, for a connection that comes from an address.
use Rattle.std.specs.Prelude.{◌≡◌, ℕ, List}
use Rattle.proxy_line.specs.Lines.{address, IsProxyLine}
use Rattle.proxy_line.specs.Steps.{GoesOn}
use Rattle.proxy_line.specs.declared.line.ProxySource.{ProxySource}
use Rattle.lobby_connections.specs.declared.newcomers.Progress.{Progress}
use Rattle.lobby_connections.specs.declared.newcomers.Progress.TheVariants.{Waits, Whole, Refused, Ended}

abbrev pub IsProgress : List ℕ → List ℕ → Progress → Type 0
IsProgress own line Waits = GoesOn line
IsProgress own line (Whole ip) = (source : ProxySource) × IsProxyLine line source × (ip ≡ address own source)
IsProgress own line Refused = (GoesOn line → ⊥) × ((source : ProxySource) → IsProxyLine line source → ⊥)
IsProgress own line Ended = ⊥

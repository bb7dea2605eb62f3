use Rattle.std.proofs.Common.{◌≡◌, ◌+◌, drop, length}
use Rattle.toml.specs.View.{items_view}
use Rattle.proxy_line.specs.Sets.{listed}
use Rattle.lobby_setup.specs.Proxies.{Addresses, AreProxies}
use Rattle.lobby_setup.proofs.Addresses.{behind}
use Rattle.lobby_setup.proofs.proxies.proxies_of.Given as goal

-- as many as were read, and what the values that are left say is said behind them
abbrev pub invariant-loop-k : goal.invariant-loop-k
invariant-loop-k l =
    (length (listed l.proxies) ≡ l.k)
    × ((said : Addresses) → AreProxies (l.k + 1) (items_view (drop l.k l.values)) said → AreProxies 1 (items_view l.values) (behind (listed l.proxies) said))

-- A set of addresses, in the order in which they were added.
use Rattle.std.specs.Prelude.{ℕ, List, take}
use Rattle.proxy_line.specs.declared.proxies.Proxies.{Proxies}

abbrev pub listed : Proxies → List (List ℕ)
listed proxies = take proxies.count proxies.addresses

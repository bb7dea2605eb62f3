-- What is held to the bounds of settings is settings.
use Rattle.std.proofs.Common.{◌≡◌, ℕ, ◌≤◌, true, length, List}
use Rattle.std.specs.List.{list_all}
use Rattle.std.proofs.lemmas.Bool.{and_from, le-leb}
use Rattle.lobby_model.specs.Configuration.{configuration, is_configuration, is_motd_line, is_version}

pub configuration_allowed : (protocol spring : List ℕ) (port mode : ℕ) (lines : List (List ℕ)) (limit : ℕ)
    → is_version protocol ≡ true → is_version spring ≡ true → port ≤ 65535 → mode ≤ 1
    → length lines ≤ 100 → list_all is_motd_line lines ≡ true → 65536 ≤ limit → limit ≤ 67108864
    → is_configuration (configuration protocol spring port mode lines limit) ≡ true
configuration_allowed protocol spring port mode lines limit p s u m few each low high =
    and_from _ _ (and_from _ _ (and_from _ _ (and_from _ _ (and_from _ _ (and_from _ _ (and_from _ _ p s)
    (le-leb port 65535 u)) (le-leb mode 1 m)) (le-leb (length lines) 100 few)) each)
    (le-leb 65536 limit low)) (le-leb limit 67108864 high)

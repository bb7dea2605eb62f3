-- The exit statuses of `lobby_check`.
use Rattle.std.specs.Prelude.{◌≡◌, ℕ, ◌⊎◌}

-- A server can be started, or cannot by its files or its folder, or cannot listen
abbrev pub IsStatus : ℕ → Type 0
IsStatus status = (status ≡ 0) ⊎ ((status ≡ 2) ⊎ (status ≡ 3))

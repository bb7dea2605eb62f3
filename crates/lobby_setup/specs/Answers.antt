-- What the reading of a file of settings answers.
use Rattle.std.specs.Prelude.{◌≡◌, ℕ, List, Result, Ok, Err, MatchOption, ⊤, string_bytes}
use Rattle.std.specs.Net.Addr.{ipv4_octets}
use Rattle.std.specs.Net.Socket.{v4_ip, v4_port}
use Rattle.proxy_line.specs.Sets.{listed}
use Rattle.toml_fields.specs.Document.{document, IsLine}
use Rattle.lobby_setup.specs.Choices.{Choices, chosen, Says}
use Rattle.lobby_setup.specs.declared.error.Refusal.{Refusal}
use Rattle.lobby_setup.specs.declared.error.Refusal.TheVariants.{NotToml}
use Rattle.lobby_setup.specs.declared.error.SetupError.{SetupError}
use Rattle.lobby_setup.specs.declared.error.SetupError.TheVariants as error
use Rattle.lobby_setup.specs.declared.error.SetupFault.{SetupFault}
use Rattle.lobby_setup.specs.declared.error.SetupFault.TheVariants as fault
use Rattle.lobby_setup.specs.declared.setup.Setup.{Setup}

-- what a setup holds
abbrev pub held : Setup → Choices
held setup =
    chosen setup.settings (ipv4_octets (v4_ip setup.address), v4_port setup.address) setup.workers
    setup.stop_at_input_end (listed setup.proxies) setup.log (string_bytes setup.folder) setup.private

-- What a file says: what its table says, or that it is no TOML, which one of its lines shows
abbrev pub Tells : List ℕ → Result Choices Refusal → Type 0
Tells bytes answer =
    MatchOption (document bytes) ((line : ℕ) × IsLine bytes line × (answer ≡ Err (NotToml line))) (λ table.
    Says table answer)

-- What the reading of a file answers: what the file says, or that memory was refused
abbrev pub IsAnswer : List ℕ → Result Setup SetupFault → Type 0
IsAnswer bytes (Ok setup) = Tells bytes (Ok (held setup))
IsAnswer bytes (Err (fault.Unusable refusal)) = Tells bytes (Err refusal)
IsAnswer bytes (Err fault.Memory) = ⊤

-- the same where of a refusal no more is answered than that the file cannot be used
abbrev pub IsShortAnswer : List ℕ → Result Setup SetupError → Type 0
IsShortAnswer bytes (Ok setup) = Tells bytes (Ok (held setup))
IsShortAnswer bytes (Err error.Unusable) = (refusal : Refusal) × Tells bytes (Err refusal)
IsShortAnswer bytes (Err error.Memory) = ⊤

-- The plain lobby of what contracts see.
use Rattle.std.proofs.Common.{◌≡◌, ℕ, List, ap}
use Rattle.line_words.specs.Table.{ByNumber}
use Rattle.lobby_model.specs.State.{State, Client}
use Rattle.lobby_maps.specs.Shown.{Shown}

pub plainly : {v w : Shown} → v ≡ w → v.plain ≡ w.plain
plainly same = ap (λ (lobby : Shown). lobby.plain) same

-- clients and lists that are as they were
pub shown_same : (s : State) (clients : ByNumber Client) (was now : List (List ℕ)) (told : ℕ) → clients ≡ s.clients → now ≡ was
    → ◌≡◌ {A = Shown} (record { plain = record s { clients = clients }; dirty = now; told = told }) (record { plain = s; dirty = was; told = told })
shown_same s clients was now told same lists = λ i. record { plain = record s { clients = same i }; dirty = lists i; told = told }

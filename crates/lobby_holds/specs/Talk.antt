-- What a worker does for one client as long as it does not shut it.
use Rattle.std.specs.Prelude.{◌≡◌, ℕ, ◌<◌, ◌≤◌, List, [], ◌∷◌, ◌++◌}
use Rattle.lobby_model.specs.declared.event.Event.{Event}
use Rattle.lobby_model.specs.declared.event.Event.TheVariants as event
use Rattle.lobby_model.specs.State.{State}
use Rattle.lobby_model.specs.Next.{taken_by}
use Rattle.lobby_holds.specs.Moments.{Moment, moment}

-- it drains bytes for client c, 4,096 at most
abbrev pub IsDrain : ℕ → Event → Type 0
IsDrain c (event.Drain d n) = (d ≡ c) × (n ≤ 4096)
IsDrain c (event.Say d request) = ⊥
IsDrain c (event.Open ip home) = ⊥
IsDrain c (event.Shut d) = ⊥

-- it says a request of client c to the lobby, or drains bytes for it, 4,096 at most
abbrev pub IsTalk : ℕ → Event → Type 0
IsTalk c (event.Say d request) = d ≡ c
IsTalk c (event.Drain d n) = (d ≡ c) × (n ≤ 4096)
IsTalk c (event.Open ip home) = ⊥
IsTalk c (event.Shut d) = ⊥

abbrev pub AreDrains : ℕ → List Moment → Type 0
AreDrains c [] = Unit {0}
AreDrains c (m ∷ talk) = IsDrain c m.event × AreDrains c talk

abbrev pub AreTalk : ℕ → List Moment → Type 0
AreTalk c [] = Unit {0}
AreTalk c (m ∷ talk) = IsTalk c m.event × AreTalk c talk

-- the first of it drained for client c into a slice of n bytes
abbrev pub BeginsWith : ℕ → ℕ → List Moment → Type 0
BeginsWith c n talk = (met : State) × (rest : List Moment) × (talk ≡ moment met (event.Drain c n) ∷ rest)

-- the last of it drained a piece for client c, and nothing came
abbrev pub EndsDry : ℕ → List Moment → Type 0
EndsDry c talk =
    (before : List Moment) × (met : State) × (n : ℕ) × (talk ≡ before ++ moment met (event.Drain c n) ∷ []) × (0 < n)
    × (taken_by met (event.Drain c n) c ≡ [])

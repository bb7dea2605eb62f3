-- What the calls of a lobby promise, each fact in one word: the maps, the lobby and a hold of it promise the same.
use Rattle.std.specs.Prelude.{◌≡◌, ℕ, ◌+◌, ◌≤◌, false, if◌then◌else◌, List, [], ◌∷◌, ◌++◌, length, take, drop, min}
use Rattle.std.specs.Prelude.{Option, true}
use Rattle.std.specs.Option.{option_to_list}
use Rattle.line_words.specs.Table.{same_number}
use Rattle.lobby_model.specs.declared.event.Event.{Event}
use Rattle.lobby_model.specs.declared.event.Event.TheVariants as event
use Rattle.lobby_model.specs.State.{State}
use Rattle.lobby_model.specs.Sessions.{client_limit, has_place}
use Rattle.lobby_model.specs.Next.{next}
use Rattle.lobby_maps.specs.Dirty.{DirtyAfter}
use Rattle.lobby_maps.specs.Shown.{Shown, dirty_at, unread_of}

-- an event happened: the lobby is now the plain lobby after it
abbrev pub Applies : Shown → Shown → Event → Type 0
Applies old new e = new.plain ≡ next old.plain e

-- an event happened: each worker's list of changed clients is now the list after it, with those whom it touched
abbrev pub ListsTouched : Shown → Shown → Event → Type 0
ListsTouched old new e = (home : ℕ) → home ≤ 63 → DirtyAfter old.plain e home (dirty_at old home) (dirty_at new home)

-- a client was opened, for which there was a place
abbrev pub Opens : Shown → Shown → List ℕ → ℕ → Type 0
Opens old new ip home = (has_place old.plain ≡ true) × Applies old new (event.Open ip home)

-- the number that an open gives
abbrev pub IsNextNumber : Shown → ℕ → Type 0
IsNextNumber old number = number ≡ old.plain.last_client + 1

-- a client that was opened stands in the list of its worker, behind the others; the other lists stay
abbrev pub ListsOpened : Shown → Shown → ℕ → ℕ → Type 0
ListsOpened old new home client = (worker : ℕ) → worker ≤ 63
    → dirty_at new worker ≡ dirty_at old worker ++ (if same_number home worker then client ∷ [] else [])

-- there are as many clients as there may be
abbrev pub IsFull : Shown → Type 0
IsFull lobby = client_limit ≤ length lobby.plain.clients

-- the last number was given
abbrev pub HasNoNumber : Shown → Type 0
HasNoNumber lobby = lobby.plain.last_client ≡ 18446744073709551615

-- how many bytes of a client a slice takes: the unread ones, as many as fit
abbrev pub count_into : State → ℕ → List ℕ → ℕ
count_into s client into = min (length (unread_of s client)) (length into)

-- a slice into which the first unread bytes of a client were taken, so many
abbrev pub filled : State → ℕ → ℕ → List ℕ → List ℕ
filled s client count into = take count (unread_of s client) ++ drop count into

-- the first of a worker's list, where there is one, was taken out of it
abbrev pub TakesFirst : Shown → Shown → ℕ → Option ℕ → Type 0
TakesFirst old new home first = dirty_at old home ≡ option_to_list first ++ dirty_at new home

-- the lists of the other workers stay
abbrev pub KeepsOthers : Shown → Shown → ℕ → Type 0
KeepsOthers old new home = (worker : ℕ) → worker ≤ 63 → same_number home worker ≡ false
    → dirty_at new worker ≡ dirty_at old worker

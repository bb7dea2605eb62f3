-- What a record lacks: bytes that were put, and that still wait in the lobby.
use Rattle.std.specs.Prelude.{ℕ, zero, suc, ◌+◌, ◌-◌, ◌≤◌, List, [], ◌∷◌, ◌++◌, length, take, drop}
use Rattle.lobby_model.specs.State.{State}
use Rattle.lobby_machine.specs.Shown.{unread_of}
use Rattle.lobby_hall.specs.Record.{Log}

-- the unread bytes behind those that the log has
abbrev pub lacking : Log → List ℕ → List ℕ
lacking log unread = drop (length log.put - length log.read) unread

abbrev pub completed_log : Log → List ℕ → Log
completed_log log unread = record { put = log.put ++ lacking log unread; read = log.read }

-- the logs with what they lack, from client c on
abbrev pub completed_from : ℕ → List Log → State → List Log
completed_from c [] s = []
completed_from c (log ∷ logs) s = completed_log log (unread_of s c) ∷ completed_from (suc c) logs s

abbrev pub completed : List Log → State → List Log
completed logs s = completed_from 1 logs s

-- no more was read than was put
abbrev pub IsWithin : Log → Type 0
IsWithin log = length log.read ≤ length log.put

-- the log of a client from which nothing is known yet
abbrev pub no_log : Log
no_log = record { put = []; read = [] }

-- the list with its k-th value changed
abbrev pub changed : {X : Type 0} → (X → X) → List X → ℕ → List X
changed f [] k = []
changed f (x ∷ xs) zero = f x ∷ xs
changed f (x ∷ xs) (suc k) = x ∷ changed f xs k

-- the list with the value of client c changed
abbrev pub changed_at : {X : Type 0} → (X → X) → List X → ℕ → List X
changed_at f xs zero = xs
changed_at f xs (suc c) = changed f xs c

-- the logs where that of client c has what it lacked
abbrev pub caught_up : List Log → State → ℕ → List Log
caught_up logs s c = changed_at (λ log. completed_log log (unread_of s c)) logs c

-- so many bytes more were read
abbrev pub read_on : ℕ → Log → Log
read_on count log = record { put = log.put; read = take (length log.read + count) log.put }

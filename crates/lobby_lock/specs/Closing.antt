-- What a desk that was closed tells of its workers.
use Rattle.std.specs.Prelude.{◌≡◌, ℕ, ◌<◌, ◌≤◌, false, List, [], ◌∷◌, length, Option, Some, None, slice_get}
use Rattle.std.specs.Option.{option_map}
use Rattle.crossbeam_queue.specs.Passes.{Pass}
use Rattle.lobby_machine.specs.Shown.{Shown}
use Rattle.lobby_lock.specs.declared.laid.Laid.{Laid}
use Rattle.lobby_lock.specs.declared.view.View.{View}
use Rattle.lobby_lock.specs.declared.closing.Count.{Count}
use Rattle.lobby_lock.specs.declared.closing.Count.TheVariants.{Made, Full, Never}
use Rattle.lobby_lock.specs.History.{made_by}
use Rattle.lobby_lock.specs.Counts.{last_count, count_of, worker_of}
use Rattle.lobby_lock.specs.Passes.{ShownPass, shown_pass}

-- the worker of this number was handed out, and its pass was not taken back
pub record IsOut (pass : ShownPass) (number : ℕ) : Type 0 where
  pub handed_out : (1 ≤ number) × (number ≤ pass.handed)
  pub not_back : worker_of number pass.taken_back ≡ None

-- Of a pass that has seen the whole history: what the history has under this number are the events that the pass has
-- for its worker, in their order
abbrev pub KnowsAllOf : ShownPass → ℕ → Type 0
KnowsAllOf pass number = option_map (λ worker. worker.mine) (worker_of number (pass.worker ∷ pass.taken_back))
    ≡ Some (made_by number pass.worker.seen)

-- and so many are they
abbrev pub IsCount : ShownPass → ℕ → Count → Type 0
IsCount pass number (Made n) = (number ≤ pass.handed) × KnowsAllOf pass number
    × (n ≡ length (made_by number pass.worker.seen)) × (n < last_count)
IsCount pass number Full = (number ≤ pass.handed) × KnowsAllOf pass number
    × (last_count ≤ length (made_by number pass.worker.seen))
IsCount pass number Never = (pass.handed < number) × (made_by number pass.worker.seen ≡ [])

-- at the close: the counts of all who were handed out, and worker 0's
pub record IsClosed (pass : ShownPass) (handed made : ℕ) (places : List (Option ℕ)) : Type 0 where
  pub few : handed ≤ 63
  pub counts : handed ≡ pass.handed
  pub all : length places ≡ 64
  pub own : KnowsAllOf pass 0 × (made ≡ count_of (made_by 0 pass.worker.seen))
  pub others : (number : ℕ) → 1 ≤ number → number ≤ handed
      → KnowsAllOf pass number × (slice_get places number ≡ Some (Some (count_of (made_by number pass.worker.seen))))
  pub nobody : (number : ℕ) → handed < number → made_by number pass.worker.seen ≡ []

-- The lobby of a desk that was closed, and worker 0's pass, which has seen the whole history
pub record ShownClosing : Type 0 where
  pub lobby : Shown
  pub pass : ShownPass

abbrev pub shown_closing : Pass Laid View → Shown → ShownClosing
shown_closing inner lobby = record { lobby = lobby; pass = shown_pass inner false }

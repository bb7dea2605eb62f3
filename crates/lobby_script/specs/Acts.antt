-- What an action does, and what it shows.
use Rattle.std.specs.Prelude.{◌≡◌, ℕ, ◌+◌, zero, suc, true, false, if◌then◌else◌, List, [], ◌∷◌, ◌++◌, length, drop}
use Rattle.std.specs.Prelude.{flat_map, decimal, Option, Some, None}
use Rattle.line_framer.specs.Frames.{lines_in}
use Rattle.lobby_model.specs.declared.event.Event.{Event}
use Rattle.lobby_model.specs.declared.schedule.Step.TheVariants as step
use Rattle.line_words.specs.Table.{at_number, put_number}
use Rattle.lobby_model.specs.State.{empty_lobby}
use Rattle.lobby_model.specs.Sessions.{has_place}
use Rattle.lobby_model.specs.History.{put_in}
use Rattle.lobby_model.specs.Schedule.{World, StepGives}
use Rattle.lobby_hall.specs.Standing.{is_ready}
use Rattle.lobby_script.specs.declared.action.Action.{Action}
use Rattle.lobby_script.specs.declared.action.Action.TheVariants as action
use Rattle.lobby_script.specs.declared.action.Order.{Order}
use Rattle.lobby_script.specs.declared.action.Order.TheVariants as order
use Rattle.lobby_script.specs.declared.label.Label.{Label}
use Rattle.lobby_script.specs.Prepared.{with_setting}
use Rattle.lobby_script.specs.Scene.{Scene, unopened}

-- so many takes, each of which found a whole line or a spoilt place
abbrev pub Takes : ℕ → World → ℕ → List Event → World → Type 0
Takes zero w c events new = (events ≡ []) × (new ≡ w)
Takes (suc n) w c events new =
    (is_ready w c ≡ true) × ((here : List Event) × (mid : World) × (later : List Event)
    × StepGives w (step.Take c) here mid × Takes n mid c later new × (events ≡ here ++ later))

-- takes as long as one is ready
abbrev pub TakesAll : World → ℕ → List Event → World → Type 0
TakesAll w c events new = (n : ℕ) × Takes n w c events new × (is_ready new c ≡ false)

-- the events of an order for client c, and the world after it
abbrev pub OrderGives : World → ℕ → Order → List Event → World → Type 0
OrderGives w c (order.Send bytes) events new = StepGives w (step.Arrive c bytes) events new
OrderGives w c order.Take events new = StepGives w (step.Take c) events new
OrderGives w c order.All events new = TakesAll w c events new
OrderGives w c (order.Read count) events new = StepGives w (step.Read c count) events new
OrderGives w c order.Shut events new = StepGives w (step.Shut c) events new
OrderGives w c order.Show events new = (events ≡ []) × (new ≡ w)

-- the number that an open gives, if the lobby has a place
abbrev pub given : World → Option ℕ
given w = if has_place w.lobby then Some (w.lobby.last_client + 1) else None

-- each line of the bytes after the label, `>` and a space
abbrev pub labelled : ℕ → List ℕ → List ℕ
labelled label bytes = flat_map (λ line. decimal label ++ 62 ∷ 32 ∷ (line ++ 10 ∷ [])) (lines_in bytes)

-- all bytes that were put to client c so far
abbrev pub put_so_far : Scene → ℕ → List ℕ
put_so_far s c = put_in (empty_lobby s.prepared.settings s.prepared.accounts) s.events c

abbrev pub happened : Scene → List Event → World → Scene
happened s here w = record s { world = w; events = s.events ++ here }

abbrev pub with_label : Scene → ℕ → Option ℕ → ℕ → Scene
with_label s label client shown = record s
    { labels = put_number s.labels label (record { client = client; shown = shown }) }

-- A show gives the lines put since the last one of that label. The label of a client that the lobby refused does
-- nothing and shows nothing
abbrev pub ClientActs : Scene → ℕ → Label → Option ℕ → Order → List ℕ → Scene → Type 0
ClientActs s label entry None o out new = (out ≡ []) × (new ≡ s)
ClientActs s label entry (Some c) order.Show out new =
    (out ≡ labelled label (drop entry.shown (put_so_far s c)))
    × (new ≡ with_label s label (Some c) (length (put_so_far s c)))
ClientActs s label entry (Some c) o out new = (out ≡ [])
    × ((here : List Event) × (w : World) × OrderGives s.world c o here w × (new ≡ happened s here w))

abbrev pub LabelActs : Scene → ℕ → Option Label → Order → List ℕ → Scene → Type 0
LabelActs s label None o out new = ⊥
LabelActs s label (Some entry) o out new = ClientActs s label entry entry.client o out new

-- the output of an action that is allowed, and the scene after it
abbrev pub Acts : Scene → Action → List ℕ → Scene → Type 0
Acts s (action.Set setting) out new = (out ≡ []) × (new ≡ unopened (with_setting s.prepared setting))
Acts s (action.Open label ip) out new =
    (out ≡ []) × ((here : List Event) × (w : World) × StepGives s.world (step.Open ip 0) here w
    × (new ≡ with_label (happened s here w) label (given s.world) 0))
Acts s (action.Client label o) out new = LabelActs s label (at_number s.labels label) o out new

-- the only action that writes
abbrev pub IsShow : Action → Type 0
IsShow (action.Client label order.Show) = Unit {0}
IsShow a = ⊥

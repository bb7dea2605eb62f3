-- What a part of a turn did.
use Rattle.std.specs.Prelude.{◌≡◌, ℕ, ◌+◌, Bool, true, false, ◌==◌, List, [], ◌∷◌, ◌++◌, map, filter, length}
use Rattle.std.specs.Prelude.{Option, Some, None}
use Rattle.std.specs.List.{AllByRecursion, list_any}
use Rattle.command_grammar.specs.declared.command.Request.{Request}
use Rattle.lobby_model.specs.declared.event.Event.{Event}
use Rattle.lobby_model.specs.declared.event.Event.TheVariants as event
use Rattle.lobby_lock.specs.History.{Entry, after_history}
use Rattle.lobby_lock.specs.Passes.{ShownPass}
use Rattle.client_session.specs.declared.session.Next.TheVariants.{Line}
use Rattle.client_session.specs.Sessions.{IsNext}
use Rattle.lobby_holds.specs.Moments.{Moment, moments, requests, drained_for}
use Rattle.lobby_holds.specs.Snapshot.{Snapshot, Carries}

-- the history went on, and in what came the worker made these events and no other
pub record Joined (old new : ShownPass) (turn : List Moment) : Type 0 where
  pub later : List Entry
  pub pass : new ≡ record old {
    on_desk = new.on_desk;
    worker = record {
      number = old.worker.number;
      seen = old.worker.seen ++ later;
      mine = old.worker.mine
          ++ map (λ m. m.event) turn;
    };
  }
  pub made : moments old.worker.number (after_history old.start old.worker.seen) later ≡ turn

-- the client for whom an event speaks, if there is one
abbrev pub speaker : Event → Option ℕ
speaker (event.Say c request) = Some c
speaker (event.Drain c n) = Some c
speaker (event.Shut c) = Some c
speaker (event.Open ip home) = None

abbrev pub speaks_for : ℕ → Option ℕ → Bool
speaks_for c None = false
speaks_for c (Some d) = d == c

-- those of the events that speak for client c
abbrev pub of_client : ℕ → List Moment → List Moment
of_client c turn = filter (λ m. speaks_for c (speaker m.event)) turn

-- each speaks for one of these clients
abbrev pub AreOf : List ℕ → List Moment → Type 0
AreOf clients turn = AllByRecursion (λ m. list_any (λ c. speaks_for c (speaker m.event)) clients ≡ true) turn

-- the history went on, and of what the worker made in what came just these events speak for client c, and all others
-- for these clients
pub record JoinedAmong (others : List ℕ) (c : ℕ) (old new : ShownPass) (turn : List Moment) : Type 0 where
  pub all : List Moment
  pub joined : Joined old new all
  pub own : of_client c all ≡ turn
  pub rest : AreOf (c ∷ others) all

-- the requests are those of the next lines
abbrev pub AreNext : List ℕ → ℕ → List Request → Type 0
AreNext fed accepted [] = Unit {0}
AreNext fed accepted (request ∷ requests) = IsNext fed accepted (Line request) × AreNext fed (accepted + 1) requests

-- what became of the bytes: some more were fed, the events asked for what the next lines say, and what they drained
-- came behind
pub record Moved (new : Snapshot) (turn : List Moment) (fed : List ℕ) (accepted : ℕ) (drained : List ℕ) : Type 0 where
  pub more : List ℕ
  pub carries : Carries new (fed ++ more) (accepted + length (requests turn)) (drained
      ++ drained_for new.conn.session.client turn)
  pub lines : AreNext (fed ++ more) accepted (requests turn)

pub record Went (old new : Snapshot) (turn : List Moment) : Type 0 where
  pub joined : JoinedAmong old.others old.conn.session.client old.pass new.pass turn
  pub others : new.others ≡ old.others
  pub client : new.conn.session.client ≡ old.conn.session.client
  pub moved : (fed : List ℕ) (accepted : ℕ) (drained : List ℕ) → Carries old fed accepted drained
      → Moved new turn fed accepted drained

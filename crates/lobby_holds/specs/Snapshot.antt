-- What a turn goes on with.
use Rattle.std.specs.Prelude.{◌≡◌, ℕ, List, [], ◌++◌, Some}
use Rattle.lobby_lock.specs.Passes.{ShownPass}
use Rattle.client_session.specs.Serving.{Serving}
use Rattle.client_session.specs.Sessions.{Heard}
use Rattle.lobby_holds.specs.Wire.{Wire, and_more}

-- What contracts see of a connection: its session, the bytes that were read and not yet fed to it, and those that were
-- drained for its client and not yet written
pub record Carried : Type 0 where
  pub session : Serving
  pub unfed : List ℕ
  pub unwritten : List ℕ

-- A connection, its link, and the pass of the worker that serves it. The worker may serve these other clients
-- meanwhile, whose turns share its holds
pub record Snapshot : Type 0 where
  pub conn : Carried
  pub wire : Wire
  pub pass : ShownPass
  pub others : List ℕ

abbrev pub among : List ℕ → Carried → Wire → ShownPass → Snapshot
among others conn wire pass = record { conn = conn; wire = wire; pass = pass; others = others }

-- the worker serves nobody else meanwhile
abbrev pub snapshot : Carried → Wire → ShownPass → Snapshot
snapshot conn wire pass = among [] conn wire pass

-- These bytes were fed to the session, so many of its lines were accepted, and these bytes were drained for its client:
-- what the link told as read is what was fed and then what is to be fed, and what was drained is what the link told as
-- written and then what is to be written
pub record Carries (at : Snapshot) (fed : List ℕ) (accepted : ℕ) (drained : List ℕ) : Type 0 where
  pub session : Heard at.conn.session.framed fed accepted
  pub read : at.wire.read ≡ Some (fed ++ at.conn.unfed)
  pub written : and_more at.wire.written at.conn.unwritten ≡ Some drained

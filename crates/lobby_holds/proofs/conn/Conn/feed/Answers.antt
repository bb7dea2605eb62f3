use Rattle.std.proofs.Common.{ℕ, List, [], ◌++◌, refl, subst}
use Rattle.client_session.specs.Sessions.{Heard}
use Rattle.lobby_holds.specs.Snapshot.{Carried, among}
use Rattle.lobby_holds.specs.Went.{Went}
use Rattle.lobby_holds.proofs.Parts.{went_fed}
use Rattle.lobby_holds.proofs.conn.Conn.feed.Goals as goal

pub returns-clause-went : goal.returns-clause-went
returns-clause-went c = λ others wire pass.
    let old : Carried = record { session = c.self.inside.session; unfed = c.self.inside.unfed.bytes; unwritten = c.self.inside.unwritten.bytes } in
    let new : Carried = record { session = c.feed_session.new.session; unfed = c.clear.new.self.bytes; unwritten = c.self.inside.unwritten.bytes } in
    subst (λ (x : Carried). Went (among others x wire pass) (among others new wire pass) []) c.self.view_is (
    went_fed others old new wire pass c.in_ok-feed_session.ensures.client c.clear.ensures refl (λ bytes accepted heard.
    subst (λ (piece : List ℕ). Heard c.feed_session.new.session.framed (bytes ++ piece) accepted) c.as_slice.ensures (c.in_ok-feed_session.ensures.heard bytes accepted heard)))

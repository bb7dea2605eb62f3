-- What others see of a connection that is served.
use Rattle.std.proofs.Common.{◌≡◌, ℕ, List, [], ◌++◌, refl, sym, ◌∙◌, subst}
use Rattle.std.specs.Prelude.{Option, Some, None}
use Rattle.lobby_lock.specs.Passes.{ShownPass}
use Rattle.lobby_holds.specs.Moments.{Moment}
use Rattle.lobby_holds.specs.Snapshot.{Carried, Snapshot}
use Rattle.lobby_holds.specs.Went.{JoinedAmong, Went}
use Rattle.lobby_holds.specs.Holds.{SaysThenDrains}
use Rattle.lobby_holds.specs.declared.holds.Chunk.{Chunk}
use Rattle.lobby_holds.specs.declared.holds.Said.{Said}
use Rattle.lobby_holds.specs.declared.turn.TurnState.{TurnState}
use Rattle.lobby_holds.specs.declared.turn.TurnState.TheVariants as state
use Rattle.lobby_holds.proofs.Among.{joined_both, joined_nothing}
use Rattle.lobby_turns.specs.declared.receiving.Step.{Step}
use Rattle.lobby_turns.specs.declared.receiving.Step.TheVariants as step
use Rattle.lobby_turns.specs.Receiving.{IsServed, ReceivesNext, ReceivesStep}
use Rattle.lobby_turns.specs.Turned.{ClosesTo}

pub served_none : (c : Carried) (p : ShownPass) → IsServed c c p p
served_none c p = record { client = refl; turn = []; joined = joined_nothing [] c.session.client p }

-- without an event
pub served_first : (a b : Carried) (p q : ShownPass) → b.session.client ≡ a.session.client → q ≡ p → IsServed a b p q
served_first a b p q client same =
    record { client = client; turn = []; joined = subst (λ (x : ShownPass). JoinedAmong [] a.session.client p x []) (sym same) (joined_nothing [] a.session.client p) }

pub served_then : (a b c : Carried) (p q r : ShownPass) → IsServed a b p q → IsServed b c q r → IsServed a c p r
served_then a b c p q r h k = record {
  client = k.client ∙ h.client;
  turn = h.turn ++ k.turn;
  joined = joined_both [] a.session.client p q r h.turn k.turn h.joined (subst (λ (n : ℕ). JoinedAmong [] n q r k.turn) h.client k.joined);
}

pub served_went : (a b : Snapshot) (t : List Moment) → a.others ≡ [] → Went a b t → IsServed a.conn b.conn a.pass b.pass
served_went a b t alone went =
    record { client = went.client; turn = t; joined = subst (λ (o : List ℕ). JoinedAmong o a.conn.session.client a.pass b.pass t) alone went.joined }

served_both : (a b c : Snapshot) (t u : List Moment) → a.others ≡ [] → Went a b t → Went b c u → IsServed a.conn c.conn a.pass c.pass
served_both a b c t u alone h k = served_then _ _ _ _ _ _ (served_went a b t alone h) (served_went b c u (h.others ∙ alone) k)

served_next : (a b : Snapshot) (how : Step) → a.others ≡ [] → ReceivesNext a b how → IsServed a.conn b.conn a.pass b.pass
served_next a b how alone s = served_went a b s.talk alone s.went

pub served_step : (a b : Snapshot) (how : Step) → a.others ≡ [] → ReceivesStep a b how → IsServed a.conn b.conn a.pass b.pass
served_step a b (step.Drained said piece) alone s = served_both a s.between b s.says.talk s.rest.drains.talk alone s.says.went s.rest.drains.went
served_step a b (step.Said said) alone s = served_next a b _ alone s
served_step a b (step.Read bytes) alone s = served_next a b _ alone s
served_step a b step.Dry alone s = served_next a b _ alone s
served_step a b step.Waits alone s = served_next a b _ alone s
served_step a b step.Done alone s = served_next a b _ alone s
served_step a b (step.Ends how) alone s = served_next a b _ alone s

pub served_said : (a b : Snapshot) (said : Said) (drained : Option Chunk) → a.others ≡ [] → SaysThenDrains a b said drained → IsServed a.conn b.conn a.pass b.pass
served_said a b said None alone h =
    subst (λ (s : Snapshot). IsServed a.conn s.conn a.pass s.pass) (sym h.behind) (served_went a h.between h.says.talk alone h.says.went)
served_said a b said (Some piece) alone h = served_both a h.between b h.says.talk h.behind.drains.talk alone h.says.went h.behind.drains.went

pub served_closed : (a b : Snapshot) (wakes more told : ℕ) (how : TurnState) → a.others ≡ [] → ClosesTo a b wakes more told how → IsServed a.conn b.conn a.pass b.pass
served_closed a b wakes more told state.Closed alone h = served_went a b _ alone h.1
served_closed a b wakes more told state.Memory alone h = served_went a b [] alone h.0
served_closed a b wakes more told state.Idle alone h = absurd h
served_closed a b wakes more told state.Again alone h = absurd h

use Rattle.std.proofs.Common.{◌≡◌, ◌∙◌, ◌-◌, ◌^◌, ◌<◌, Bool, true, false, not, true≢false, ap, sym, subst, refl}
use Rattle.std.specs.Prelude.{◌&&◌}
use Rattle.lobby_model.specs.declared.event.Phase.TheVariants.{Ended}
use Rattle.lobby_model.specs.State.{in_phase, is_live}
use Rattle.line_words.proofs.Ties.{none_of}
use Rattle.lobby_post.specs.Crowd.{lines_of}
use Rattle.lobby_post.proofs.Changed.{IsChanged, absent, written}
use Rattle.lobby_post.proofs.clients.Clients.end.Goals as goal
use Rattle.lobby_post.proofs.clients.Clients.end.Goals.{in-Some, in_default}

-- who has ended does not hear
ended : (b : Bool) → (b && false) ≡ false
ended true = refl
ended false = refl

changed : (c : goal.Joined-get_mut) → IsChanged c.args.client (in_phase Ended) c.self.inside c.match-get_mut.self-inside
changed c =
    elim c.match-get_mut.branch [
      | in-Some w ↦ rw w.self-inside-is
          (written c.args.client (in_phase Ended) c.self.inside (λ client. refl) w.in-Some.slot.now w.end.new.self
          c.get_mut.ensures.ordered w.in-Some.ensures.value w.end.ensures.client w.end.ensures.limit w.end.ensures.listed
          (λ hears. absurd (true≢false (sym hears ∙ ap is_live w.end.ensures.client ∙ ended (not w.in-Some.slot.now.client.cut))))
          w.end.ensures.due (λ was. w.end.ensures.ready))
      | in_default w ↦ rw w.self-inside-is
          (absent c.args.client (in_phase Ended) c.self.inside
          (none_of c.get_mut.result w.in_default.not-Some ∙ c.get_mut.ensures.value))
    ]

pub returns-clause-clients : goal.returns-clause-clients
returns-clause-clients c = rw (← c.self.view_is) (changed c).clients

pub returns-clause-due : goal.returns-clause-due
returns-clause-due c = rw (← c.self.view_is) (changed c).due

pub returns-clause-ready : goal.returns-clause-ready
returns-clause-ready c = rw (← c.self.view_is) (changed c).ready

pub returns-clause-listings : goal.returns-clause-listings
returns-clause-listings c = rw (← c.self.view_is) (changed c).listings

pub returns-clause-lines : goal.returns-clause-lines
returns-clause-lines c = rw (← c.self.view_is) (ap lines_of (changed c).dirty)

pub invariant_of-self : goal.invariant_of-self
invariant_of-self c = ((changed c).limits c.self.invariant.0, subst (λ n. n < 2 ^ 32 - 1) (sym (changed c).limit) c.self.invariant.1)

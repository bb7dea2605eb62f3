use Rattle.std.proofs.Common.{◌∙◌, ◌-◌, ◌^◌, ◌<◌, ap, sym, subst, refl}
use Rattle.line_words.specs.Table.{at_number}
use Rattle.lobby_model.specs.declared.event.Phase.TheVariants.{In}
use Rattle.lobby_model.specs.State.{in_phase, is_live_client}
use Rattle.lobby_post.specs.Mail.{plain}
use Rattle.lobby_post.specs.Crowd.{Crowd, lines_of}
use Rattle.line_words.proofs.Ties.{none_of}
use Rattle.lobby_post.proofs.Changed.{IsChanged, absent, written}
use Rattle.lobby_post.proofs.Crowds.{plain-at}
use Rattle.lobby_post.proofs.clients.Clients.log_in.Goals as goal
use Rattle.lobby_post.proofs.clients.Clients.log_in.Goals.{in-Some, in_default}

pub log_in-requires : goal.log_in-requires
log_in-requires c =
    ap is_live_client (sym (plain-at c.args.client c.in-Some.slot.now c.self.inside.slots c.in-Some.ensures.value))
    ∙ ap (λ (m : Crowd). is_live_client (at_number (plain m.slots) c.args.client)) c.self.view_is ∙ c.requires

changed : (c : goal.Joined-get_mut) → IsChanged c.args.client (in_phase (In c.args.name)) c.self.inside c.match-get_mut.self-inside
changed c =
    elim c.match-get_mut.branch [
      | in-Some w ↦ rw w.self-inside-is
          (written c.args.client (in_phase (In c.args.name)) c.self.inside (λ client. refl) w.in-Some.slot.now w.log_in.new.self
          c.get_mut.ensures.ordered w.in-Some.ensures.value w.log_in.ensures.client w.log_in.ensures.limit w.log_in.ensures.listed
          (λ hears. ap is_live_client (sym (plain-at c.args.client w.in-Some.slot.now c.self.inside.slots w.in-Some.ensures.value))
          ∙ ap (λ (m : Crowd). is_live_client (at_number (plain m.slots) c.args.client)) c.self.view_is ∙ c.requires)
          w.log_in.ensures.due w.log_in.ensures.ready)
      | in_default w ↦ rw w.self-inside-is
          (absent c.args.client (in_phase (In c.args.name)) c.self.inside
          (none_of c.get_mut.result w.in_default.not-Some ∙ c.get_mut.ensures.value))
    ]

pub returns-clause-clients : goal.returns-clause-clients
returns-clause-clients c = rw (← c.self.view_is) (changed c).clients

pub returns-clause-due : goal.returns-clause-due
returns-clause-due c = rw (← c.self.view_is) (changed c).due

pub returns-clause-ready : goal.returns-clause-ready
returns-clause-ready c = rw (← c.self.view_is) (changed c).ready

pub returns-clause-listings : goal.returns-clause-listings
returns-clause-listings c = rw (← c.self.view_is) (changed c).listings

pub returns-clause-lines : goal.returns-clause-lines
returns-clause-lines c = rw (← c.self.view_is) (ap lines_of (changed c).dirty)

pub invariant_of-self : goal.invariant_of-self
invariant_of-self c = ((changed c).limits c.self.invariant.0, subst (λ n. n < 2 ^ 32 - 1) (sym (changed c).limit) c.self.invariant.1)

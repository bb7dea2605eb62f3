use Rattle.std.proofs.Common.{◌≡◌, ◌∙◌, [], refl, sym, subst, true, false}
use Rattle.line_words.specs.Table.{same_number}
use Rattle.lobby_model.proofs.Delivered.{same_number_is}
use Rattle.lobby_machine.specs.Shown.{dirty_at}
use Rattle.lobby_hall.proofs.Following.{still_taken, still_nobody}
use Rattle.lobby_hall.proofs.record.Record.catch_up_home.Goals as goal

pub loop-client-preserved : goal.loop-client-preserved
loop-client-preserved c = record {
  plain = c.next_dirty.ensures.plain ∙ c.loop-client.invariant.plain;
  follows = still_taken c.args.lobby.now c.loop-client.lobby c.next_dirty.new.self c.args.behind.now c.loop-client.behind c.args.self.now c.loop-client.self
      c.args.home c.loop-client.invariant.follows c.next_dirty.ensures.plain c.next_dirty.ensures.others c.in-Some.client c.catch_up_behind.new.behind
      c.catch_up_behind.new.self c.loop-client.invariant.plain c.loop-client.invariant.none c.in-Some.ensures.first c.catch_up_behind.ensures.follows;
  none = c.in_ok-catch_up_behind.ensures.none;
  others = λ worker small was.
      elim (same_number c.args.home worker) as (λ b. same_number c.args.home worker ≡ b → dirty_at c.next_dirty.new.self worker ≡ []) [
        | true ↦ λ t.
            let empty : dirty_at c.loop-client.lobby c.args.home ≡ [] =
            subst (λ w. dirty_at c.loop-client.lobby w ≡ []) (sym (same_number_is c.args.home worker t)) (c.loop-client.invariant.others worker small was) in
            absurd (let no = sym empty ∙ c.in-Some.ensures.first in cc)
        | false ↦ λ t. c.next_dirty.ensures.others worker small t ∙ c.loop-client.invariant.others worker small was
      ] refl;
}

pub returns-in_err-catch_up_behind-clause-follows : goal.returns-in_err-catch_up_behind-clause-follows
returns-in_err-catch_up_behind-clause-follows c =
    still_taken c.args.lobby.now c.loop-client.lobby c.next_dirty.new.self c.args.behind.now c.loop-client.behind c.args.self.now c.loop-client.self
    c.args.home c.loop-client.invariant.follows c.next_dirty.ensures.plain c.next_dirty.ensures.others c.in-Some.client c.catch_up_behind.new.behind
    c.catch_up_behind.new.self c.loop-client.invariant.plain c.loop-client.invariant.none c.in-Some.ensures.first c.catch_up_behind.ensures.follows

pub returns-clause-follows : goal.returns-clause-follows
returns-clause-follows c =
    still_nobody c.args.lobby.now c.loop-client.lobby c.next_dirty.new.self c.args.behind.now c.loop-client.behind c.args.self.now c.loop-client.self
    c.args.home c.loop-client.invariant.follows c.next_dirty.ensures.plain c.next_dirty.ensures.others c.in_default.ensures.first

use Rattle.std.proofs.Common.{◌≡◌, ◌+◌, ◌∙◌, ap, subst, length, arith}
use Rattle.lobby_model.specs.State.{Client, is_live}
use Rattle.lobby_model.specs.Sessions.{greeted}
use Rattle.lobby_post.specs.declared.due.Due.{Due}
use Rattle.lobby_post.specs.Dues.{counted, due_and}
use Rattle.lobby_post.specs.Mail.{PutsFirst}
use Rattle.lobby_post.proofs.Parcels.{puts_all}
use Rattle.lobby_post.proofs.slot.Slot.with_greeting.Goals as goal

pub returns-clause-client : goal.returns-clause-client
returns-clause-client c =
    let hears = ap is_live c.new-slot.ensures.client in
    let due : c.reserve.new.self.due.bytes ≡ counted (0 + length c.args.greeting.now) =
    ap (λ (d : Due). d.bytes) (c.in_ok-reserve.ensures.due hears ∙ ap (λ d. due_and d (length c.args.greeting.now)) c.new-slot.ensures.due) in
    let alone : c.reserve.new.self.due.bytes ≡ counted (length c.args.greeting.now) = omega (arith, due) in
    c.cancel.ensures.client
    ∙ puts_all c.args.limit c.args.greeting.now (greeted c.args.ip c.args.home) c.put.new.self.client
    (subst (λ (k : Client). PutsFirst c.args.limit (counted (length c.args.greeting.now)) c.args.greeting.now k c.put.new.self.client)
    (c.reserve.ensures.client ∙ c.new-slot.ensures.client)
    (subst (λ n. PutsFirst c.args.limit n c.args.greeting.now c.reserve.new.self.client c.put.new.self.client) alone
    (subst (λ n. PutsFirst n c.reserve.new.self.due.bytes c.args.greeting.now c.reserve.new.self.client c.put.new.self.client)
    (c.reserve.ensures.limit ∙ c.new-slot.ensures.limit) c.put.ensures.client)))

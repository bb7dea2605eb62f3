use Rattle.std.proofs.Common.{◌≡◌, ◌≤◌, ◌<◌, ℕ, rules, sym, ap, subst, length, arith}
use Rattle.lobby_lock.specs.Passes.{ShownPass}
use Rattle.lobby_connections.specs.Claims.{claims_of}
use Rattle.lobby_connections.specs.Joined.{keys_in}
use Rattle.lobby_connections.specs.Shared.{AllStand, IsHad}
use Rattle.lobby_connections.proofs.Standings.{all_wait, go_on_then}
use Rattle.lobby_connections.proofs.sharing.serve_together.Goals as goal

pub returns-clause-turns : goal.returns-clause-turns
returns-clause-turns g c =
    let seats = c.args.seats.now in
    let start = c.args.pass in
    let begun = c.begin.new.self in
    let read = c.gather_all-pass in
    let most : begun.allowance ≡ c.args.allowance = ap (λ t. t.allowance) c.begin.ensures.rest in
    let gathered = read.ensures.gathers seats (all_wait seats start begun.allowance (keys_in begun) begun.standings c.begin.ensures.waits) in
    let few : read.new.together.allowance ≤ c.args.allowance = omega (arith, read.ensures.allowance, most) in
    (go_on_then _ _ _ _ _ _ _ _ _ c.speak_all-pass.ensures.speaks c.finish_all.ensures.finishes).stand seats start c.args.allowance few
    (subst (λ (x : ShownPass × ℕ). AllStand seats start read.new.seats x.0 x.1 (keys_in read.new.together) read.new.together.standings) (λ i. (sym read.ensures.pass i, most i)) gathered)

pub returns-clause-had : goal.returns-clause-had
returns-clause-had g c = λ place lt lent.
    let keys : keys_in c.speak_all-pass.new.together ≡ keys_in c.args.together.now = search rules in
    let claims : claims_of c.speak_all-pass.new.seats ≡ claims_of c.args.seats.now = search rules in
    let buffers : length c.gather_all-pass.new.buffers.items ≡ length c.args.buffers.now.items = c.gather_all-pass.ensures.buffers in
    subst (λ x. IsHad x c.finish_all.new.together place) claims
    (c.finish_all.ensures.had place (subst (λ k. place < length k) (sym keys) lt) (omega (arith, lent, buffers)))

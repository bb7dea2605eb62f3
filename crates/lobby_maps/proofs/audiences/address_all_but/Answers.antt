use Rattle.std.proofs.lemmas.Grind.{common_steps}
use Rattle.std.proofs.Common.{◌≡◌, ◌∙◌, ap, map, rules, arith}
use Rattle.std.proofs.lemmas.Map.Iter.{iter_end}
use Rattle.std.specs.Prelude.{filter, not, ◌||◌}
use Rattle.std.specs.Map.Iter.{deref}
use Rattle.lobby_post.specs.Posted.{addressed}
use Rattle.lobby_maps.specs.Fit.{is_some_number}
use Rattle.lobby_maps.proofs.AllBut.{none_of_two}
use Rattle.lobby_maps.proofs.audiences.address_all_but.Goals as goal

pub returns-clause-sent : goal.returns-clause-sent
returns-clause-sent c =
    let all : map deref c.loop-client.yielded ≡ c.args.online.now.clients.keys = search (rules, iter_end) in
    c.loop-client.invariant
    ∙ ap (λ numbers. addressed c.args.post.now (filter (λ d. not (is_some_number c.client_of-first.result d || is_some_number c.client_of-second.result d)) numbers)) all
    ∙ ap (addressed c.args.post.now) (none_of_two c.client_of-first.result c.client_of-second.result _ _ c.client_of-first.ensures
    c.client_of-second.ensures c.args.online.now.clients.keys)

pub returns-in_err-address_key-clause-rising : goal.returns-in_err-address_key-clause-rising
returns-in_err-address_key-clause-rising c = grind (arith, common_steps)

pub returns-in_err-address_key-clause-sent : goal.returns-in_err-address_key-clause-sent
returns-in_err-address_key-clause-sent c = grind (arith, common_steps)

use Rattle.std.proofs.Common.{◌∙◌, ap}
use Rattle.line_words.specs.Table.{at_name}
use Rattle.lobby_post.specs.Posted.{addressed}
use Rattle.lobby_battles.specs.OnlineUsers.{client_in}
use Rattle.lobby_maps.proofs.Walks.{name_addressed}
use Rattle.lobby_maps.proofs.audiences.address_names.Goals as goal

pub loop-i-preserved : goal.loop-i-preserved
loop-i-preserved c =
    name_addressed c.args.online.now.users.entries c.args.names.now c.index-names-i.result c.loop-i.i c.loop-i-test.true c.args.post.now
    c.loop-i.post c.loop-i.invariant c.address_near.new.post (c.in_ok-address_near.ensures
    ∙ ap (λ n. addressed c.loop-i.post (client_in (at_name c.args.online.now.users.entries n))) c.index-names-i.is)

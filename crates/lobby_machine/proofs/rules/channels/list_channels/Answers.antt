use Rattle.lobby_machine.proofs.Talked.{channels_listed}
use Rattle.lobby_machine.proofs.rules.channels.list_channels.Goals as goal

pub returns : goal.returns
returns c =
    channels_listed c.args.by.now.maps.now.plain c.args.by.now.client c.args.post.now c.begin_own.new.self c.write_channels.new.post
    c.write_own.new.self c.address_issuer.new.self
    c.begin_own.ensures c.in_ok-write_channels.ensures c.in_ok-write_own.ensures c.in_ok-address_issuer.ensures

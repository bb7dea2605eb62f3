use Rattle.std.proofs.Common.{◌∙◌, ap, sym}
use Rattle.lobby_post.specs.Mail.{plain}
use Rattle.lobby_post.specs.Posted.{addressed}
use Rattle.lobby_maps.proofs.Walks.{sole_client}
use Rattle.lobby_maps.proofs.audiences.address_near.Goals as goal

pub returns-in_ok-address_key : goal.returns-in_ok-address_key
returns-in_ok-address_key c =
    c.in_ok-address_key.ensures
    ∙ ap (addressed c.args.post.now) (sym (sole_client (plain c.args.clients.now.slots) c.args.online.now.users.entries c.requires
    c.args.name.now c.args.key.number (c.is_named_at.ensures c.if-is_named_at.true)))

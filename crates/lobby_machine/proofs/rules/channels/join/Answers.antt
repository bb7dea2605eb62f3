use Rattle.lobby_machine.proofs.Talked.{joins_so}
use Rattle.lobby_machine.proofs.rules.channels.join.Goals as goal

pub returns : goal.returns
returns c =
    joins_so c.args.by.now.maps.now.plain c.args.by.now.client c.args.post.now c.tell_self.new.post c.tell_members.new.post c.tell_users.new.post
    c.args.by.now.me.now c.args.channel.now
    c.in_ok-names.names.now c.copy-2.result c.copy.result
    c.in_ok-names.ensures.names c.in_ok-names.ensures.among c.copy.ensures c.copy-2.ensures
    c.in_ok-tell_self.ensures c.in_ok-tell_members.ensures c.in_ok-tell_users.ensures

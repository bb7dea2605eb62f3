use Rattle.lobby_machine.proofs.Members.{piece_sliced, last_told}
use Rattle.lobby_machine.proofs.rules.channels.tell_members.Goals as goal

pub loop-rest-preserved : goal.loop-rest-preserved
loop-rest-preserved c =
    piece_sliced c.args.channel.now c.args.me.now c.loop-rest.rest.now c.args.maps.now.plain c.args.post.now c.loop-rest.post
    c.args.names.now c.loop-rest.invariant c.tell_self.new.post c.loop-rest-test.true c.in_ok-tell_self.ensures

pub returns : goal.returns
returns c =
    last_told c.args.channel.now c.args.me.now c.loop-rest.rest.now c.args.maps.now.plain c.args.post.now c.loop-rest.post
    c.args.names.now c.loop-rest.invariant c.tell_self-2.new.post c.loop-rest-test.false c.in_ok-tell_self-2.ensures

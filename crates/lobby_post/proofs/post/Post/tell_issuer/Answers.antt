use Rattle.lobby_post.proofs.Telling.{told_issuer}
use Rattle.lobby_post.proofs.post.Post.tell_issuer.Goals as goal

pub returns : goal.returns
returns c = λ s. told_issuer s c.args.self.now c.write.new.self _ c.args.line c.in_ok-write.ensures c.in_ok-address_issuer.ensures

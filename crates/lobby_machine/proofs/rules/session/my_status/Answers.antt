use Rattle.std.proofs.Common.{◌∙◌, ap}
use Rattle.status_bits.specs.Fields.{merge}
use Rattle.status_bits.specs.UserWord.{user_table}
use Rattle.lobby_machine.proofs.Spoken.{status_set}
use Rattle.lobby_machine.proofs.rules.session.my_status.Goals as goal

pub returns : goal.returns
returns c =
    status_set c.args.by.now.maps.now.plain c.args.by.now.client c.args.by.now.me.now c.copy.result c.args.asked c.merge_user-status.result c.word.result c.args.post.now
    c.tell_all.new.post c.copy.ensures
    (c.merge_user-status.ensures.word ∙ ap (λ status. merge user_table status c.args.asked) c.status_of.ensures) c.word.ensures.same
    c.in_ok-tell_all.ensures

use Rattle.std.proofs.Common.{◌∙◌, ap, w64}
use Rattle.std.proofs.lemmas.Int.{to_z-of_z}
use Rattle.account_book.specs.Book.{login}
use Rattle.lobby_model.specs.Sessions.{user_of}
use Rattle.lobby_machine.proofs.Spoken.{logged_in_so}
use Rattle.lobby_machine.proofs.rules.session.log_in.Goals as goal

pub returns : goal.returns
returns c =
    logged_in_so c.args.maps.now.plain c.args.client c.args.cpu c.args.authorises (login c.args.maps.now.plain.accounts c.args.user_name.now c.args.password.now)
    c.in_ok-account.account.now c.in_ok-account.ensures.ok
    c.args.post.now c.tell_burst.new.post c.tell_arrival.new.post c.in_ok-name.name c.online_user_of-online_user.result c.requires.hears c.requires.nobody
    c.in_ok-name.ensures.ok.1 c.in_ok-name.ensures.ok.0 (c.online_user_of-online_user.ensures.here ∙ c.client_key-key.ensures) c.online_user_of-online_user.ensures.outside (c.online_user_of-online_user.ensures.user
    ∙ ap (λ cpu. user_of c.in_ok-account.account.now cpu c.args.authorises) (to_z-of_z w64 c.args.cpu c.ranges.cpu))
    c.in_ok-tell_burst.ensures c.in_ok-tell_arrival.ensures

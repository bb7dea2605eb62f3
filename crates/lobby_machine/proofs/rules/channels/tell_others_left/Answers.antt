use Rattle.std.proofs.Common.{List, ℕ, [], ◌∷◌, ap, subst, sym, ◌∙◌}
use Rattle.std.specs.Prelude.{OnOk}
use Rattle.reply_kinds.specs.declared.Reply.TheVariants as reply
use Rattle.channel_book.specs.Channels.{Channels, names_in}
use Rattle.lobby_model.specs.Events.{reader_of}
use Rattle.lobby_model.specs.Outcome.{users}
use Rattle.lobby_post.specs.Posted.{Told, but_issuer}
use Rattle.lobby_post.proofs.Telling.{told_nobody}
use Rattle.lobby_machine.specs.Talk.{left_letter}
use Rattle.lobby_machine.proofs.Alone.{nobody_else}
use Rattle.lobby_machine.proofs.rules.channels.tell_others_left.Goals as goal

-- who is alone in it
pub returns-then-is_alone : goal.returns-then-is_alone
returns-then-is_alone c =
    let s = c.args.maps.now.plain in
    let names = c.roster.ensures.names ∙ ap (λ (channels : Channels). names_in channels c.args.channel.now) c.channels.ensures in
    told_nobody s c.args.post.now (but_issuer (users (names_in s.channels c.args.channel.now))) (reply.Left c.args.channel.now c.args.me.now ∷ [])
    (λ d. ap (λ (ns : List (List ℕ)). but_issuer (users ns) (reader_of s c.args.post.now.issuer d)) (sym names ∙ c.is_alone.ensures c.if-is_alone.true)
    ∙ nobody_else s c.args.post.now.issuer c.args.me.now (c.requires c.if-is_own.true) d)

pub returns : goal.returns
returns c =
    let s = c.args.maps.now.plain in
    let names = c.roster.ensures.names ∙ ap (λ (channels : Channels). names_in channels c.args.channel.now) c.channels.ensures in
    subst (λ (ns : List (List ℕ)). OnOk c.tell_other_users.result (Told s c.args.post.now c.tell_other_users.new.post (left_letter c.args.me.now c.args.channel.now ns ∷ [])))
    names c.tell_other_users.ensures

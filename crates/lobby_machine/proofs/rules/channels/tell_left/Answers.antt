use Rattle.std.proofs.lemmas.Grind.{common_steps}
use Rattle.std.proofs.Common.{◌≡◌, ◌∙◌, ap, subst, sym, map, rules, List, [], arith}
use Rattle.std.proofs.lemmas.Map.Iter.{iter_end}
use Rattle.std.specs.List.Sorted.{IsStrictlySortedBy}
use Rattle.std.specs.Map.{keys_of}
use Rattle.std.specs.Map.Iter.{deref}
use Rattle.line_words.specs.Table.{name_cmp}
use Rattle.channel_book.specs.Channels.{Channels, channels_of}
use Rattle.lobby_model.specs.Outcome.{Letter}
use Rattle.lobby_post.specs.Posted.{Told}
use Rattle.lobby_maps.specs.Fit.{IsSole}
use Rattle.lobby_post.proofs.Telling.{told_nothing}
use Rattle.lobby_machine.proofs.OwnChannels.{letters_are, none_listed}
use Rattle.lobby_machine.proofs.rules.channels.tell_left.Goals as goal

pub returns-in-None : goal.returns-in-None
returns-in-None c =
    let s = c.args.maps.now.plain in
    let rising = subst (λ (channels : Channels). IsStrictlySortedBy name_cmp (keys_of channels)) c.channels-book.ensures c.channel_count.ensures.ordered in
    let whole : map deref c.loop-channel.yielded ≡ c.in-Some.channels.now.keys = search (rules, iter_end) in
    let own = c.in-Some.ensures ∙ ap (λ (channels : Channels). keys_of (channels_of c.args.me.now channels)) c.channels-book.ensures in
    subst (λ (letters : List Letter). Told s c.args.post.now c.loop-channel.post letters)
    (letters_are c.args.me.now s.channels rising (map deref c.loop-channel.yielded) (whole ∙ own))
    c.loop-channel.invariant

-- one who is in no channel
pub returns-in_default : goal.returns-in_default
returns-in_default c =
    let s = c.args.maps.now.plain in
    let rising = subst (λ (channels : Channels). IsStrictlySortedBy name_cmp (keys_of channels)) c.channels-book.ensures c.channel_count.ensures.ordered in
    let own = none_listed c.channels_of.result c.in_default.not-Some ∙ c.channels_of.ensures ∙ ap (λ (channels : Channels). keys_of (channels_of c.args.me.now channels)) c.channels-book.ensures in
    subst (λ (letters : List Letter). Told s c.args.post.now c.args.post.now letters)
    (letters_are c.args.me.now s.channels rising [] own)
    (told_nothing s c.args.post.now)

pub returns-in_err-tell_others_left : goal.returns-in_err-tell_others_left
returns-in_err-tell_others_left c = grind (arith, common_steps)

pub tell_others_left-requires : goal.tell_others_left-requires
tell_others_left-requires c = λ own. subst (λ n. IsSole c.args.maps.now.plain n c.args.me.now) (sym c.loop-channel.invariant.issuer) (c.is_issuer-is_own.ensures own)

use Rattle.std.proofs.Common.{◌∙◌, ap, sym}
use Rattle.line_words.specs.Table.{is_among}
use Rattle.channel_book.specs.Channels.{Channels, names_in}
use Rattle.channel_book.specs.Places.{places_in, with_place, without_place}
use Rattle.channel_book.proofs.Placed.{places-joined, not_placed, undone}
use Rattle.channel_book.proofs.book.ChannelBook.add_member.Goals as goal

-- what the index took is taken back
pub invariant_of-self-in-Err : goal.invariant_of-self-in-Err
invariant_of-self-in-Err g c =
    let none = ap (λ (channels : Channels). is_among c.args.user (names_in channels c.args.channel)) c.self.view_is ∙ c.requires in
    let placed = c.in_ok-add.ensures.ok ∙ (λ i. with_place (c.copy-place.ensures i) (c.copy-member.ensures i) (c.self.invariant i)) in
    c.remove.ensures
    ∙ (λ i. without_place (c.copy-place.ensures i) (c.copy-member.ensures i) (placed i))
    ∙ undone c.args.channel c.args.user (places_in c.self.inside.lists)
    (not_placed c.self.inside.lists c.args.user c.add-2.ensures.ordered c.args.channel none)
    ∙ ap places_in (sym c.in-Err.ensures.err)

pub invariant_of-self-in_default : goal.invariant_of-self-in_default
invariant_of-self-in_default g c =
    c.in_ok-add.ensures.ok
    ∙ (λ i. with_place (c.copy-place.ensures i) (c.copy-member.ensures i) (c.self.invariant i))
    ∙ sym (places-joined c.self.inside.lists c.args.user c.add-2.ensures.ordered c.args.channel)
    ∙ ap places_in (sym c.in_default.ensures.ok)

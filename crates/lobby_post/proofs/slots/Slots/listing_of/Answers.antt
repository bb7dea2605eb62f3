use Rattle.std.proofs.Common.{◌∙◌, ap}
use Rattle.std.specs.Prelude.{Some}
use Rattle.std.specs.Option.{option_map}
use Rattle.lobby_post.specs.Mail.{Mailbox}
use Rattle.lobby_post.proofs.slots.Slots.listing_of.Goals as goal

pub returns-in-Some : goal.returns-in-Some
returns-in-Some c =
    (λ i. Some (c.home.ensures.home i, c.is_listed.ensures i))
    ∙ ap (option_map (λ (held : Mailbox). (held.client.home, held.listed))) c.in-Some.ensures.value

pub returns-in-None : goal.returns-in-None
returns-in-None c = ap (option_map (λ (held : Mailbox). (held.client.home, held.listed))) c.in-None.ensures.value

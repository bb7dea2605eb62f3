-- What the slots end as, once a `&mut` to one of them has ended.
use Rattle.std.specs.Prelude.{ℕ, Option}
use Rattle.std.specs.Borrow.{Fml, MutBor, LendsIf}
use Rattle.std.specs.Ordering.{nat_cmp}
use Rattle.std.specs.BTreeMap.{is_at}
use Rattle.std.specs.Map.{set_value}
use Rattle.line_words.specs.Table.{ByNumber}
use Rattle.lobby_post.specs.Mail.{Mailbox}
use Rattle.lobby_post.specs.contracts.slot.Slot as slot
use Rattle.lobby_post.specs.contracts.slots.Slots as slots

-- client c has the last value written through r, and at `None` all stay as they are
abbrev pub lends_slot : MutBor (ByNumber Mailbox) → ℕ → Option (MutBor Mailbox) → Fml
lends_slot s c r = LendsIf slots.the_row slot.the_row s r (λ w. set_value (is_at (nat_cmp c)) s.now w) s.now

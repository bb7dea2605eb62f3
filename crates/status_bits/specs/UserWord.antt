-- The status word of a user, as MYSTATUS and CLIENTSTATUS carry it.
use Rattle.std.specs.Prelude.{ℕ, ◌+◌, ◌*◌, ◌^◌, Bool, true, false, List, [], ◌∷◌, if◌then◌else◌}
use Rattle.status_bits.specs.Fields.{Field, HasNoOtherBit}

-- whether the user plays, and whether it is away
abbrev pub in_game : Field
in_game = record { first = 0; width = 1; own = true }

abbrev pub away : Field
away = record { first = 1; width = 1; own = true }

-- its rank, whether it is a moderator, and whether it is a program
abbrev pub rank : Field
rank = record { first = 2; width = 3; own = false }

abbrev pub access : Field
access = record { first = 5; width = 1; own = false }

abbrev pub bot : Field
bot = record { first = 6; width = 1; own = false }

abbrev pub user_table : List Field
user_table = in_game ∷ away ∷ rank ∷ access ∷ bot ∷ []

-- Each bit outside the fields is clear
abbrev pub IsUserStatus : ℕ → Type 0
IsUserStatus word = HasNoOtherBit user_table word

-- The word of a user who has just logged in to its account
abbrev pub account_word : ℕ → Bool → Bool → ℕ
account_word number is_moderator is_bot =
    number * 2 ^ rank.first
    + (if is_moderator then 2 ^ access.first else 0)
    + (if is_bot then 2 ^ bot.first else 0)

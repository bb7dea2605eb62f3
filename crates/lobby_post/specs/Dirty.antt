-- Which clients were touched and wait to be looked after.
use Rattle.std.specs.Prelude.{◌≡◌, ◌⊎◌, ℕ, ◌+◌, ◌-◌, ◌*◌, ◌^◌, ◌≤◌, ◌<◌, min, Bool, true, false, not, ◌&&◌, nat_le}
use Rattle.std.specs.Prelude.{if◌then◌else◌, List, [], ◌∷◌, ◌++◌, filter, length, slice_index_or, IfSome, IfNone}
use Rattle.std.specs.Prelude.{Option, Some, None}
use Rattle.std.specs.List.Sorted.{IsSorted, IsPermutation}
use Rattle.std.specs.Option.{option_to_list}
use Rattle.std.specs.Ordering.{nat_cmp}
use Rattle.std.specs.BTreeMap.{is_at}
use Rattle.std.specs.Map.{lookup}
use Rattle.line_words.specs.Table.{ByNumber, map_values, same_number}
use Rattle.lobby_model.specs.Touched.{is_touched}
use Rattle.lobby_post.specs.Mail.{Mailbox, Line, bytes_for}

-- a line, for how many more clients there is room in it, and how many that wait in it are known to be gone
pub record Roomy : Type 0 where
  pub line : Line
  pub room : ℕ
  pub gone : ℕ

abbrev pub none_waits : Line
none_waits = record { waiting = []; fresh = []; idle = 0 }

abbrev pub no_list : Roomy
no_list = record { line = none_waits; room = 0; gone = 0 }

-- the list of a worker, and its line
abbrev pub list_of : List Roomy → ℕ → Roomy
list_of lists home = slice_index_or lists home no_list

abbrev pub line_of : List Roomy → ℕ → Line
line_of lists home = (list_of lists home).line

-- a client is new, behind the others
abbrev pub added : ℕ → Line → Line
added client line = record line { waiting = line.waiting ++ client ∷ [] }

-- the event at hand touches a client that does not wait
abbrev pub pushed : ℕ → Line → Line
pushed client line = if nat_le 1 line.idle
    then record line { fresh = line.fresh ++ client ∷ []; idle = line.idle - 1 } else line

-- those that an event touched stand behind the others, in rising order
pub record IsSettled (old new : Line) : Type 0 where
  pub behind : List ℕ
  pub waiting : new.waiting ≡ old.waiting ++ behind
  pub same : IsPermutation old.fresh behind
  pub rising : IsSorted nat_cmp behind
  pub fresh : new.fresh ≡ []
  pub idle : new.idle ≡ old.idle

-- how often a number stands in a list
abbrev pub times : ℕ → List ℕ → ℕ
times c [] = 0
times c (d ∷ ds) = (if same_number c d then 1 else 0) + times c ds

-- numbers that do not pass a test may have been left out
pub record IsTrimmed (p : ℕ → Bool) (old new : List ℕ) : Type 0 where
  pub kept : filter p new ≡ filter p old
  pub counted : (c : ℕ) → p c ≡ true → times c new ≡ times c old
  pub fewer : (c : ℕ) → times c new ≤ times c old

-- a client that waited, or did not, is gone
pub record IsLeft (listed : Bool) (p : ℕ → Bool) (old new : Line) : Type 0 where
  pub waiting : IsTrimmed p old.waiting new.waiting
  pub fresh : new.fresh ≡ old.fresh
  pub idle : new.idle ≡ (if listed then old.idle else old.idle - 1)

-- one more that waits is gone, or those that do not pass a test were swept out; at most half of those that wait are
-- gone then
pub record IsSwept (p : ℕ → Bool) (old new : Roomy) : Type 0 where
  pub few : 2 * new.gone ≤ length new.line.waiting
  pub swept : (new.gone ≡ min (old.gone + 1) (2 ^ 64 - 1))
      ⊎ ((new.gone ≡ 0) × (new.line.waiting ≡ filter p old.line.waiting))

-- the first that passes a test is taken out, and does not wait any more; there is none only where nobody is left
pub record IsServed (p : ℕ → Bool) (result : Option ℕ) (old new : Line) : Type 0 where
  pub first : IsTrimmed p old.waiting (option_to_list result ++ new.waiting)
  pub passes : IfSome result (λ c. p c ≡ true)
  pub nobody : IfNone result (new.waiting ≡ [])
  pub fresh : new.fresh ≡ old.fresh
  pub idle : new.idle ≡ length (option_to_list result) + old.idle

-- what the lists say of a client: its worker, and whether it stands in that worker's list
pub record Listing : Type 0 where
  pub home : ℕ
  pub listed : Bool

abbrev pub listing_of : Mailbox → Listing
listing_of held = record { home = held.client.home; listed = held.listed }

abbrev pub listings_of : ByNumber Mailbox → ByNumber Listing
listings_of slots = map_values (λ c held. listing_of held) slots

-- a client is there and this worker's
abbrev pub is_of : ℕ → Option Listing → Bool
is_of home None = false
is_of home (Some listing) = same_number listing.home home

abbrev pub stands : ByNumber Listing → ℕ → ℕ → Bool
stands listings home c = is_of home (lookup (is_at (nat_cmp c)) listings)

-- a client of this worker stands in no list
abbrev pub is_idle : ℕ → Listing → Bool
is_idle home listing = same_number listing.home home && not listing.listed

abbrev pub idle_of : ℕ → ByNumber Listing → ℕ
idle_of home listings = length (filter (λ e. is_idle home e.1) listings)

-- something holds of the listing of each client
abbrev pub AllListings : (ℕ → Listing → Type 0) → ByNumber Listing → Type 0
AllListings P listings = (c : ℕ) (listing : Listing) → lookup (is_at (nat_cmp c)) listings ≡ Some listing → P c listing

-- Between two events: each client waits in its worker's line once where its listing says so, and else not; it is known
-- how many of a worker's clients do not; and no number beyond the last was given to a client or stands in a line, so
-- that none comes back
pub record AreKnown (listings : ByNumber Listing) (lines : ℕ → Line) (last : ℕ) : Type 0 where
  pub homes : AllListings (λ c listing. listing.home < 64) listings
  pub placed : AllListings
      (λ c listing. times c (lines listing.home).waiting ≡ (if listing.listed then 1 else 0)) listings
  pub counted : (home : ℕ) → home < 64 → (lines home).idle ≡ idle_of home listings
  pub settled : (home : ℕ) → home < 64 → (lines home).fresh ≡ []
  pub numbered : AllListings (λ c listing. c ≤ last) listings
  pub past : (home c : ℕ) → home < 64 → 0 < times c (lines home).waiting → c ≤ last

-- 1 for a client of a worker that these pieces touch and that does not wait yet, else 0
abbrev pub news_of : ByNumber (List ℕ) → ℕ → ℕ → Option Mailbox → ℕ
news_of pieces home c None = 0
news_of pieces home c (Some held) = if same_number held.client.home home
    && (not held.listed && is_touched held.limit (bytes_for pieces c) held.client) then 1 else 0

abbrev pub news : ByNumber (List ℕ) → ByNumber Mailbox → ℕ → ℕ → ℕ
news pieces slots home c = news_of pieces home c (lookup (is_at (nat_cmp c)) slots)

-- Behind those that wait stand the clients of a worker that these pieces touch and that did not wait yet, each once, in
-- rising numbers
pub record IsNewly (pieces : ByNumber (List ℕ)) (slots : ByNumber Mailbox) (home : ℕ) (old new : List ℕ) : Type 0 where
  pub behind : List ℕ
  pub waiting : new ≡ old ++ behind
  pub rising : IsSorted nat_cmp behind
  pub exact : (c : ℕ) → times c behind ≡ news pieces slots home c

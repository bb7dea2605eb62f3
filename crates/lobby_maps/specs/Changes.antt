-- What a change makes of each map, and when what is told is what an event sends.
use Rattle.std.specs.Prelude.{◌≡◌, ℕ, Bool, true, false, List, Option, Some, None}
use Rattle.line_words.specs.Table.{ByName, ByNumber, at_number, at_name, put_name, change_name, is_among}
use Rattle.channel_book.specs.Channels.{Channels, names_in, joined, left, all_left}
use Rattle.lobby_model.specs.declared.event.Event.{Event}
use Rattle.lobby_model.specs.declared.event.Phase.TheVariants.{In}
use Rattle.lobby_model.specs.State.{State, User, user_with, Client, Battle, is_live_client, name_at, set_phase}
use Rattle.lobby_model.specs.Outcome.{Happening}
use Rattle.lobby_model.specs.Sessions.{ends, disconnects}
use Rattle.lobby_model.specs.Events.{effect}
use Rattle.lobby_model.specs.Next.{batch}
use Rattle.lobby_post.specs.Mail.{bytes_for, parted}
use Rattle.lobby_post.specs.Posted.{Posted}
use Rattle.lobby_maps.specs.declared.change.Change.{Change}
use Rattle.lobby_maps.specs.declared.change.Change.TheVariants.{Nothing, Status, LogIn, LogOut, Join, Leave, InBattles}
use Rattle.lobby_battles.specs.declared.online_users.OnlineUser.{OnlineUser}
use Rattle.lobby_battles.specs.OnlineUsers.{plain_user, where_some, without_one}
use Rattle.lobby_battles.specs.Battles.{battles_after as changed_battles, last_after as last_battle_after, left_own}
use Rattle.lobby_battles.specs.Battles.{unasked_own, CanChange, LeavesAll}

abbrev pub clients_after : ByNumber Client → ℕ → Change → ByNumber Client
clients_after clients c Nothing = clients
clients_after clients c (Status name status) = clients
clients_after clients c (Join channel name) = clients
clients_after clients c (Leave channel name) = clients
clients_after clients c (LogIn name online_user) = set_phase clients c (In name)
clients_after clients c (InBattles change) = clients
clients_after clients c (LogOut name asks battle stays) = parted clients c stays

abbrev pub users_after : ByName User → Change → ByName User
users_after users Nothing = users
users_after users (Join channel name) = users
users_after users (Leave channel name) = users
users_after users (Status name status) = change_name users name (user_with status)
users_after users (LogIn name online_user) = put_name users name (plain_user online_user)
users_after users (InBattles change) = users
users_after users (LogOut name asks battle stays) = where_some without_one name users

abbrev pub channels_after : Channels → Change → Channels
channels_after channels Nothing = channels
channels_after channels (Status name status) = channels
channels_after channels (LogIn name online_user) = channels
channels_after channels (Join channel name) = joined channel name channels
channels_after channels (Leave channel name) = left channel name channels
channels_after channels (InBattles change) = channels
channels_after channels (LogOut name asks battle stays) = where_some all_left name channels

abbrev pub battles_after : ByNumber Battle → Change → ByNumber Battle
battles_after battles Nothing = battles
battles_after battles (Status name status) = battles
battles_after battles (LogIn name online_user) = battles
battles_after battles (Join channel name) = battles
battles_after battles (Leave channel name) = battles
battles_after battles (InBattles change) = changed_battles change battles
battles_after battles (LogOut name asks battle stays) = left_own name battle (unasked_own name asks battles)

abbrev pub last_after : ℕ → Change → ℕ
last_after last Nothing = last
last_after last (Status name status) = last
last_after last (LogIn name online_user) = last
last_after last (Join channel name) = last
last_after last (Leave channel name) = last
last_after last (InBattles change) = last_battle_after change last
last_after last (LogOut name asks battle stays) = last

-- the maps after a change that client c makes
abbrev pub changed : State → ℕ → Change → State
changed s c change = record s {
  clients = clients_after s.clients c change;
  users = users_after s.users change;
  channels = channels_after s.channels change;
  battles = battles_after s.battles change;
  last_battle = last_after s.last_battle change;
}

-- One who logs in hears, is not logged in, and takes a name that nobody has
pub record IsFresh (clients : ByNumber Client) (users : ByName User) (c : ℕ) (name : List ℕ)
    (online_user : OnlineUser) : Type 0 where
  pub hears : is_live_client (at_number clients c) ≡ true
  pub nobody : name_at clients c ≡ None
  pub free : at_name users name ≡ None
  pub here : online_user.client.number ≡ c
  pub outside : online_user.battle ≡ None

abbrev pub first_of : {A B : Type 0} → Option (A × B) → Option A
first_of None = None
first_of (Some e) = Some e.0

-- a change that these maps can take; it is the user of the client that logs out, and drops and leaves what is its own
abbrev pub CanBe : ByNumber Client → ByName User → Channels → ByNumber Battle → ℕ → Change → Type 0
CanBe clients users channels battles c Nothing = Unit {0}
CanBe clients users channels battles c (Status name status) = Unit {0}
CanBe clients users channels battles c (LogIn name online_user) = IsFresh clients users c name online_user
CanBe clients users channels battles c (Join channel name) = is_among name (names_in channels channel) ≡ false
CanBe clients users channels battles c (Leave channel name) = Unit {0}
CanBe clients users channels battles c (InBattles change) = CanChange clients battles c change
CanBe clients users channels battles c (LogOut name asks battle stays) = (name ≡ name_at clients c)
    × LeavesAll battles asks battle name

-- what becomes of a client that parts
abbrev pub parts : ℕ → Bool → Happening
parts c true = ends c
parts c false = disconnects c

-- the pieces are those of an event
abbrev pub Matches : State → Event → Posted → Type 0
Matches s e post = (d : ℕ) → bytes_for post.sent d ≡ batch s e d

-- a fact of each event that comes to this change and to what waits in the post
abbrev pub OfEvent : State → ℕ → Change → Posted → (Event → Type 0) → Type 0
OfEvent s c change post fact = (e : Event) → effect s e ≡ changed s c change → Matches s e post → fact e

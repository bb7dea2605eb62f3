-- What contracts see of a lobby.
use Rattle.std.specs.Prelude.{ℕ, Bool, List, [], slice_index_or}
use Rattle.account_book.specs.Account.{Account}
use Rattle.line_words.specs.Table.{ByName, ByNumber, at_number}
use Rattle.channel_book.specs.Channels.{Channels}
use Rattle.lobby_model.specs.Configuration.{Configuration}
use Rattle.lobby_model.specs.State.{State, User, Client, Battle}
pub use Rattle.lobby_post.specs.Unread.{unread_in, is_over}

-- the plain lobby of these maps
abbrev pub lobby_of : Configuration → List Account → ByNumber Client → ByName User → Channels → ByNumber Battle → ℕ → ℕ
    → State
lobby_of settings accounts clients users channels battles last_client last_battle = record {
  settings = settings;
  accounts = accounts;
  clients = clients;
  users = users;
  channels = channels;
  battles = battles;
  last_client = last_client;
  last_battle = last_battle;
}

-- The plain lobby that it stands for; for each of the 64 workers which of its clients changed and wait to be looked
-- after; and how much its events told
pub record Shown : Type 0 where
  pub plain : State
  pub dirty : List (List ℕ)
  pub told : ℕ

-- those of one worker, the first first
abbrev pub dirty_at : Shown → ℕ → List ℕ
dirty_at lobby home = slice_index_or lobby.dirty home []

-- what a client has not read; nothing, where there is no such client
abbrev pub unread_of : State → ℕ → List ℕ
unread_of s c = unread_in (at_number s.clients c)

abbrev pub is_finished : State → ℕ → Bool
is_finished s c = is_over (at_number s.clients c)

-- What a link shows of its calls.
use Rattle.std.specs.Prelude.{◌≡◌, ℕ, ◌-◌, ◌<◌, ◌≤◌, ◌^◌, List, [], ◌++◌, length, Option, Some, None}
use Rattle.std.specs.Option.{option_map}
use Rattle.lobby_holds.specs.declared.link.Got.{Got}
use Rattle.lobby_holds.specs.declared.link.Got.TheVariants as got
use Rattle.lobby_holds.specs.declared.link.Sent.{Sent}
use Rattle.lobby_holds.specs.declared.link.Sent.TheVariants as sent

-- how many reads and writes were made, and how often the device failed; all bytes that reads gave and that writes took,
-- where the link tells them; and its last answers
pub record Wire : Type 0 where
  pub reads : ℕ
  pub writes : ℕ
  pub failures : ℕ
  pub read : Option (List ℕ)
  pub written : Option (List ℕ)
  pub last_got : Option Got
  pub last_sent : Option Sent

-- no call was made
abbrev pub untouched : Wire
untouched = record {
  reads = 0;
  writes = 0;
  failures = 0;
  read = Some [];
  written = Some [];
  last_got = None;
  last_sent
      = None;
}

-- how many bytes a read gave
abbrev pub got_count : Got → ℕ
got_count (got.Bytes n) = n
got_count got.Later = 0
got_count got.End = 0
got_count got.Fault = 0

-- how many bytes a write took
abbrev pub sent_count : Sent → ℕ
sent_count (sent.Took n) = n
sent_count sent.Later = 0
sent_count sent.Fault = 0

-- bytes and some more behind them, where they are written
abbrev pub and_more : Option (List ℕ) → List ℕ → Option (List ℕ)
and_more written more = option_map (λ bytes. bytes ++ more) written

-- some bytes were read, so many at most, where they are told
pub record ReadsSome (old new : Wire) (most : ℕ) : Type 0 where
  pub more : List ℕ
  pub read : new.read ≡ and_more old.read more
  pub few : length more ≤ most

-- just so many bytes were read, where they are told
pub record ReadsBytes (old new : Wire) (bytes : ℕ) : Type 0 where
  pub more : List ℕ
  pub read : new.read ≡ and_more old.read more
  pub bytes_are : length more ≡ bytes

-- each count may rise by one
pub record MayGoOn (wire : Wire) : Type 0 where
  pub reads : wire.reads < 2 ^ 64 - 1
  pub writes : wire.writes < 2 ^ 64 - 1
  pub failures : wire.failures < 2 ^ 64 - 1

-- each count has place for a turn: 16 reads, 16 writes and as many failures
pub record IsFresh (wire : Wire) : Type 0 where
  pub reads : wire.reads ≤ 18446744073709551583
  pub writes : wire.writes ≤ 18446744073709551583
  pub failures : wire.failures ≤ 18446744073709551583

-- What contracts see of an account, and which accounts there can be.
use Rattle.std.specs.Prelude.{ℕ, ◌≤◌, Bool, false, IsTrue, ◌&&◌, ◌||◌, ◌==◌, nat_le, codes, List, length, Result, Ok}
use Rattle.std.specs.Prelude.{Err}
use Rattle.std.specs.Char.{is_ascii_uppercase}
use Rattle.std.specs.List.{list_all}
use Rattle.std.specs.Str.{bytes_eq}
use Rattle.line_words.specs.Bytes.{is_name}
use Rattle.base64.specs.Engines.{standard}
use Rattle.base64.specs.GeneralPurpose.{decode_of}
use Rattle.base64.specs.declared.decode.DecodeError.{DecodeError}

-- The name that its owner logs in under, the word of its password, its number, its rank,
-- whether its owner is a moderator, whether it is a program, and where it comes from
pub record Account : Type 0 where
  pub name : List ℕ
  pub password : List ℕ
  pub id : ℕ
  pub rank : ℕ
  pub access : Bool
  pub bot : Bool
  pub country : List ℕ

-- whether so many bytes were decoded
abbrev pub gives : ℕ → Result (List ℕ) DecodeError → Bool
gives count (Ok bytes) = length bytes == count
gives count (Err e) = false

-- A password word: 24 digits that are strict base64 of 16 bytes
abbrev pub is_password_word : List ℕ → Bool
is_password_word word = length word == 24 && gives 16 (decode_of standard word)

-- A country: two upper-case letters, or `??` where it is not known
abbrev pub is_country : List ℕ → Bool
is_country bytes =
    bytes_eq bytes (codes "??") || (length bytes == 2 && list_all is_ascii_uppercase bytes)

-- Each field of an account keeps its rule
abbrev pub is_sound : Account → Bool
is_sound account =
    is_name account.name && is_password_word account.password && nat_le account.rank 7
    && is_country account.country

-- What every account keeps: each field its rule, and a number of 32 bits
abbrev pub IsHeld : Account → Type 0
IsHeld account = IsTrue (is_sound account) × (account.id ≤ 4294967295)

-- The account of these fields
abbrev pub stated : List ℕ → List ℕ → ℕ → ℕ → Bool → Bool → List ℕ → Account
stated its_name its_password its_id its_rank its_access its_bot its_country = record {
  name = its_name;
  password = its_password;
  id = its_id;
  rank = its_rank;
  access = its_access;
  bot = its_bot;
  country = its_country;
}

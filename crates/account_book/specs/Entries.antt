-- What the tables of a file of accounts say, as the crate `toml` reads them.
use Rattle.std.specs.Prelude.{ℕ, Bool, false, ◌==◌, codes, List, [], ◌∷◌, Option, Some, None, option_and_then, Result}
use Rattle.std.specs.Prelude.{Ok, Err, if◌then◌else◌}
use Rattle.std.specs.Option.{option_map_or}
use Rattle.std.specs.Result.{result_ok}
use Rattle.toml.specs.Data.{Data, Items, no_items, item, Members, as_table}
use Rattle.toml_fields.specs.Fields.{◌>>=◌, flag, list, number, optional, required, section, text}
use Rattle.toml_fields.specs.declared.fault.FieldFault.{FieldFault}
use Rattle.toml_fields.specs.declared.fault.FieldFault.TheVariants.{NotAllowed}
use Rattle.account_book.specs.Account.{Account, stated, is_country, is_sound}
use Rattle.account_book.specs.declared.listing.Listing.{Listing}

-- What an account may leave out: its rank, whether its owner is a moderator, whether it is a
-- program, and where it comes from
pub record Profile : Type 0 where
  pub rank : ℕ
  pub access : Bool
  pub bot : Bool
  pub country : List ℕ

abbrev pub profile : ℕ → Bool → Bool → List ℕ → Profile
profile its_rank its_access its_bot its_country = record {
  rank = its_rank;
  access = its_access;
  bot = its_bot;
  country = its_country;
}

-- the profile where a file says nothing of it
abbrev pub plain : Profile
plain = profile 0 false false (codes "??")

-- The profile that a table states, with another's values for what it leaves out
abbrev pub profile_of : Profile → Members → Result Profile FieldFault
profile_of others table =
    optional (number 0 7) others.rank (codes "rank") table >>= (λ rank.
    optional flag others.access (codes "access") table >>= (λ access.
    optional flag others.bot (codes "bot") table >>= (λ bot.
    optional text others.country (codes "country") table >>= (λ country.
    Ok (profile rank access bot country)))))

-- a profile whose country is one
abbrev pub with_country : Profile → Result Profile FieldFault
with_country its = if is_country its.country then Ok its else Err NotAllowed

-- The profile for what accounts leave out: in the second format the one that `default` states
abbrev pub default_of : ℕ → Members → Result Profile FieldFault
default_of format table =
    if format == 2 then optional section None (codes "default") table >>= (λ found.
    option_map_or (λ default. profile_of plain default >>= with_country) found (Ok plain))
    else Ok plain

-- Whether a table states that its account is disabled, as it may in the second format
abbrev pub disabled_of : ℕ → Members → Result Bool FieldFault
disabled_of format table =
    if format == 2 then optional flag false (codes "disabled") table else Ok false

-- What a file says: its format, the profile for what its accounts leave out, and their list
pub record Contents : Type 0 where
  pub format : ℕ
  pub default : Profile
  pub entries : Items

abbrev pub contents : ℕ → Profile → Items → Contents
contents its_format its_default its_entries = record {
  format = its_format;
  default = its_default;
  entries = its_entries;
}

abbrev pub contents_of : Members → Result Contents FieldFault
contents_of table =
    optional (number 1 2) 1 (codes "format") table >>= (λ format.
    default_of format table >>= (λ default.
    optional list no_items (codes "account") table >>= (λ entries.
    Ok (contents format default entries))))

-- The account that a table states, where each field has a value of its kind
abbrev pub fields_of : Profile → Members → Result Account FieldFault
fields_of default table =
    required text (codes "name") table >>= (λ name.
    required text (codes "password") table >>= (λ password.
    required (number 0 4294967295) (codes "id") table >>= (λ id.
    profile_of default table >>= (λ its.
    Ok (stated name password id its.rank its.access its.bot its.country)))))

-- The account that a table states, and whether it is disabled, where the account keeps its rules
abbrev pub listing_of : ℕ → Profile → Members → Option Listing
listing_of format default table =
    option_and_then (λ account. option_and_then (λ disabled.
    if is_sound account then Some (record { account = account; disabled = disabled }) else None)
    (result_ok (disabled_of format table))) (result_ok (fields_of default table))

-- What one entry of the list describes, which has to be a table
abbrev pub described : ℕ → Profile → Data → Option Listing
described format default entry = option_and_then (listing_of format default) (as_table entry)

-- What the entries of a list describe, one each
abbrev pub descriptions : ℕ → Profile → Items → List (Option Listing)
descriptions format default no_items = []
descriptions format default (item entry entries) =
    described format default entry ∷ descriptions format default entries

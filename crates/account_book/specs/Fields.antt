-- What the code gathers of tables, as the definitions have it.
use Rattle.std.specs.Prelude.{Result, Ok, Err}
use Rattle.toml.specs.View.{items_view}
use Rattle.toml_fields.specs.declared.fault.FieldFault.{FieldFault}
use Rattle.account_book.specs.Account.{Account, stated}
use Rattle.account_book.specs.Entries.{Profile, profile, Contents, contents}
use Rattle.account_book.specs.declared.profile.Profile.{Profile as Told}
use Rattle.account_book.specs.declared.fields.Fields.{Fields}
use Rattle.account_book.specs.declared.fields.Contents.{Contents as Gathered}

abbrev pub shown : Told → Profile
shown told = profile told.rank told.access told.bot told.country.now

abbrev pub shown_profile : Result Told FieldFault → Result Profile FieldFault
shown_profile (Ok told) = Ok (shown told)
shown_profile (Err fault) = Err fault

abbrev pub shown_contents : Gathered → Contents
shown_contents told = contents told.format (shown told.default) (items_view told.entries.now)

abbrev pub contents_shown : Result Gathered FieldFault → Result Contents FieldFault
contents_shown (Ok told) = Ok (shown_contents told)
contents_shown (Err fault) = Err fault

abbrev pub stated_of : Result Fields FieldFault → Result Account FieldFault
stated_of (Ok fields) =
    Ok (stated fields.name.now fields.password.now fields.id fields.profile.rank
    fields.profile.access fields.profile.bot fields.profile.country.now)
stated_of (Err fault) = Err fault

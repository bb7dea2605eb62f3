use Rattle.std.proofs.Common.{◌≡◌, ◌∙◌, true, Some, sym, ap, subst}
use Rattle.std.proofs.lemmas.Bool.{false≢true}
use Rattle.account_book.specs.Account.{is_sound}
use Rattle.lobby_script.specs.Accounts.{HasFields, WritesAccount}
use Rattle.lobby_script.specs.Fields.{stated_by}
use Rattle.proxy_line.proofs.Readings.{finds_none}
use Rattle.lobby_script.proofs.AccountLemmas.{no_some, the_some, made_is_sound, refused_is_unsound}
use Rattle.lobby_script.proofs.accounts.read_account.Goals as goal

pub returns-in_default : goal.returns-in_default
returns-in_default c = finds_none (WritesAccount c.args.text.now) (λ account h. no_some _ c.read_fields.result c.in_default.is (c.read_fields.ensures.complete account h.0))

pub returns-in-Ok : goal.returns-in-Ok
returns-in-Ok c =
    let sound : is_sound (stated_by c.in-Some.fields) ≡ true = made_is_sound c.new-made.result c.in-Ok.account _ c.new-made.ensures.bad_field c.in-Ok.is in record {
      sound = (subst (HasFields c.args.text.now) (sym c.in-Ok.ensures.ok) c.in-Some.ensures.sound, ap is_sound c.in-Ok.ensures.ok ∙ sound);
      complete = λ account h. ap Some (c.in-Ok.ensures.ok ∙ the_some _ c.read_fields.result c.in-Some.fields c.in-Some.is (c.read_fields.ensures.complete account h.0));
    }

pub returns-in-BadField : goal.returns-in-BadField
returns-in-BadField c = finds_none (WritesAccount c.args.text.now) (λ account h.
    let refused = refused_is_unsound c.new-made.result c.in-Err.error c.in-BadField.field-0 _ c.new-made.ensures.errors c.new-made.ensures.bad_field c.in-Err.is c.in-BadField.is in
    let same = the_some _ c.read_fields.result c.in-Some.fields c.in-Some.is (c.read_fields.ensures.complete account h.0) in
    false≢true (sym refused ∙ ap is_sound same ∙ h.1))

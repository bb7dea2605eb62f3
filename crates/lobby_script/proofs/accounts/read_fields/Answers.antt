use Rattle.std.proofs.Common.{sym}
use Rattle.lobby_script.proofs.AccountLemmas.{no_some, the_some, same_name, no_password, same_password, then_number}
use Rattle.lobby_script.proofs.accounts.read_fields.Goals as goal

pub returns-in_err-password-clause-complete : goal.returns-in_err-password-clause-complete
returns-in_err-password-clause-complete c = λ account h. absurd (no_password c.args.text.now c.in_ok-name.name.now c.in_ok-name.rest.now account h c.in_ok-name.ensures c.in_err-password.ensures)

pub returns-in_err-id-clause-complete : goal.returns-in_err-id-clause-complete
returns-in_err-id-clause-complete c = λ account h.
    let number = then_number c.args.text.now c.in_ok-name.name.now c.in_ok-name.rest.now account h c.in_ok-name.ensures c.in_ok-password.password.now c.in_ok-password.rest.now c.in_ok-password.ensures in
    absurd (no_some _ c.number_before.result c.in_err-id.was (c.number_before.ensures.complete account.id h.behind_number number))

pub returns-in_err-rank-clause-complete : goal.returns-in_err-rank-clause-complete
returns-in_err-rank-clause-complete c = λ account h.
    let number = then_number c.args.text.now c.in_ok-name.name.now c.in_ok-name.rest.now account h c.in_ok-name.ensures c.in_ok-password.password.now c.in_ok-password.rest.now c.in_ok-password.ensures in
    let same = the_some _ c.number_before.result _ c.in_ok-id.was (c.number_before.ensures.complete account.id h.behind_number number) in
    absurd (no_some _ c.rank_and_country.result c.in_err-rank.was (c.rank_and_country.ensures.complete account.rank account.country (rw same.1 h.end)))

pub returns-clause-complete : goal.returns-clause-complete
returns-clause-complete c = λ account h.
    let number = then_number c.args.text.now c.in_ok-name.name.now c.in_ok-name.rest.now account h c.in_ok-name.ensures c.in_ok-password.password.now c.in_ok-password.rest.now c.in_ok-password.ensures in
    let same = the_some _ c.number_before.result _ c.in_ok-id.was (c.number_before.ensures.complete account.id h.behind_number number) in
    let end = the_some _ c.rank_and_country.result _ c.in_ok-rank.was (c.rank_and_country.ensures.complete account.rank account.country (rw same.1 h.end)) in
    λ i. record {
      name = same_name c.args.text.now c.in_ok-name.name.now c.in_ok-name.rest.now account h c.in_ok-name.ensures i;
      password = same_password c.args.text.now c.in_ok-name.name.now c.in_ok-name.rest.now account h c.in_ok-name.ensures c.in_ok-password.password.now c.in_ok-password.rest.now c.in_ok-password.ensures i;
      id = same.0 i;
      rank = end.0 i;
      access = sym h.access i;
      bot = sym h.bot i;
      country = end.1 i;
    }

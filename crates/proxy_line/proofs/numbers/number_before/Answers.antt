use Rattle.proxy_line.proofs.Readings.{leads_once}
use Rattle.proxy_line.proofs.numbers.number_before.Goals as goal

pub returns-in_err-number-clause-complete : goal.returns-in_err-number-clause-complete
returns-in_err-number-clause-complete c = λ n rest leads.
    let parts = leads_once c.args.separator c.args.text.now c.in_ok-digits.digits.now c.in_ok-digits.rest.now n rest c.requires c.in_ok-digits.ensures leads in
    let found = c.number.ensures.complete n (parts.0, leads.1) in
    let none = c.in_err-number.was in
    absurd cc

pub returns-clause-complete : goal.returns-clause-complete
returns-clause-complete c = λ n rest leads.
    let parts = leads_once c.args.separator c.args.text.now c.in_ok-digits.digits.now c.in_ok-digits.rest.now n rest c.requires c.in_ok-digits.ensures leads in
    let found = c.number.ensures.complete n (parts.0, leads.1) in
    let some = c.in_ok-number.was in
    (cc, parts.1)

use Rattle.proxy_line.proofs.SocketAddresses.{no_space}
use Rattle.proxy_line.proofs.Texts.{same_parts}
use Rattle.std.proofs.Common.{sym, subst}
use Rattle.proxy_line.specs.Words.{IsAddress}
use Rattle.proxy_line.proofs.line.address_before_space.Goals as goal

pub returns-in_err-address-clause-complete : goal.returns-in_err-address-clause-complete
returns-in_err-address-clause-complete c = λ ip rest leads.
    let parts = same_parts 32 c.args.text.now c.in_ok-host.host.now c.in_ok-host.rest.now leads.0 rest c.in_ok-host.ensures (no_space leads.0 ip leads.2) leads.1 in
    let found = c.address.ensures.complete ip (subst (λ host. IsAddress host ip) (sym parts.0) leads.2) in
    let none = c.in_err-address.was in
    absurd cc

pub returns-clause-complete : goal.returns-clause-complete
returns-clause-complete c = λ ip rest leads.
    let parts = same_parts 32 c.args.text.now c.in_ok-host.host.now c.in_ok-host.rest.now leads.0 rest c.in_ok-host.ensures (no_space leads.0 ip leads.2) leads.1 in
    let found = c.address.ensures.complete ip (subst (λ host. IsAddress host ip) (sym parts.0) leads.2) in
    let some = c.in_ok-address.was in
    (cc, parts.1)

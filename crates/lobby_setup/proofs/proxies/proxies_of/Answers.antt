use Rattle.std.proofs.Common.{◌+◌, [], ap, sym, ◌∙◌, subst, arith, Ok, Err}
use Rattle.std.proofs.lemmas.List.{append-nil, length-append}
use Rattle.toml.specs.View.{items_view}
use Rattle.proxy_line.specs.Sets.{listed}
use Rattle.lobby_setup.specs.declared.error.Refusal.TheVariants.{Proxy}
use Rattle.lobby_setup.specs.Proxies.{AreProxies, with_first}
use Rattle.lobby_setup.proofs.Addresses.{behind, behind_one, says_fault, says_address, says_no_more}
use Rattle.lobby_setup.proofs.proxies.proxies_of.Goals as goal

pub returns-in-Err : goal.returns-in-Err
returns-in-Err c =
    c.loop-k.invariant.1 (Err (Proxy (c.loop-k.k + 1) c.in-Err.fault))
    (says_fault c.args.values.now c.loop-k.k c.index-values-k.result c.loop-k-test.true c.index-values-k.is c.in-Err.fault c.in-Err.ensures)

pub loop-k-preserved : goal.loop-k-preserved
loop-k-preserved c =
    let more = c.add.ensures in (
      rw (more, length-append) (omega (arith, c.loop-k.invariant.0)),
      λ said are.
          let first = says_address c.args.values.now c.loop-k.k c.index-values-k.result c.loop-k-test.true c.index-values-k.is c.in-Ok.ip c.in-Ok.ensures said are in
          subst (AreProxies 1 (items_view c.args.values.now)) (sym (ap (λ front. behind front said) more ∙ behind_one (listed c.loop-k.proxies) c.in-Ok.ip said))
          (c.loop-k.invariant.1 (with_first c.in-Ok.ip said) first),
    )

pub returns : goal.returns
returns c =
    subst (AreProxies 1 (items_view c.args.values.now)) (ap Ok (append-nil (listed c.loop-k.proxies)))
    (c.loop-k.invariant.1 (Ok []) (says_no_more c.args.values.now c.loop-k.k c.loop-k-test.false))

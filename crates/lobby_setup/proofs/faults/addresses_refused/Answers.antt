use Rattle.std.proofs.Common.{◌+◌, ◌++◌, [], ap, sym, ◌∙◌, subst, append_assoc, append-nil}
use Rattle.std.specs.Option.{option_to_list}
use Rattle.std.specs.Prelude.{option_map}
use Rattle.std.specs.Result.{result_err}
use Rattle.toml.specs.View.{items_view}
use Rattle.lobby_setup.specs.declared.error.Refusal.TheVariants.{Proxy}
use Rattle.lobby_setup.specs.Faults.{AreProxyFaults}
use Rattle.lobby_setup.proofs.FirstFault.{faults_from, no_faults_behind}
use Rattle.lobby_setup.proofs.faults.addresses_refused.Goals as goal

pub loop-k-preserved : goal.loop-k-preserved
loop-k-preserved c = λ rest are.
    let told = option_to_list (option_map (Proxy (c.loop-k.k + 1)) (result_err c.address_at.result)) in
    subst (AreProxyFaults 1 (items_view c.args.values.now)) (sym (append_assoc c.loop-k.faults.items told rest)
    ∙ ap (λ front. front ++ rest) (sym (c.in_ok-keep.ensures
    ∙ ap (λ fault. c.loop-k.faults.items ++ option_to_list fault) c.proxy_fault-fault.ensures)))
    (c.loop-k.invariant (told ++ rest) (faults_from c.args.values.now c.loop-k.k c.index-values-k.result c.loop-k-test.true c.index-values-k.is
    c.address_at.result c.address_at.ensures rest are))

pub returns : goal.returns
returns c =
    subst (AreProxyFaults 1 (items_view c.args.values.now)) (append-nil c.loop-k.faults.items)
    (c.loop-k.invariant [] (no_faults_behind c.args.values.now c.loop-k.k c.loop-k-test.false))

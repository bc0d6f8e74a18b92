-- The name before the last place is added.
use Rattle.std.proofs.Common.{◌-◌, Some, subst, arith}
use Rattle.std.specs.Ordering.{nat_cmp}
use Rattle.std.specs.BTreeMap as tree
use Rattle.named_port.proofs.NamesLemmas.{has_from_before}
use Rattle.named_port.proofs.names.index_of.Goals as goal

pub loop-number-preserved : goal.loop-number-preserved
loop-number-preserved c =
    let names = c.args.names.now in
    let place = c.loop-number.number - 1 in
    let updates = subst (λ value. tree.Updates nat_cmp c.loop-number.index c.insert.new.self value (Some place)) c.value_of_name.ensures.value c.in_ok-insert.ensures.updates in
    has_from_before names place c.loop-number.number _ c.loop-number.index c.insert.new.self
    (omega (arith, c.loop-number-test.true)) (omega (arith, c.loop-number-test.true, c.loop-number.auto.number)) c.value_of_name.ensures.name c.index-names-number.is c.loop-number.invariant updates

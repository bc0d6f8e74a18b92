use Rattle.cluster_sim.proofs.Floors.{all_next, next_next, no_next}
use Rattle.cluster_sim.proofs.run.list_is_in_range.Goals as goal

pub loop-next-init : goal.loop-next-init
loop-next-init c = no_next c.args.list.now

pub loop-next-preserved : goal.loop-next-preserved
loop-next-preserved c =
    next_next c.args.list.now c.loop-next.next-index c.next-item.result c.value-value.result c.loop-next-test.true c.next-item.is c.value-value.ensures.value c.value-value.ensures.range c.loop-next.invariant

pub returns : goal.returns
returns c = all_next c.args.list.now c.loop-next.next-index c.loop-next-test.false c.loop-next.invariant

use Rattle.cluster_sim.specs.Run.{floor_lists}
use Rattle.cluster_sim.proofs.Floors.{all_nexts, next_nexts, no_nexts}
use Rattle.cluster_sim.proofs.run.floors_are_in_range.Goals as goal

pub loop-list-init : goal.loop-list-init
loop-list-init c = no_nexts (floor_lists c.args.floors.now)

pub loop-list-preserved : goal.loop-list-preserved
loop-list-preserved c =
    next_nexts c.args.floors.now c.loop-list.list-index c.list-item.result c.as_slice.result.now c.loop-list-test.true c.list-item.is c.as_slice.ensures.value c.list_is_in_range.ensures c.loop-list.invariant

pub returns : goal.returns
returns c = all_nexts c.args.floors.now c.loop-list.list-index c.loop-list-test.false c.loop-list.invariant

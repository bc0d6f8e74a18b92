use Rattle.node_parts_tests.proofs.CopyLemmas.{copy_more, count_is, no_copies}
use Rattle.node_parts_tests.proofs.cluster_sim_tests.lists_of.Goals as goal

pub loop-init : goal.loop-init
loop-init c = no_copies c.args.floors.now c.new-lists.result.items c.new-lists.ensures.items

pub loop-preserved : goal.loop-preserved
loop-preserved c =
    copy_more c.args.floors.now c.loop.counter c.loop.lists.items c.push.new.self.items c.in_ok-from_slice.field-0 c.in_ok-push.ensures.items c.in_ok-from_slice.ensures.items c.loop.invariant

pub returns-clause-len : goal.returns-clause-len
returns-clause-len c = count_is c.args.floors.now c.args.n c.loop.counter c.loop.lists.items c.loop-test.false c.loop.auto.counter-end c.loop.invariant

pub returns-clause-same : goal.returns-clause-same
returns-clause-same c = c.loop.invariant.same

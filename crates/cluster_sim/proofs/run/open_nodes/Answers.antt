use Rattle.std.proofs.Common.{ap, ◌∙◌}
use Rattle.cluster_sim.proofs.Opening.{all_open, next_open, none_open}
use Rattle.cluster_sim.proofs.run.open_nodes.Goals as goal

pub loop-index-init : goal.loop-index-init
loop-index-init c = none_open (record { book = c.args.book.now; limits = c.args.settings }) c.args.key.now c.args.floors.now c.new-nodes.result.items c.new-nodes.ensures.items

pub loop-index-preserved : goal.loop-index-preserved
loop-index-preserved c =
    next_open (record { book = c.args.book.now; limits = c.args.settings }) c.args.key.now c.args.floors.now c.loop-index.index _ c.as_slice.result.now c.in-Some.place c.loop-index.nodes.items c.push.new.self.items
    c.in_ok-node.node c.loop-index-test.true (c.as_slice.ensures.value ∙ ap (λ v. v.items) c.index-floors-index.is) c.in-Some.ensures.value c.in_ok-push.ensures.items
    c.requires.each c.in_ok-node.ensures c.loop-index.invariant

pub returns : goal.returns
returns c =
    all_open (record { book = c.args.book.now; limits = c.args.settings }) c.args.key.now c.args.floors.now c.loop-index.index c.loop-index.nodes.items c.loop-index-test.false c.loop-index.auto.index-end c.loop-index.invariant

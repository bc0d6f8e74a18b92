use Rattle.std.proofs.Common.{Some, ap, map, sym, ◌∙◌}
use Rattle.std.proofs.lemmas.Option.{slice_get-get_or}
use Rattle.oath_node.specs.Machine.{Config}
use Rattle.cluster_sim.specs.Run.{event_of}
use Rattle.cluster_sim.proofs.Played.{at_end, at_next, at_start}
use Rattle.cluster_sim.proofs.run.play.Goals as goal

pub loop-number-init : goal.loop-number-init
loop-number-init c w spelled h =
    let config : Config = record { book = c.args.shared.now.book.now; limits = c.args.shared.now.settings } in
    at_start config c.args.shared.now.key.now (map (event_of c.args.shared.now.key.now) c.args.events.now) w (record { nodes = c.args.nodes.now; journal = c.args.journal.now }) h

pub loop-number-preserved : goal.loop-number-preserved
loop-number-preserved c w spelled h =
    let config : Config = record { book = c.args.shared.now.book.now; limits = c.args.shared.now.settings } in
    let x = c.index-events-number.result in
    at_next (event_of c.args.shared.now.key.now) config c.args.shared.now.key.now c.args.events.now w c.loop-number.number x (record { nodes = c.loop-number.nodes; journal = c.loop-number.journal })
    (record { nodes = c.happen.new.nodes; journal = c.happen.new.journal })
    (slice_get-get_or c.args.events.now c.loop-number.number x c.loop-number-test.true ∙ ap (λ e. Some e) (sym c.index-events-number.is)) spelled c.in_ok-happen.ensures.plays (c.loop-number.invariant w spelled h)

pub returns : goal.returns
returns c w spelled h =
    let config : Config = record { book = c.args.shared.now.book.now; limits = c.args.shared.now.settings } in
    at_end (event_of c.args.shared.now.key.now) config c.args.shared.now.key.now c.args.events.now w c.loop-number.number (record { nodes = c.loop-number.nodes; journal = c.loop-number.journal })
    c.loop-number-test.false c.loop-number.auto.number-end (c.loop-number.invariant w spelled h)

use Rattle.std.proofs.Common.{sym, subst}
use Rattle.std.specs.Prelude.{OnOk}
use Rattle.oath_node.specs.Machine.{Config}
use Rattle.cluster_sim.specs.Journal.{IsRun}
use Rattle.cluster_sim.specs.Run.{event_of}
use Rattle.cluster_sim.specs.World.{world_after_event}
use Rattle.cluster_sim.specs.declared.script.WorldEvent.{WorldEvent}
use Rattle.cluster_sim.proofs.simulation.happen.Goals as goal

pub returns-in-Happens-clause-plays : goal.returns-in-Happens-clause-plays
unfolding world_after_event
returns-in-Happens-clause-plays c w h spelled =
    let shared = c.args.shared.now in
    let config : Config = record { book = shared.book.now; limits = shared.settings } in
    let key = shared.key.now in
    subst (λ (x : WorldEvent). OnOk c.perform.result (IsRun config key (world_after_event config c.args.number (event_of key x) w) (record { nodes = c.perform.new.nodes; journal = c.perform.new.journal })))
    (sym c.in-Happens.is) (c.perform.ensures.plays config w h spelled)

pub returns-in-Cut-clause-plays : goal.returns-in-Cut-clause-plays
returns-in-Cut-clause-plays c w h spelled =
    let shared = c.args.shared.now in
    let config : Config = record { book = shared.book.now; limits = shared.settings } in
    let key = shared.key.now in
    subst (λ (x : WorldEvent). OnOk c.cut.result (IsRun config key (world_after_event config c.args.number (event_of key x) w) (record { nodes = c.cut.new.nodes; journal = c.cut.new.journal })))
    (sym c.in-Cut.is) (c.cut.ensures.plays config w h spelled)

pub returns-in-Restart-clause-plays : goal.returns-in-Restart-clause-plays
unfolding world_after_event
returns-in-Restart-clause-plays c w h spelled =
    let shared = c.args.shared.now in
    let config : Config = record { book = shared.book.now; limits = shared.settings } in
    let key = shared.key.now in
    subst (λ (x : WorldEvent). IsRun config key (world_after_event config c.args.number (event_of key x) w) (record { nodes = c.reopen_at.new.nodes; journal = c.args.journal.now }))
    (sym c.in-Restart.is) (c.reopen_at.ensures.restarts config key w h)

pub returns-in-Lost-clause-plays : goal.returns-in-Lost-clause-plays
unfolding world_after_event
returns-in-Lost-clause-plays c w h spelled =
    let shared = c.args.shared.now in
    let config : Config = record { book = shared.book.now; limits = shared.settings } in
    let key = shared.key.now in
    subst (λ (x : WorldEvent). OnOk c.lose.result (IsRun config key (world_after_event config c.args.number (event_of key x) w) (record { nodes = c.args.nodes.now; journal = c.lose.new.journal })))
    (sym c.in-Lost.is) (c.lose.ensures key config w h spelled)

pub returns-in-Anew-clause-plays : goal.returns-in-Anew-clause-plays
unfolding world_after_event
returns-in-Anew-clause-plays c w h spelled =
    let shared = c.args.shared.now in
    let config : Config = record { book = shared.book.now; limits = shared.settings } in
    let key = shared.key.now in
    subst (λ (x : WorldEvent). OnOk c.renew.result (IsRun config key (world_after_event config c.args.number (event_of key x) w) (record { nodes = c.renew.new.nodes; journal = c.renew.new.journal })))
    (sym c.in-Anew.is) (c.renew.ensures.plays c.args.number w h spelled)

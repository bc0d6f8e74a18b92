use Rattle.std.proofs.Common.{Some, ap, ◌∙◌, sym}
use Rattle.std.specs.Prelude.{is_some}
use Rattle.oath_node.specs.Hosted.{event_of}
use Rattle.cluster_sim.proofs.HostLemmas.{store_gone, store_there}
use Rattle.cluster_sim.proofs.Records.{gone_run, turn_plays}
use Rattle.cluster_sim.specs.Journal.{used_in}
use Rattle.cluster_sim.proofs.simulation.turn.Goals as goal

pub returns-then-is_some-clause-plays : goal.returns-then-is_some-clause-plays
returns-then-is_some-clause-plays c key config w h spelled =
    let node = c.args.node in
    let gone = store_gone _ (used_in c.args.journal.now.losses node) (w.lost node) (w.nodes node) (h.losses.used node) (ap is_some (sym c.used_boot.ensures) ∙ sym c.is_some.ensures ∙ c.if-is_some.true) in
    gone_run config key c.args.event node (Some (event_of key c.args.what)) w c.args.is_told (record { nodes = c.args.nodes.now; journal = c.args.journal.now }) gone h

pub returns-clause-plays : goal.returns-clause-plays
returns-clause-plays c key config w h spelled =
    let node = c.args.node in
    let there = store_there _ (used_in c.args.journal.now.losses node) (w.lost node) (w.nodes node) (h.losses.used node) (ap is_some (sym c.used_boot.ensures) ∙ sym c.is_some.ensures ∙ c.if-is_some.false) in
    turn_plays config key c.args.event node (event_of key c.args.what) w c.args.is_told c.ask-outputs.result (record { nodes = c.args.nodes.now; journal = c.args.journal.now }) c.ask-outputs.new.nodes c.take.new.journal
    c.take.result h c.ask-outputs.ensures.len there (c.ask-outputs.ensures.asks config key w.n w.lost w.nodes h.n there h.hosts) c.take.ensures
